pub mod HeaderFlags
pub mod Roots
pub mod Ordering
pub mod Flattening
pub mod NoOpt
pub mod Fitting
