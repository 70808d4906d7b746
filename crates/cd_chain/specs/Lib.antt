pub mod Calls
pub mod Cells
pub mod Chains
pub mod Contents
pub mod Holds
pub mod Lanes
pub mod Links
pub mod Lists
