pub mod Filled
pub mod ListsFilled
pub mod SignaturePut
