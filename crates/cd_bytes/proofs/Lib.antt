pub mod Bytes
pub mod Carrying
pub mod Offsets
pub mod Summing
