pub mod Checksum
pub mod Numbers
pub mod Reading
