pub mod SpelledNames
pub mod Short
pub mod Sent
pub mod Datagrams
pub mod Steps
pub mod Reading
