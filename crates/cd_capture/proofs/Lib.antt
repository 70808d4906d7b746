pub mod Telling
pub mod Growing
pub mod Standing
