pub mod Interning
pub mod Equality
pub mod Growing
pub mod Indexes
pub mod Once
