pub mod Inspecting
pub mod Resolved
pub mod Growing
pub mod Lawful
pub mod Standing
pub mod ReadCounting
pub mod Rebuilding
