pub mod Behaviors
pub mod Chunks
pub mod Driving
pub mod Steps
pub mod Nowhere
