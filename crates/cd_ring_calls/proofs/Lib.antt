pub mod Apart
pub mod Popped
