pub mod Runs
pub mod Statistics
pub mod Earliest
pub mod Blocks
pub mod Cutting
pub mod Laws
pub mod Tallies
