pub mod Tallying
pub mod RunLists
pub mod Fronts
pub mod OneCut
pub mod OneRecord
pub mod Histories
pub mod Keeping
