mod EachInTurn
mod EachNamed
pub mod KeptEquality
pub mod Among
pub mod IndexingTables
pub mod IndexingLists
pub mod Indexing
