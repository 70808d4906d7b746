pub mod Statuses
pub mod Reports
pub mod Drilling
pub mod Refusing
pub mod Run
