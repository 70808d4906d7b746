pub mod Words
pub mod Told
pub mod Backs
pub mod QueryBack
pub mod ResponseBack
pub mod Spelled
