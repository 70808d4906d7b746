pub mod Flags
pub mod Times
pub mod Ends
pub mod Messages
pub mod Datagrams
pub mod Order
pub mod Rebuilding
pub mod Laws
