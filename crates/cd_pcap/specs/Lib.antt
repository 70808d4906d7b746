pub mod Pcap
pub mod Spelled
pub mod Reading
pub mod Fronts
pub mod Giving
pub mod Writing
pub mod Laws
