mod Totals
mod Arrays
mod Visits
mod Blocks
mod Fits
mod SignatureRanges
mod Parts
mod Lists
mod Halves
mod Items
mod Runs
mod MessageRanges
pub mod EventRanges
pub mod DatagramRanges
mod TablesReadable
mod RecordsReadable
pub mod RunsReadable
pub mod EventTimes
pub mod NamesKept
