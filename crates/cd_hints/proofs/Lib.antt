mod Ascending
pub mod Listed
mod Reach
mod HintBits
mod EachOption
mod WholeBytes
mod HeaderFlags
mod SignatureFields
mod ItemFields
mod BareFields
pub mod KeptAmong
mod Searching
