pub mod PlainHalves
