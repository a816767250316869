pub mod Found
pub mod Hex
pub mod Tally
