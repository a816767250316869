pub mod Counted
pub mod Counts
pub mod Laws
pub mod Places
pub mod Spent
pub mod Tables
pub mod Tallies
