pub mod A64Computers
pub mod A64Rows
pub mod A64Touched
pub mod Computations
pub mod Destinations
pub mod Numbers
pub mod Places
pub mod Touches
