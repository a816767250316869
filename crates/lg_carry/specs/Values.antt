pub mod Computers
pub mod Parts
pub mod ValueNodes
pub mod Values
