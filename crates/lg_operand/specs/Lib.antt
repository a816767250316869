pub mod Operands
pub mod Registers
