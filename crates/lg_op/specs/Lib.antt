pub mod Forms
pub mod Names
pub mod Nodes
pub mod Operands
pub mod Operators
