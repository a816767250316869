pub mod NameLemmas
pub mod OperandLemmas
