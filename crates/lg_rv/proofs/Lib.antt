pub mod AgainLemmas
pub mod RowLemmas
pub mod SpellsLemmas
