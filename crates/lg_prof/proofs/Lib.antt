pub mod CountLemmas
pub mod LineLemmas
pub mod MeantLemmas
pub mod SpentLemmas
pub mod SumLemmas
pub mod TableLemmas
pub mod TallyLemmas
pub mod WriteLemmas
