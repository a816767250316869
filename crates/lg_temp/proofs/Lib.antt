pub mod Answers
pub mod ChoiceLemmas
pub mod FirstLemmas
pub mod Induction
pub mod PaceLemmas
pub mod SavedLemmas
pub mod Steps
