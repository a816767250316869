pub mod LoadLemmas
pub mod PartLemmas
pub mod PlaceLemmas
pub mod WordLemmas
