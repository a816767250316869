pub mod PatchLemmas
pub mod ReadyLemmas
pub mod SoundLemmas
pub mod Steps
pub mod Memory
pub mod Values
