mod MeaningLemmas
mod NodeLemmas
mod ReadLemmas
mod SpelledLemmas
pub mod LocalLemmas
