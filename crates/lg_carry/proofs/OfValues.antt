pub mod ComputationLemmas
pub mod FormLemmas
pub mod ResultLemmas
pub mod OneResultLemmas
pub mod TwoResultLemmas
pub mod OneWordLemmas
pub mod ValueNodeLemmas
