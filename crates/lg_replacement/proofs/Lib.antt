pub mod ArgumentLaws
pub mod CallLaws
pub mod ExpansionLemmas
pub mod ReplacementLemmas
