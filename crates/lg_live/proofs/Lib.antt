mod SetLemmas
pub mod BitLemmas
pub mod ChainLemmas
pub mod LinkLemmas
pub mod LiveLemmas
pub mod MarkLemmas
pub mod PointLemmas
pub mod SearchLemmas
pub mod SweepLemmas
