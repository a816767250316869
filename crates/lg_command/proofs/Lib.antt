pub mod Commands
pub mod Defaults
pub mod Numbers
pub mod PlanLemmas
pub mod Ranges
