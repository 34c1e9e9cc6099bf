pub mod PicksLemmas
pub mod SlotsLemmas
pub mod Filtered
pub mod Chosen
pub mod Ranks
