pub mod AbsorbLemmas
pub mod MergeLemmas
pub mod RoomLemmas
pub mod SplitLemmas
