pub mod ReadingAgrees
pub mod ManualAgrees
