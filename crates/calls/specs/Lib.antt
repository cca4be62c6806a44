pub mod Call
pub mod CallLaws
pub mod LendLaws
pub mod BuildReads
