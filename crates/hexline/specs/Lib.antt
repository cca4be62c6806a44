pub mod Line
pub mod Taken
pub mod JudgeLaws
pub mod TypedLaws
pub mod TakenLaws
pub mod EndsLaws
