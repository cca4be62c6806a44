pub mod Identity
pub mod Trim
pub mod Note
pub mod IdentityLaws
pub mod MonthLaws
pub mod TrimLaws
pub mod Examples
