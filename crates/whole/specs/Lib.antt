pub mod Rounded
pub mod RoundedLaws
pub mod Wrapped
pub mod WrappedLaws
pub mod Examples
