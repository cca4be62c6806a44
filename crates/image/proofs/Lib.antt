pub mod LineLaws
pub mod SectionsRoundTrip
pub mod FindLaws
pub mod ImageRoundTrip
