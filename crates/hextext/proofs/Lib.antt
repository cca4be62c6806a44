pub mod RecordLaws
pub mod WithoutLaws
pub mod TextLaws
