pub mod DigitsLaws
pub mod RecordLaws
pub mod TextLaws
pub mod RecordsLaws
