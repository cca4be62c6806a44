pub mod DigitsLaws
pub mod RecordLaws
pub mod GatheredLaws
pub mod LineLaws
pub mod TextLaws
