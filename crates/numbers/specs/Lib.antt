pub mod Fields
pub mod Slices
pub mod FieldsLaws
pub mod SlicesLaws
