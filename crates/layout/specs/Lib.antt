pub mod SumsLaws
