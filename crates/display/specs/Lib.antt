pub mod Words
pub mod Page
pub mod WordsLaws
pub mod PageLaws
pub mod Examples
