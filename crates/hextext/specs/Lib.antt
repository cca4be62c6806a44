pub mod Answers
pub mod Record
pub mod Text
pub mod Lines
pub mod Written
pub mod WrittenLaws
