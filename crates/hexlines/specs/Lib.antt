pub mod Taken
pub mod AnyLineLaws
pub mod LettersLaws
pub mod CountLaws
pub mod DueLaws
pub mod DueLineLaws
