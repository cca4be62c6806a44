pub mod Panel
pub mod Events
pub mod Questions
pub mod InNumbers
pub mod ForC
pub mod LoadsLaws
pub mod QuestionsLaws
