pub mod Build
pub mod Lines
pub mod BuildLaws
pub mod GivenLaws
pub mod CheckLaws
pub mod WriteLaws
pub mod Built
