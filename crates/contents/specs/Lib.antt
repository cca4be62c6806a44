pub mod Lines
pub mod LinesLaws
pub mod ChecksLaws
