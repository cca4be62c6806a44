pub mod Digits
pub mod DigitsLaws
pub mod PairsLaws
pub mod WrittenPairsLaws
pub mod BlockLaws
pub mod BytesLaws
