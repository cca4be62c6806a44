pub mod Contract
pub mod ContractLaws
pub mod Determined
pub mod Free
pub mod Lent
