pub mod Places
pub mod ForC
pub mod PlacesLaws
pub mod FinderLaws
