pub mod Halving
pub mod HalvingLaws
