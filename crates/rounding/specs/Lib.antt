pub mod Rounding
pub mod RoundingLaws
