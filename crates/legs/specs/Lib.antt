pub mod Legs
pub mod Ratios
pub mod RatioLaws
