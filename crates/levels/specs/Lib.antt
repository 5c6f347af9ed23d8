pub mod Each
pub mod Ranges
pub mod RangeLaws
pub mod Levels
pub mod LevelLaws
