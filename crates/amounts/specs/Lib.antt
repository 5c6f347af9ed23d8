pub mod Lines
pub mod ValueLimits
pub mod LineLaws
pub mod Singles
pub mod Lots
pub mod AmountLaws
pub mod Limits
