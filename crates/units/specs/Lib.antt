pub mod Facts
pub mod Units
pub mod LimitLaws
pub mod UnitLaws
