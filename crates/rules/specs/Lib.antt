pub mod Lots
pub mod LotLaws
pub mod Rules
pub mod Facts
pub mod RuleLaws
