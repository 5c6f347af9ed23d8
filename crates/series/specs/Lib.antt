pub mod Natures
pub mod Checks
pub mod CheckLaws
pub mod Key
pub mod KeyLaws
