pub mod ExportLaws
pub mod Exports
pub mod Script
pub mod Runs
