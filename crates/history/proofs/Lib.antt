pub mod HistoryLaws
pub mod ProgramLaws
pub mod IdleLaws
