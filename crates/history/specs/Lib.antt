pub mod History
pub mod Code
pub mod Counts
pub mod Demand
pub mod AnswerLaws
pub mod SameLaws
pub mod Idle
