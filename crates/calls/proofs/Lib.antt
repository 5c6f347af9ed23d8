pub mod KeepLaws
pub mod AnswerLaws
