pub mod Lines
pub mod Facts
pub mod LetterLaws
pub mod NumberLaws
pub mod FormLaws
pub mod LineLaws
pub mod TurnLaws
pub mod ItemLaws
