pub mod Digits
pub mod FigureLaws
pub mod DigitLaws
