pub mod Heads
pub mod TestLaws
pub mod SameLaws
pub mod HeadLaws
pub mod FigureLaws
