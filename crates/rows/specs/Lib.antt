pub mod Rows
pub mod RowLaws
pub mod Book
pub mod BookLaws
