pub mod Reading
pub mod Next
pub mod GroupLaws
pub mod RowLaws
pub mod SheetLaws
pub mod TurnLaws
pub mod StepLaws
pub mod QuoteLaws
