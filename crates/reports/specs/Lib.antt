pub mod Reports
pub mod Counts
pub mod CountLaws
pub mod ReportLaws
pub mod Statement
pub mod StatementLaws
pub mod Desk
pub mod DeskLaws
