pub mod LineLaws
pub mod ForthLaws
pub mod BackLaws
pub mod TripLaws
