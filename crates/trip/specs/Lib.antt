pub mod Facts
pub mod LineLaws
pub mod TextLaws
pub mod TripLaws
