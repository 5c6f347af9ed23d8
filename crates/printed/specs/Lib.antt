pub mod Printed
pub mod PartLaws
pub mod PrintedLaws
pub mod PlacedLaws
