pub mod SameLaws
pub mod FreeLaws
pub mod OpenLaws
pub mod Sample
pub mod SampleLaws
pub mod LimitLaws
