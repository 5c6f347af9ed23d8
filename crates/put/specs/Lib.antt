pub mod Put
pub mod PutLaws
pub mod Output
pub mod LineLaws
