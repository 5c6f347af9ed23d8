pub mod Rows
pub mod Sheet
pub mod View
pub mod Seeking
pub mod SeekLaws
pub mod TableLaws
pub mod LookupLaws
