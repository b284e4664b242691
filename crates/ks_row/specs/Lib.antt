pub mod Rows
pub mod FieldKeys
pub mod Spelling
pub mod Reading
pub mod Codecs
pub mod Judged
pub mod Fields
