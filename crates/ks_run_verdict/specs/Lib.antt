pub mod Told
pub mod Journals
pub mod Verdict
pub mod Answers
pub mod Audited
pub mod Commands
