pub mod Numbers
pub mod Spellings
pub mod Still
pub mod Going
