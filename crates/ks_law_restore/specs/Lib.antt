pub mod Views
pub mod Commits
pub mod Laws
pub mod Replicas
pub mod Example
