pub mod Chains
pub mod LineTexts
pub mod Left
pub mod Printed
pub mod Complete
