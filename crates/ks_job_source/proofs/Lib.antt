pub mod Machines
pub mod Taking
pub mod Opened
pub mod Opens
pub mod Counts
pub mod Numbers
pub mod AuditOpens
pub mod Cuts
