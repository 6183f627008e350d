pub mod File
pub mod Numbers
pub mod Code
pub mod Targets
pub mod Fit
pub mod Marks
pub mod Inspection
