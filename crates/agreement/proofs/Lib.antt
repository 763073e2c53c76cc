pub mod Both
pub mod Cells
pub mod Determined
pub mod Differences
