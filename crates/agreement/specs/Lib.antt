pub mod Difference
pub mod Agree
