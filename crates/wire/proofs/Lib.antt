pub mod Arrangements
pub mod Steps
pub mod Wholes
