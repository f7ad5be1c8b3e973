-- Drive files: records, calls, listings.
pub mod Lines
pub mod Faults
pub mod Records
pub mod Kinds
pub mod Drives
pub mod Heads
pub mod Listings
