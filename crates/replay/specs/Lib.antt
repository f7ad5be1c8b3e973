-- The program replay: its input, its run and its listing.
pub mod Failures
pub mod Entries
pub mod Words
pub mod Inputs
pub mod Refusals
pub mod Listing
pub mod Runs
pub mod Replays
