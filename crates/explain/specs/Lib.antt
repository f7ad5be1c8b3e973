-- The plain words for what a drive file tells.
pub mod Names
pub mod Effects
pub mod Words
pub mod Explanations
