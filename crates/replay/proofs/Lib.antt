pub mod Blanks
pub mod Plain
pub mod Steps
pub mod Lines
pub mod Apart
pub mod Mapped
