pub mod Finds
pub mod Numbers
pub mod Texts
pub mod Asked
pub mod Answering
pub mod Only
