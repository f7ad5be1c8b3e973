-- What the bytes of an image mean: rounding, floats, orders and blocks.
pub mod Blocks
pub mod Examples
pub mod Floats
pub mod Increments
pub mod Laws
pub mod Orders
pub mod Rounding
pub mod Settings
