pub mod Known
pub mod Stillness
