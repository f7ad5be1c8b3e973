-- What a weigher is: its orders, answers, meaning and rules, and each kind.
pub mod Orders
pub mod Answers
pub mod Scale
pub mod Kind
pub mod Rules
pub mod Held
pub mod Bases
pub mod Fresh
pub mod Readings
pub mod Singles
pub mod Ramp
pub mod Ramps
pub mod Seal
pub mod Seals
pub mod Cell
pub mod Cells
