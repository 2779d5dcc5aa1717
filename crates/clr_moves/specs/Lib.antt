pub mod Moves
pub mod Told
pub mod Overlaid
pub mod PlugMoves
pub mod Going
pub mod Objects
pub mod Promoted
pub mod Together
