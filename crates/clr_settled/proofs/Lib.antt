pub mod KeptRests
pub mod SettledPieces
pub mod SettledLawful
pub mod LooksAlike
pub mod Asked
pub mod Dumped
