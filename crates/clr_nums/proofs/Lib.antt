pub mod DecimalText
pub mod HexText
pub mod PairTables
pub mod Units
