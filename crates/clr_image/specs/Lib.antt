pub mod Migration
pub mod Texts
