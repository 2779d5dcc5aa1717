pub mod Samples
pub mod Laying
