pub mod Numbers
pub mod Tables
pub mod Places
pub mod Changes
pub mod Tops
pub mod Laws
