mod Laying
mod Looking
pub mod Calls
