-- codes laid one after the other
pub mod Laying
