-- What stands in a larger room (request K11): of a sheet, of a catalogue, of what is decided.
pub mod Stands
