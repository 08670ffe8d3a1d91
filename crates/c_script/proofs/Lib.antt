pub mod ScriptTelling
