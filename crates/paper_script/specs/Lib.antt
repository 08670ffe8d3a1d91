-- Scripts for string solvers (request K4): what an expression means, how a script is read, and the script of a question.
pub mod Bytes
pub mod Language
pub mod Escapes
pub mod Lexemes
pub mod Reader
pub mod Script
pub mod Means
pub mod Scripting
