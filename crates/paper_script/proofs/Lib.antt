-- the expression of a pattern, and its texts
pub mod Tree
pub mod SameTexts
-- the script, lexeme by lexeme
pub mod Literal
pub mod Lexed
pub mod LexedScript
-- what is read from it
pub mod ReadBack
pub mod ScriptMeans
pub mod SameQuestion
-- how long it is
pub mod Length
-- what is promised of writing one
pub mod ScriptPromised
-- known scripts: the checker computes them
pub mod KnownScripts
