-- reading a rule depends on its bytes alone; the form of a catalogue; good rules
pub mod Local
pub mod Form
pub mod GoodRule
-- pairs
pub mod OwnSheet
pub mod Pair
pub mod RightAsking
-- the calls
pub mod Adding
pub mod Withdrawing
pub mod Apart
pub mod Rechecked
-- known calls that an edit needs: the checker computes them
pub mod KnownFew
