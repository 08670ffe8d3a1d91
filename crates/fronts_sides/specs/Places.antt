-- What the codes of two bytes at one place say: that the sides differ there, that nothing more is fixed, or nothing.
use Rattle.std.specs.Prelude.{ℕ, Bool, true, false, cond, eqb, ltb, Option, Some, None}
use Rattle.paper.specs.Numbers.{most_characters}

abbrev pub place_told : ℕ → ℕ → Option Bool
place_told a b =
    cond (ltb a most_characters) (cond (ltb b most_characters) (cond (eqb a b) None (Some true)) (Some false)) (Some false)
