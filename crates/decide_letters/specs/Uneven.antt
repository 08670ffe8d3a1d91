-- Letters by inner codes, of the struct of the code.
use Rattle.std.specs.Prelude.{ℕ, ◌≡◌, Bool, true, false, List, length, get_or}
use Rattle.paper_decide.specs.Letters.{this_one}
use Rattle.base_codes.specs.Inner.{field_code, tokens}
use Rattle.base_editions.specs.Editions.{paper_edition}
use Rattle.decide_letters.specs.LettersCoded.{uneven_coded}
use Rattle.decide_letters.specs.declared.Asked.{Asked}

-- whether they are uneven, by the test of characters
abbrev pub uneven_asked : Asked → (ℕ → Bool) → Bool
uneven_asked a = uneven_coded (paper_edition a.edition) (tokens a.left) (tokens a.right) a.bodies a.first.now a.second.now

-- The characters that were tried have a mark, and by none of them the sides are uneven.
pub record Seen (uneven : (ℕ → Bool) → Bool) (marks : List Bool) : Type 0 where
  pub long : length marks ≡ field_code
  pub even : (c : ℕ) → get_or marks c false ≡ true → uneven (this_one c) ≡ false
