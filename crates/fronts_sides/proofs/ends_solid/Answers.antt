-- `ends_solid` meets its contract, by the last byte.
use Prim.Native.Nat.{ℕ, ◌-◌}
use mathlib.Core.Path.{◌≡◌, sym, ap, ◌∙◌}
use mathlib.Core.Bool.{not}
use mathlib.Core.List.{List, ◌∷◌, reverse}
use lib.Dec.{eqb}
use lib.ListN.{length, take}
use borrow.Author.Rules.{rules}
use Rattle.paper.specs.Alphabet.{Edition, alphabet_of}
use Rattle.paper.specs.Sheet.{token}
use Rattle.paper_fronts.specs.FixedFronts.{begins_solid, side_said}
use Rattle.base_editions.specs.Editions.{paper_edition}
use Rattle.base_editions.specs.declared.Alphabet.{Alphabet}
use Rattle.fronts_sides.proofs.FixedWalk.{next_behind, whole_behind, none_behind, field_first, character_first}
use Rattle.fronts_sides.proofs.ends_solid.Goals.{After-code-last}
use Rattle.fronts_sides.proofs.ends_solid.Goals as goal

pub returns-then-n-eq0 : goal.returns-then-n-eq0
returns-then-n-eq0 c =
    let a = c.args in
    let e = paper_edition a.edition in
    sym (ap (begins_solid (alphabet_of e).space) (whole_behind e a.side.now ∙ none_behind e a.side.now (length a.side.now) c.if-n-eq0.true))

-- the last token, by its code
module _ (k : After-code-last) where
  abbrev its_edition : Edition
  its_edition = paper_edition k.args.edition

  abbrev its_side : List ℕ
  its_side = k.args.side.now

  last : reverse (side_said its_edition its_side) ≡ token k.code-last.result ∷ reverse (side_said its_edition (take (length its_side - 1) its_side))
  last = whole_behind its_edition its_side ∙ next_behind its_edition its_side (length its_side) k.code-last.result (search rules) (search rules) k.code-last.ensures

pub returns-then-last-ge-CHARACTERS : goal.returns-then-last-ge-CHARACTERS
returns-then-last-ge-CHARACTERS c =
    sym (field_first (alphabet_of (paper_edition c.args.edition)).space c.code-last.result (last (goal.at.returns-then-last-ge-CHARACTERS c).After-code-last) c.if-last-ge-CHARACTERS.true)

pub returns : goal.returns
returns c =
    sym (character_first (alphabet_of (paper_edition c.args.edition)).space c.code-last.result (last (goal.at.returns c).After-code-last) c.if-last-ge-CHARACTERS.false
    ∙ ap (λ (x : ℕ). not (eqb c.code-last.result x)) (sym (ap (λ (a : Alphabet). a.space) c.alphabet_of-own.ensures)))
