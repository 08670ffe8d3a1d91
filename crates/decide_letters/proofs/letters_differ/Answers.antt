-- `letters_differ` meets its contract, by what its parts promise.
use Prim.Native.Nat.{ℕ}
use mathlib.Core.Path.{sym, ◌∙◌}
use mathlib.Core.Bool.{Bool}
use Rattle.base_codes.specs.Inner.{tokens}
use Rattle.base_editions.specs.Editions.{paper_edition}
use Rattle.decide_letters.specs.LettersCoded.{uneven_coded, letters_coded}
use Rattle.decide_letters.proofs.Tried.{seen_none, by_all, by_left, by_right}
use Rattle.decide_letters.proofs.letters_differ.Goals.{Start}
use Rattle.decide_letters.proofs.letters_differ.Goals as goal

abbrev its-uneven : Start → (ℕ → Bool) → Bool
its-uneven s =
    let a = s.args in
    uneven_coded (paper_edition a.edition) (tokens a.left) (tokens a.right) a.bodies a.first.now a.second.now

pub returns-then-uneven : goal.returns-then-uneven
unfolding letters_coded
returns-then-uneven c =
    let a = c.args in
    by_all (its-uneven (goal.at.returns-then-uneven c).Start) a.space (tokens a.left) (tokens a.right) (sym c.uneven.ensures ∙ c.if-uneven.true)

pub uneven_by_some-requires : goal.uneven_by_some-requires
uneven_by_some-requires c = seen_none (its-uneven (goal.at.uneven_by_some-requires c).Start)

pub returns-then-uneven_by_some : goal.returns-then-uneven_by_some
unfolding letters_coded
returns-then-uneven_by_some c =
    let a = c.args in
    c.if-uneven_by_some.true
    ∙ by_left (its-uneven (goal.at.returns-then-uneven_by_some c).Start) a.space (tokens a.left) (tokens a.right) (sym c.uneven.ensures ∙ c.if-uneven.false) (sym c.uneven_by_some.ensures.uneven ∙ c.if-uneven_by_some.true)

pub uneven_by_some-requires-else-uneven_by_some : goal.uneven_by_some-requires-else-uneven_by_some
uneven_by_some-requires-else-uneven_by_some c = c.uneven_by_some.ensures.seen c.if-uneven_by_some.false

pub returns-else-uneven_by_some : goal.returns-else-uneven_by_some
unfolding letters_coded
returns-else-uneven_by_some c =
    let a = c.args in
    by_right (its-uneven (goal.at.returns-else-uneven_by_some c).Start) a.space (tokens a.left) (tokens a.right) (sym c.uneven.ensures ∙ c.if-uneven.false) (sym c.uneven_by_some.ensures.uneven ∙ c.if-uneven_by_some.false)
    c.uneven_by_some-else-uneven_by_some.result c.uneven_by_some-else-uneven_by_some.ensures.uneven
