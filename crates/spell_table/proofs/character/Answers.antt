-- `character` meets its contract. The loop's invariant: it is still to be found from c on.
use mathlib.Core.Path.{refl, sym, ap, ◌∙◌}
use borrow.Author.Rules.{rules}
use lib.Dec.{eqb}
use Rattle.paper.proofs.base.Tests.{left_false, right_false, neq_eqb, le_ltb, lt_ltb}
use Rattle.paper_spell.specs.FullAscii.{ascii, shift_of, value_of}
use Rattle.spell_table.specs.Entries.{found}
use Rattle.spell_table.proofs.Looking.{found_here, not_here, none_left}
use Rattle.spell_table.proofs.character.Goals.{else-entry-s-via-then-entry-s+else-value-v, else-entry-s-via-else-entry-s}
use Rattle.spell_table.proofs.character.Goals as goal

pub loop-c-init : goal.loop-c-init
loop-c-init c = refl

pub returns-then-value-v : goal.returns-then-value-v
returns-then-value-v c =
    let s = c.unwrap_or-s.result in
    let is = c.loop-c.invariant ∙ found_here s c.args.v c.loop-c.c (search rules) (sym c.entry.ensures ∙ c.if-entry-s.true) (sym c.value.ensures ∙ c.if-value-v.true) in
    sym (ap found (rw c.unwrap_or-s.ensures at is) ∙ rw (lt_ltb c.loop-c.c ascii (search rules)))

pub loop-c-preserved : goal.loop-c-preserved
loop-c-preserved c =
    let s = c.unwrap_or-s.result in
    let v = c.args.v in
    let at = c.loop-c.c in
    c.loop-c.invariant
    ∙ not_here s v at (search rules)
    (elim c.else-entry-s.branch [
      | else-entry-s-via-then-entry-s+else-value-v w ↦
          right_false (eqb (shift_of at) s) (eqb (value_of at) v) (neq_eqb (value_of at) v (λ e. w.if-value-v.false (w.value.ensures ∙ e)))
      | else-entry-s-via-else-entry-s w ↦
          left_false (eqb (shift_of at) s) (eqb (value_of at) v) (neq_eqb (shift_of at) s (λ e. w.if-entry-s.false (c.entry.ensures ∙ e)))
    ])

pub returns : goal.returns
returns c =
    let s = c.unwrap_or-s.result in
    let is = c.loop-c.invariant ∙ none_left s c.args.v c.loop-c.c c.loop-c-test.false in
    sym (ap found (rw c.unwrap_or-s.ensures at is) ∙ rw (le_ltb c.loop-c.c ascii c.loop-c-test.false))
