-- `spell_from` meets its contract, by where spelling ends (`StepsPut`).
use Prim.Native.Nat.{◌≤◌}
use mathlib.Core.Path.{◌≡◌, refl, sym, ap, ◌∙◌}
use borrow.Author.Rules.{rules}
use Rattle.std.specs.Prelude.{Some, Err}
use Rattle.play_walk.specs.declared.Stop.{Stop}
use Rattle.way_question.specs.declared.WayStop.TheVariants.{Stopped}
use lib.ListN.{length}
use Rattle.base_put.specs.Counted.{last_place}
use Rattle.base_codes.specs.Coded.{denoted}
use Rattle.search_children.specs.Laid.{tables_lent}
use Rattle.way_records.specs.declared.Spans.{Spans}
use Rattle.way_walk.specs.SpellCoded.{Spelling, spelled_coded}
use Rattle.way_question.proofs.StepsPut.{some_of, none_of, spelled_short, stopped_spelt, short_spelt, put_spelt, put_never}
use Rattle.way_question.proofs.spell_from.Goals.{Start, In_ok-spans}
use Rattle.way_question.proofs.spell_from.Goals as goal

-- the spelling, and that it is counted to its end
module _ (c : Start) (s : Spans) where
  abbrev the_spelling : Spelling
  the_spelling = let a = c.args in spelled_coded (tables_lent a.tables.now) a.space a.texts.now s.ends (denoted a.first) s.left

  is_short : length the_spelling.bytes ≤ last_place
  is_short = let a = c.args in spelled_short (tables_lent a.tables.now) a.space a.texts.now s.ends (denoted a.first) s.left

pub returns-in_err-spans : goal.returns-in_err-spans
returns-in_err-spans c =
    let given : c.from_residual.result ≡ Err (Stopped c.in_err-spans.field-0.0) = search rules in
    let none = none_of c.args.spans c.in_err-spans.field-0.0 (sym c.ok_or.ensures.value ∙ c.in_err-spans.was) in
    rw none.0 (record { end = given ∙ ap (λ (w : Stop). Err (Stopped w)) (sym none.1); buffer = refl })

-- there are records
read : (c : In_ok-spans) → c.args.spans ≡ Some c.in_ok-spans.spans
read c = some_of c.args.spans c.in_ok-spans.spans (sym c.ok_or.ensures.value ∙ c.in_ok-spans.was)

pub returns-in_err-bytes : goal.returns-in_err-bytes
returns-in_err-bytes c =
    let s = c.in_ok-spans.spans in
    let start = (goal.at.returns-in_err-bytes c).Start in
    let given : c.from_residual-in_err-bytes.result ≡ Err (Stopped c.in_err-bytes.field-0.0.why) = search rules in
    rw (read (goal.at.returns-in_err-bytes c).In_ok-spans, given)
    (stopped_spelt (the_spelling start s) (is_short start s) c.args.steps.now c.walk.result c.walk.ensures c.in_err-bytes.field-0.0 c.in_err-bytes.was)

pub returns-then-steps-bytes : goal.returns-then-steps-bytes
returns-then-steps-bytes c =
    let s = c.in_ok-spans.spans in
    let start = (goal.at.returns-then-steps-bytes c).Start in
    rw (read (goal.at.returns-then-steps-bytes c).In_ok-spans)
    (short_spelt (the_spelling start s) (is_short start s) c.args.steps.now c.walk.result c.walk.ensures c.in_ok-bytes.bytes c.in_ok-bytes.was c.if-steps-bytes.true)

pub returns-in_err-walk : goal.returns-in_err-walk
returns-in_err-walk c =
    let s = c.in_ok-spans.spans in
    let start = (goal.at.returns-in_err-walk c).Start in
    absurd
    (put_never (the_spelling start s) (is_short start s) c.args.steps.now c.walk.result c.walk.ensures c.in_ok-bytes.bytes c.in_ok-bytes.was c.walk-2.result c.walk-2.ensures
    c.in_err-walk.field-0.0 c.in_err-walk.was)

pub returns : goal.returns
returns c =
    let s = c.in_ok-spans.spans in
    let start = (goal.at.returns c).Start in
    rw (read (goal.at.returns c).In_ok-spans)
    (put_spelt (the_spelling start s) (is_short start s) c.args.steps.now c.walk.result c.walk.ensures c.in_ok-bytes.bytes c.in_ok-bytes.was c.walk-2.result c.walk-2.ensures
    c.in_ok-walk.field-0 c.in_ok-walk.was c.if-steps-bytes.false)
