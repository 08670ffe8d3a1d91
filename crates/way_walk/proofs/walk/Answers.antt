-- `walk` meets its contract. The loop's invariant: some of the records were put, and from the situation that was come to spelling goes on as all of it
-- does from the first.
use Prim.Native.Nat.{◌+◌, ◌-◌}
use native.Mathlib.Omega.{arith}
use mathlib.Core.Path.{◌≡◌, refl, sym, ◌∙◌, subst}
use borrow.Author.Rules.{rules}
use Rattle.std.specs.Prelude.{Ok, Err}
use Rattle.paper_steps.specs.Player.{most_steps}
use Rattle.base_codes.specs.Coded.{Coded, denoted}
use Rattle.base_codes.proofs.Denoted.{short_denoted}
use Rattle.play_step.specs.StepCoded.{step_coded}
use Rattle.search_children.specs.Laid.{tables_lent}
use Rattle.play_walk.specs.declared.Stop.TheVariants.{PastMost}
use Rattle.play_walk.proofs.Walking.{gives_made}
use Rattle.way_step.specs.NextCoded.{left_behind}
use Rattle.way_walk.specs.SpellCoded.{code_bytes, Spelling, spells_on, spelled_coded}
use Rattle.way_walk.proofs.Spelt.{spell_left, left_first, left_arrived, left_past, left_step, spells_none, Going, going_first, going_on, going_ends}
use Rattle.way_walk.proofs.walk.Goals.{After-step-child, At-loop}
use Rattle.way_walk.proofs.walk.Goals as goal

pub loop-init : goal.loop-init
loop-init c =
    let a = c.args in (
      refl,
      short_denoted a.first (search rules) (search rules) (search rules),
      going_first (left_first (tables_lent a.tables.now) a.space a.texts.now a.ends 65534 refl (denoted a.first) a.left),
    )

-- spelling goes on like this
module _ (l : At-loop) where
  abbrev Goes : Spelling → Type 0
  Goes rest =
      let a = l.args in
      Going (spelled_coded (tables_lent a.tables.now) a.space a.texts.now a.ends (denoted a.first) a.left) rest a.out.now l.loop.out l.loop.end

  goes_as : {rest : Spelling}
      → spell_left (tables_lent l.args.tables.now) l.args.space l.args.texts.now l.args.ends (most_steps - l.loop.counter) (denoted l.loop.s) l.loop.counts ≡ rest
      → Goes rest
  goes_as e = subst Goes e l.loop.invariant.2

pub returns-then-is_finished : goal.returns-then-is_finished
returns-then-is_finished c =
    let a = c.args in
    let l = (goal.at.returns-then-is_finished c).At-loop in
    going_ends (Ok tt) c.loop.end
    (goes_as l (left_arrived (tables_lent a.tables.now) a.space a.texts.now a.ends (most_steps - c.loop.counter) (denoted c.loop.s) c.loop.counts (sym c.is_finished.ensures ∙ c.if-is_finished.true)))
    refl

-- the step that was wanted
stepped : (c : After-step-child) →
    let a = c.args in
    let l = c.loop in
    let step = c.next_step-step.result in
    let t = tables_lent a.tables.now in
    spell_left t a.space a.texts.now a.ends (most_steps - l.counter) (denoted l.s) l.counts
    ≡ spells_on (code_bytes step) (λ (u : Coded). spell_left t a.space a.texts.now a.ends (most_steps - (l.counter + 1)) u (left_behind l.counts (denoted l.s) step))
    (step_coded t (denoted l.s) step)
stepped c =
    let a = c.args in
    let l = c.loop in
    let less : most_steps - l.counter - 1 ≡ most_steps - (l.counter + 1) = omega arith in
    rw less at (left_step (tables_lent a.tables.now) a.space a.texts.now a.ends (most_steps - l.counter) (denoted l.s) l.counts (omega (arith, c.loop-test.true))
    (sym c.is_finished.ensures ∙ c.if-is_finished.false) c.next_step-step.result c.next_step-step.ensures)

pub returns-in-Err : goal.returns-in-Err
returns-in-Err c =
    let a = c.args in
    let l = (goal.at.returns-in-Err c).At-loop in
    let e =
    spells_none (tables_lent a.tables.now) (denoted c.loop.s) c.next_step-step.result c.step-child.result c.step-child.ensures (code_bytes c.next_step-step.result) _
    c.in-Err.why (sym c.made.ensures ∙ c.in-Err.is) in
    going_ends (Err c.in-Err.why) c.loop.end (goes_as l (stepped (goal.at.returns-in-Err c).After-step-child ∙ e)) refl

pub loop-preserved : goal.loop-preserved
loop-preserved c =
    let l = (goal.at.loop-preserved c).At-loop in
    let a = c.args in
    let t = tables_lent a.tables.now in
    let step = c.next_step-step.result in
    let m = gives_made t (denoted c.loop.s) step c.step-child.result c.step-child.ensures c.in-Ok.next c.loop.invariant.1 (sym c.made.ensures ∙ c.in-Ok.is) in
    let rest = spell_left t a.space a.texts.now a.ends (most_steps - (c.loop.counter + 1)) (denoted c.in-Ok.next) in (
      c.put_step-end.auto.out ∙ c.loop.invariant.0,
      m.short,
      rw c.behind-behind.ensures
          (going_on (rest (left_behind c.loop.counts (denoted c.loop.s) step)) (code_bytes step) (goes_as l (rw m.made_here at (stepped (goal.at.loop-preserved c).After-step-child))) c.put_step-end.ensures),
    )

pub returns-then-is_finished-2 : goal.returns-then-is_finished-2
returns-then-is_finished-2 c =
    let a = c.args in
    let l = (goal.at.returns-then-is_finished-2 c).At-loop in
    going_ends (Ok tt) c.loop.end
    (goes_as l (left_arrived (tables_lent a.tables.now) a.space a.texts.now a.ends (most_steps - c.loop.counter) (denoted c.loop.s) c.loop.counts (sym c.is_finished-2.ensures ∙ c.if-is_finished-2.true)))
    refl

pub returns-else-is_finished-2 : goal.returns-else-is_finished-2
returns-else-is_finished-2 c =
    let a = c.args in
    let l = (goal.at.returns-else-is_finished-2 c).At-loop in
    going_ends (Err PastMost) c.loop.end
    (goes_as l
    (left_past (tables_lent a.tables.now) a.space a.texts.now a.ends (most_steps - c.loop.counter) (denoted c.loop.s) c.loop.counts (omega (arith, c.loop-test.false)) (sym c.is_finished-2.ensures ∙ c.if-is_finished-2.false)))
    refl
