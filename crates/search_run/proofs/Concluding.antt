-- From how the search over slots ended to how it ends: what `found` and `conclude` promise. Follows from the definitions of Ended.
use Prim.Native.Nat.{ℕ, ◌-◌, ◌<◌}
use native.Mathlib.Omega.{arith}
use mathlib.Core.Path.{◌≡◌, sym, ap, ◌∙◌}
use mathlib.Core.List.{List}
use Rattle.search_run.specs.Ended.{clash_how, how_by, buffer_by, run_concluded, concluded_buffer, ClashTold, SearchOver, Concluded}
use Rattle.search_run.specs.Way.{WayTo, text_at}
use Rattle.search_records.specs.Records.{Answered}
use Rattle.search_slots.specs.Slots.{Slot}
use Rattle.base_answers.specs.declared.How.{How}
use Rattle.std.specs.Prelude.{Option}
use Rattle.search_run.specs.declared.search.Run.{Run}
use Rattle.search_run.specs.declared.search.Status.{Status}
use Rattle.search_run.specs.declared.search.Status.TheVariants.{Found}

pub told_by : (ss : List Slot) (n : ℕ) {sets before after : List ℕ} {given : Option ℕ} {r : How}
    → Answered sets (text_at ss (n - 1)) before after given → r ≡ clash_how given → ClashTold ss n sets before after r
told_by ss n h e = record { answer = e ∙ ap clash_how h.given; buffer = h.buffer }

module _ {work : List ℕ} {run : Run} (o : SearchOver work run) where
  pub ended_so : (x : Status) → run.status ≡ x → o.search.status ≡ x
  ended_so x e = sym o.lent.status ∙ e

  -- where a finished situation is found, it is in a slot
  pub some_entered : run.status ≡ Found → 0 < run.entered
  some_entered e = omega (arith, o.some (ended_so Found e), o.lent.entered)

  -- and the way to it is in the slots
  abbrev pub way_there : run.status ≡ Found → WayTo work (run.entered - 1)
  way_there e =
      record {
        slots = o.search.slots;
        holds = o.lent.kept.holds;
        earlier = o.earlier;
        entered = omega (arith, some_entered e, o.lent.entered);
      }

  module _ {sets before after : List ℕ} {r : How} where
    pub concluded_by : (x : Status) → run.status ≡ x → r ≡ how_by x o.search.slots sets before → after ≡ buffer_by x o.search.slots sets before
        → Concluded o.search sets before after r
    unfolding run_concluded concluded_buffer
    concluded_by x e a b = record { answer = rw (ended_so x e) a; buffer = rw (ended_so x e) b }

    pub found_concluded : run.status ≡ Found → ClashTold o.search.slots run.entered sets before after r → Concluded o.search sets before after r
    found_concluded e t = concluded_by Found e (rw o.lent.entered at t.answer) (rw o.lent.entered at t.buffer)
