-- How far the patterns' records are read from an offset on. Each step of the walk is a step of the definition: a pattern's record that is
-- good leads to the next offset, one with a fault ends the reading, and where no pattern's record comes next it is done.
-- Follows from the definition of `read_patterns` by the tests that it makes.
use Prim.Native.Nat.{ℕ, zero, suc, ◌+◌, ◌≤◌}
use native.Mathlib.Omega.{arith}
use mathlib.Core.Path.{◌≡◌, refl, sym, ap, ◌∙◌}
use mathlib.Core.Bool.{true, false}
use mathlib.Core.List.{List, [], ◌∷◌, map}
use lib.Dec.{ltb}
use lib.ListN.{length, set, replicate, length-set}
use Rattle.std.specs.Prelude.{Ok, Err}
use Rattle.paper.specs.Numbers.{fields}
use Rattle.paper.specs.Pattern.{Held, some_text, pattern}
use Rattle.paper.specs.Alphabet.{Edition}
use Rattle.paper.specs.Sheet.{fault, bytes_left, Mark, PA, next_is, pattern_record, Records, Fields, open_fields, read_patterns}
use Rattle.paper.proofs.base.Tests.{by_bool, true_false, ltb_false}
use Rattle.base_places.specs.WorkedOut.{worked_out}
use Rattle.base_places.specs.declared.PlaceTables.{PlaceTables}
use Rattle.base_question.specs.Bodies.{no_bodies}
use Rattle.base_question.specs.declared.Body.{Body}
use Rattle.base_answers.specs.Faults.{fault_of}
use Rattle.base_answers.specs.declared.Refusal.{Refusal}
use Rattle.base_answers.proofs.Same.{same_fault}
use Rattle.read_fields.specs.declared.PatternRecord.{PatternRecord}
use Rattle.read_fields.specs.Bodies.{bodies_from, bodies_in}
use Rattle.read_fields.specs.Walk.{fields_of, tables_of, PatternStands}

-- what reading from the offset on gives, with turns enough
abbrev pub all_read : Edition → List ℕ → ℕ → Records Fields
all_read e s from = read_patterns e (suc (length s)) s from open_fields

-- the records from the offset `from` on are read up to the offset `at`; the patterns among them are worked out, and it is known where they
-- stand; the turns left are enough
pub record Reached (e : Edition) (s : List ℕ) (from at above : ℕ) (works : List PlaceTables) (bodies : List Body) : Type 0 where
  pub held : List Held
  pub marks : List ℕ
  pub turns : ℕ
  pub enough : length s ≤ turns + at
  pub reads : all_read e s from ≡ read_patterns e (suc turns) s at (record { held = held; marks = marks; above = above })
  pub stand : bodies_in s from ≡ bodies_from (suc turns) s at bodies
  pub all : length held ≡ fields
  pub worked : works ≡ map worked_out held

map_set : {A B : Type 0} (f : A → B) (l : List A) (i : ℕ) (x : A) → map f (set l i x) ≡ set (map f l) i (f x)
map_set f [] i x = refl
map_set f (y ∷ l) zero x = refl
map_set f (y ∷ l) (suc i) x = ap (λ (m : List _). f y ∷ m) (map_set f l i x)

pub reached_start : (e : Edition) (s : List ℕ) (from : ℕ) (open-one : PlaceTables) → open-one ≡ worked_out some_text
    → (bodies : List Body) → bodies ≡ no_bodies → Reached e s from from 0 (replicate fields open-one) bodies
unfolding bodies_in
reached_start e s from open-one h bodies f =
    record {
      held = replicate fields some_text;
      marks = replicate fields 0;
      turns = length s;
      enough = omega arith;
      reads = refl;
      stand = rw f;
      all = refl;
      worked = ap (λ (t : PlaceTables). replicate fields t) h;
    }

module _ {e : Edition} {s : List ℕ} {from at above : ℕ} {works : List PlaceTables} {bodies : List Body} (r : Reached e s from at above works bodies) where
  pub reached_fault : (x : Refusal) → next_is PA s at ≡ true → pattern_record e s at above ≡ fault (fault_of x.fault) x.place
      → Err x ≡ fields_of (bodies_in s from) (all_read e s from)
  reached_fault x p h = rw (r.reads, p, h, same_fault x.fault)

  pub reached_next : (f : PatternRecord) → next_is PA s at ≡ true → PatternStands e s at above f
      → Reached e s from f.next.at f.next.above (set works f.field f.tables) (set bodies f.field f.body)
  reached_next f p w = turn r.turns r.enough r.reads r.stand
    where
      turn : (m : ℕ) → length s ≤ m + at → all_read e s from ≡ read_patterns e (suc m) s at (record { held = r.held; marks = r.marks; above = above })
          → bodies_in s from ≡ bodies_from (suc m) s at bodies
          → Reached e s from f.next.at f.next.above (set works f.field f.tables) (set bodies f.field f.body)
      turn zero h i k = absurd (omega (arith, w.moves, w.goes_on))
      turn (suc m) h i k =
          record {
            held = set r.held f.field (pattern w.its);
            marks = set r.marks f.field at;
            turns = m;
            enough = omega (arith, w.moves);
            reads = i ∙ rw (p, w.reads, w.rises);
            stand = k ∙ rw (p, w.stands, w.field, w.ends);
            all = length-set r.held f.field (pattern w.its) ∙ r.all;
            worked = rw (r.worked, w.works) (sym (map_set worked_out r.held f.field (pattern w.its)));
          }

  -- with a fault all fields are open
  pub reached_open : (x : Refusal) → next_is PA s at ≡ true → pattern_record e s at above ≡ fault (fault_of x.fault) x.place
      → (open-one : PlaceTables) → open-one ≡ worked_out some_text → replicate fields open-one ≡ tables_of (all_read e s from)
  reached_open x p h open-one k = rw (r.reads, p, h, k)

  pub reached_end : next_is PA s at ≡ false →
      Ok (record { next = record { at = at }; above = above; bodies = bodies }) ≡ fields_of (bodies_in s from) (all_read e s from)
  reached_end p = rw (r.reads, r.stand, p)

  pub reached_tables : next_is PA s at ≡ false → works ≡ tables_of (all_read e s from)
  reached_tables p = rw (r.reads, p, r.worked)

-- two bytes are left where a mark stands
pub mark_left : (m : Mark) (s : List ℕ) (at : ℕ) → next_is m s at ≡ true → at + 2 ≤ length s
unfolding next_is
mark_left m s at e =
    by_bool (ltb (bytes_left s at) 2)
    (λ h. absurd (true_false (rw h at e) refl))
    (λ h. omega (arith, ltb_false (bytes_left s at) 2 h))
