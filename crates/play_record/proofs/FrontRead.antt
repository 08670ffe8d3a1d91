-- What a record that was read says of the bytes.
--   front_told : a record is that of a step, and what stands behind it is left
-- Follows from the definition, by cases on the bytes.
use Prim.Native.Nat.{ℕ, ◌+◌, ◌≤◌, ◌<◌}
use native.Mathlib.Omega.{arith}
use mathlib.Core.Path.{◌≡◌, refl, sym, ap, ◌∙◌}
use mathlib.Core.List.{List}
use Rattle.std.specs.Prelude.{None, Some}
use lib.ListN.{length, drop, length-append, length-drop}
use lib.Seq.{drop_at, drop-drop}
use Rattle.paper.specs.Situation.{Move, strike_left, strike_right, put}
use Rattle.base_codes.specs.Inner.{move_code}
use Rattle.paper_steps.specs.StepRecords.{step_record, IsStep, Front, no_record, front, front_of}
use Rattle.paper_steps.proofs.RecordsRead.{FrontSays, front_says}
use Rattle.play_record.specs.InFront.{record_of}
use Rattle.play_record.specs.declared.Record.{Record}

-- A record that was read at a place, where there are so many characters: the step that it says, and what is left behind it.
pub record Stands (characters : ℕ) (s : List ℕ) (at : ℕ) (r : Record) : Type 0 where
  pub move : Move
  pub is_step : IsStep characters move
  pub code : r.step ≡ move_code move
  pub here : front_of characters (drop at s) ≡ front move (drop (at + r.bytes) s)
  pub some : 0 < r.bytes
  pub within : at + r.bytes ≤ length s

record_some : (m : Move) → 0 < length (step_record m)
record_some strike_left = omega arith
record_some strike_right = omega arith
record_some (put c) = omega arith

module _ (characters : ℕ) (s : List ℕ) (at : ℕ) where
  stands_by : (r : Record) (x : Front) → front_of characters (drop at s) ≡ x → FrontSays characters (drop at s) x → record_of x ≡ Some r → Stands characters s at r
  stands_by r no_record e f g = absurd cc
  stands_by r (front m later) e f g =
      let g' : r ≡ record { step = move_code m; bytes = length (step_record m) } = cc in
      let b : r.bytes ≡ length (step_record m) = ap (λ (x : Record). x.bytes) g' in
      let l : length (drop at s) ≡ length (step_record m) + length later = ap length f.1 ∙ length-append (step_record m) later in
      let d : drop (at + r.bytes) s ≡ later =
      sym (drop-drop r.bytes at s) ∙ rw f.1 (drop_at (step_record m) later r.bytes (sym b)) in
      record {
        move = m;
        is_step = f.0;
        code = ap (λ (x : Record). x.step) g';
        here = e ∙ rw d;
        some = omega (arith, b, record_some m);
        within = omega (arith, b, l, length-drop at s, record_some m);
      }

  pub front_told : (r : Record) → record_of (front_of characters (drop at s)) ≡ Some r → Stands characters s at r
  front_told r = stands_by r (front_of characters (drop at s)) refl (front_says characters (drop at s))

  none_by : (x : Front) → record_of x ≡ None → x ≡ no_record
  none_by no_record g = refl
  none_by (front m later) g = absurd cc

  -- no record is none
  pub front_none : record_of (front_of characters (drop at s)) ≡ None → front_of characters (drop at s) ≡ no_record
  front_none = none_by (front_of characters (drop at s))
