-- Walking turn by turn, as the loops go.
-- Follows from the definitions.
use Prim.Native.Nat.{ℕ, zero, suc, ◌+◌, ◌-◌, ◌≤◌, ◌<◌}
use native.Mathlib.Omega.{arith}
use mathlib.Core.Path.{◌≡◌, refl, sym, ap, ◌∙◌}
use mathlib.Core.List.{List, []}
use Rattle.std.specs.Prelude.{Option, Some, None, Ok, Err}
use Rattle.std.specs.Option.{ok_or}
use lib.ListN.{length, drop, drop_of_length-le}
use lib.Seq.{drop-cons}
use Rattle.paper_steps.specs.StepRecords.{front_of}
use Rattle.paper_steps.specs.Player.{most_steps}
use Rattle.base_codes.specs.Coded.{Coded, denoted, Short}
use Rattle.base_codes.proofs.Denoted.{denoted_laid}
use Rattle.search_children.specs.Children.{Tables, made, given_coded}
use Rattle.search_children.specs.Laid.{child_of}
use Rattle.base_codes.specs.declared.Situation.{Situation}
use Rattle.search_children.specs.declared.Child.{Child}
use Rattle.search_children.specs.declared.Child.TheVariants.{Dropped, Above, Made}
use Rattle.search_children.proofs.Short.{child_made}
use Rattle.play_record.specs.InFront.{record_of}
use Rattle.play_record.specs.declared.Record.{Record}
use Rattle.play_record.proofs.FrontRead.{Stands, front_told, front_none}
use Rattle.play_step.specs.StepCoded.{step_coded}
use Rattle.play_step.proofs.StepShort.{step_short}
use Rattle.play_walk.specs.WalkCoded.{made_of, ended_coded, walk_on, walk_front, walk_from, walked, text_on, text_front, text_from, text_walked}
use Rattle.play_walk.specs.declared.Stop.{Stop}
use Rattle.play_walk.specs.declared.Stop.TheVariants.{PastMost, NoRecord}

module _ (T : Tables) where
  -- the way goes on from here: all bytes from the first situation on, and those left from this one on
  pub walked_first : (s : Coded) (bytes : List ℕ) → walked T s bytes ≡ walk_from T most_steps s (drop 0 bytes)
  unfolding walked
  walked_first s bytes = refl

  pub text_first : (f : ℕ) (s : Coded) (bytes : List ℕ) → text_walked T f s bytes ≡ text_from T f most_steps s (drop 0 bytes)
  unfolding text_walked
  text_first f s bytes = refl

  pub text_end : (f left : ℕ) (s : Coded) (bytes : List ℕ) → left ≡ 0 → text_from T f left s bytes ≡ []
  text_end f zero s bytes h = refl
  text_end f (suc left) s bytes h = absurd (omega arith)

  pub walk_end : (left : ℕ) (s : Coded) (bytes : List ℕ) (at : ℕ) → length bytes ≤ at → walk_from T left s (drop at bytes) ≡ ended_coded s
  walk_end zero s bytes at h = rw (drop_of_length-le bytes {i = at} h)
  walk_end (suc left) s bytes at h = rw (drop_of_length-le bytes {i = at} h)

  pub walk_past : (left : ℕ) (s : Coded) (bytes : List ℕ) (at : ℕ) → left ≡ 0 → at < length bytes → walk_from T left s (drop at bytes) ≡ Err PastMost
  walk_past zero s bytes at e h = rw (drop-cons bytes at 0 h)
  walk_past (suc left) s bytes at e h = absurd (omega arith)

  module _ (left : ℕ) (s : Coded) (bytes : List ℕ) (at : ℕ) (l : 0 < left) where
    -- one record
    front_walk : at < length bytes → walk_from T left s (drop at bytes) ≡ walk_front T (walk_from T (left - 1)) s (front_of T.characters (drop at bytes))
    front_walk h = by left l
      where
        by : (n : ℕ) → 0 < n → walk_from T n s (drop at bytes) ≡ walk_front T (walk_from T (n - 1)) s (front_of T.characters (drop at bytes))
        by zero k = absurd (omega arith)
        by (suc n) k = let d : n ≡ suc n - 1 = omega arith in rw (drop-cons bytes at 0 h, ← d)

    front_text : (f : ℕ) → text_from T f left s (drop at bytes) ≡ text_front T f (text_from T f (left - 1)) s (front_of T.characters (drop at bytes))
    front_text f = by left l
      where
        by : (n : ℕ) → 0 < n → text_from T f n s (drop at bytes) ≡ text_front T f (text_from T f (n - 1)) s (front_of T.characters (drop at bytes))
        by zero k = absurd (omega arith)
        by (suc n) k = let d : n ≡ suc n - 1 = omega arith in rw (← d)

    pub text_none : (f : ℕ) → record_of (front_of T.characters (drop at bytes)) ≡ None → text_from T f left s (drop at bytes) ≡ []
    text_none f e = front_text f ∙ ap (text_front T f (text_from T f (left - 1)) s) (front_none T.characters bytes at e)

    pub walk_none : at < length bytes → record_of (front_of T.characters (drop at bytes)) ≡ None → walk_from T left s (drop at bytes) ≡ Err NoRecord
    walk_none h e = front_walk h ∙ ap (walk_front T (walk_from T (left - 1)) s) (front_none T.characters bytes at e)

    module _ (r : Record) (e : record_of (front_of T.characters (drop at bytes)) ≡ Some r) where
      its : Stands T.characters bytes at r
      its = front_told T.characters bytes at r e

      pub record_within : at + r.bytes ≤ length bytes
      record_within = its.within

      -- the step that it says
      pub walk_step : walk_from T left s (drop at bytes)
          ≡ walk_on (λ (t : Coded). walk_from T (left - 1) t (drop (at + r.bytes) bytes)) (step_coded T s r.step)
      walk_step =
          front_walk (omega (arith, its.some, its.within))
          ∙ ap (walk_front T (walk_from T (left - 1)) s) its.here
          ∙ ap (λ (c : ℕ). walk_on (λ (t : Coded). walk_from T (left - 1) t (drop (at + r.bytes) bytes)) (step_coded T s c)) (sym its.code)

      pub text_step : (f : ℕ) → text_from T f left s (drop at bytes)
          ≡ text_on (given_coded f s r.step) (λ (t : Coded). text_from T f (left - 1) t (drop (at + r.bytes) bytes)) (step_coded T s r.step)
      text_step f =
          front_text f
          ∙ ap (text_front T f (text_from T f (left - 1)) s) its.here
          ∙ ap (λ (c : ℕ). text_on (given_coded f s c) (λ (t : Coded). text_from T f (left - 1) t (drop (at + r.bytes) bytes)) (step_coded T s c)) (sym its.code)

-- whether a record was read
pub some_record : (o : Option Record) (r : Record) → ok_or o NoRecord ≡ Ok r → o ≡ Some r
some_record None r h = absurd cc
some_record (Some x) r h = let same : x ≡ r = cc in ap Some same

pub none_record : (o : Option Record) (why : Stop) → ok_or o NoRecord ≡ Err why → (o ≡ None) × (NoRecord ≡ why)
none_record None why h = (refl, cc)
none_record (Some x) why h = absurd cc

-- What a child says of the step that made it.
module _ (T : Tables) (s : Coded) (step : ℕ) (child : Child) (e : child ≡ child_of (step_coded T s step)) where
  -- the situation that was made
  pub record MadeBy (at : Situation) : Type 0 where
    pub made_here : step_coded T s step ≡ made (denoted at)
    pub short : Short (denoted at)

  pub is_made : (at : Situation) → Short s → child ≡ Made at → MadeBy at
  is_made at h k =
      let (t, x, y) = child_made (step_coded T s step) at (sym e ∙ k) in
      let short = step_short T step h x in
      let same : denoted at ≡ t = ap denoted y ∙ denoted_laid t short in
      record { made_here = rw same x; short = rw same short }

  -- the same from what `made` gives
  pub gives_made : (at : Situation) → Short s → made_of child ≡ Ok at → MadeBy at
  gives_made at h k = is_made at h (by child k)
    where
      by : (c : Child) → made_of c ≡ Ok at → c ≡ Made at
      by Dropped k = absurd cc
      by Above k = absurd cc
      by (Made t) k = let same : t ≡ at = cc in ap Made same
