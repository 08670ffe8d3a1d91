-- The records of a way, put one behind the other: how long they are at most, one field more, and what the answer is then.
-- Follows from the laws of bytes put and counted, and from a text having no more characters than there are steps.
use Prim.Native.Nat.{ℕ, ◌+◌, ◌*◌, ◌/◌, ◌%◌, ◌≤◌, ◌<◌}
use native.Mathlib.Numerals.{add-one}
use native.Mathlib.Omega.{arith}
use mathlib.Core.Path.{◌≡◌, refl, ap, subst, ◌∙◌}
use mathlib.Core.Bool.{Bool, true, false, not}
use mathlib.Core.List.{List, [], ◌∷◌, ◌++◌, append-nil}
use lib.Dec.{eqb}
use lib.ListN.{length, get_or, length-append}
use Rattle.paper.specs.Lists.{upto, only, keep}
use Rattle.paper.specs.Numbers.{fields}
use Rattle.paper.specs.Outcome.{value_record}
use Rattle.paper.proofs.base.Tests.{le_leb, lt_leb, eq_eqb, neq_eqb}
use Rattle.paper.proofs.base.Listed.{upto_snoc, each_append}
use Rattle.paper_steps.specs.Player.{most_steps}
use Rattle.base_codes.specs.Coded.{Coded}
use Rattle.base_put.specs.Counted.{last_place, Counted}
use Rattle.base_put.proofs.Counting.{counted_then, counted_length, counted_in_front, counted_outside}
use Rattle.search_children.specs.Children.{Tables}
use Rattle.search_children.proofs.ChildTurns.{keep_append}
use Rattle.search_records.specs.Records.{fields_with_sets}
use Rattle.std.specs.Prelude.{None, Some}
use Rattle.play_walk.specs.WalkCoded.{text_walked}
use Rattle.play_walk.proofs.WalkAgrees.{text_short}
use Rattle.play_texts.specs.WayRecords.{records_along, way_records, WayAnswered}

-- what was put into no bytes, and behind it the whole
pub back_whole : {e d : List ℕ} {n : ℕ} {l : List ℕ} → Counted [] e 0 n l → e ++ d ≡ d
back_whole {d = d} p = ap (λ (x : List ℕ). x ++ d) (counted_outside p)

-- the head and the text are the record, for a text whose length two bytes hold
module _ (f : ℕ) (text : List ℕ) (short : length text ≤ most_steps) where
  head_is : (n : ℕ) → n ≡ length text → (86 ∷ 65 ∷ f ∷ n % 256 ∷ n / 256 % 256 ∷ []) ++ text ≡ value_record f text
  unfolding value_record
  head_is n e =
      let high : n / 256 % 256 ≡ length text / 256 = omega (arith, e) in
      let low : n % 256 ≡ length text % 256 = ap (λ (k : ℕ). k % 256) e in
      rw (high, low)

  pub record_put : {none d g h : List ℕ} {n at begun end : ℕ} (head : List ℕ) → Counted [] none 0 n text
      → head ≡ 86 ∷ 65 ∷ f ∷ n % 256 ∷ n / 256 % 256 ∷ [] → Counted (none ++ d) g at begun head → Counted g h begun end text
      → Counted d h at end (value_record f text)
  record_put {none} {d} {g} {h} {n} {at} {begun} {end} head p e q r =
      let m : n ≡ length text = counted_length p (omega (arith, short)) in
      let same : head ++ text ≡ value_record f text = ap (λ (l : List ℕ). l ++ text) e ∙ head_is n m in
      subst (Counted d h at end) same
      (counted_then (subst (λ (x : List ℕ). Counted x g at begun head) (back_whole p) q) r)

module _ (T : Tables) (s : Coded) (steps : List ℕ) where
  pub along_none : records_along T s steps [] ≡ []
  unfolding records_along
  along_none = refl

  along_one : (f : ℕ) → records_along T s steps (f ∷ []) ≡ value_record f (text_walked T f s steps)
  unfolding records_along
  along_one f = append-nil (value_record f (text_walked T f s steps))

  abbrev stands : ℕ → Bool
  stands f = not (eqb (get_or s.sets f 0) 0)

  -- the records of the standing fields below f
  abbrev pub below : ℕ → List ℕ
  below f = records_along T s steps (keep stands (upto f))

  -- one field more
  one_more_field : (f : ℕ) → below (f + 1) ≡ below f ++ records_along T s steps (only (stands f) f)
  unfolding records_along
  one_more_field f =
      ap below (add-one f)
      ∙ ap (λ (l : List ℕ). records_along T s steps (keep stands l)) (upto_snoc f)
      ∙ ap (records_along T s steps) (keep_append stands (upto f) (f ∷ []) ∙ ap (λ (l : List ℕ). keep stands (upto f) ++ l) (append-nil (only (stands f) f)))
      ∙ each_append (λ (g : ℕ). value_record g (text_walked T g s steps)) (keep stands (upto f)) (only (stands f) f)

  -- by whether it stands
  pub stands_more : (f : ℕ) → (get_or s.sets f 0 ≡ 0 → ⊥) → below (f + 1) ≡ below f ++ value_record f (text_walked T f s steps)
  stands_more f h = one_more_field f ∙ rw (neq_eqb (get_or s.sets f 0) 0 h) (ap (λ (l : List ℕ). below f ++ l) (along_one f))

  pub gone_more : (f : ℕ) → get_or s.sets f 0 ≡ 0 → below (f + 1) ≡ below f
  gone_more f h = one_more_field f ∙ rw (eq_eqb (get_or s.sets f 0) 0 h, along_none) (append-nil (below f))

  pub all_fields : (f : ℕ) → f ≡ fields → below f ≡ way_records T s steps
  unfolding way_records fields_with_sets
  all_fields f e = ap below e

  -- they are counted to their end
  record_long : (f : ℕ) → length (value_record f (text_walked T f s steps)) ≤ 5 + most_steps
  unfolding value_record
  record_long f = omega (arith, text_short T f s steps)

  along_long : (fs : List ℕ) → length (records_along T s steps fs) ≤ length fs * (5 + most_steps)
  unfolding records_along
  along_long [] = omega arith
  along_long (f ∷ fs) =
      rw length-append (omega (arith, record_long f, along_long fs))

  kept_short : (p : ℕ → Bool) (l : List ℕ) → length (keep p l) ≤ length l
  kept_short p [] = omega arith
  kept_short p (x ∷ l) = rw length-append (omega (arith, kept_short p l, one_at_most (p x)))
    where
      one_at_most : (b : Bool) → length (only b x) ≤ 1
      one_at_most true = omega arith
      one_at_most false = omega arith

  records_short : length (way_records T s steps) ≤ last_place
  unfolding way_records fields_with_sets
  records_short = omega (arith, along_long (keep stands (upto fields)), kept_short stands (upto fields))

  abbrev bytes : List ℕ
  bytes = way_records T s steps

  module _ (answer : List ℕ) {e : List ℕ} {n : ℕ} (p : Counted [] e 0 n bytes) where
    pub too_short : length (e ++ answer) < n → WayAnswered bytes answer (e ++ answer) None
    too_short h =
        let same : e ++ answer ≡ answer = back_whole p in
        let t = lt_leb (length bytes) (length answer) (omega (arith, ap length same, counted_length p records_short)) in
        record { given = rw t; buffer = rw (t, same) }

    pub written : {after : List ℕ} {m : ℕ} → n ≤ length (e ++ answer) → Counted (e ++ answer) after 0 m bytes → WayAnswered bytes answer after (Some m)
    written {after} {m} h w =
        let same : e ++ answer ≡ answer = back_whole p in
        let room : length bytes ≤ length answer = omega (arith, ap length same, counted_length p records_short) in
        let put : Counted answer after 0 m bytes = subst (λ (d : List ℕ). Counted d after 0 m bytes) same w in
        let t = le_leb (length bytes) (length answer) room in
        record { given = rw (t, counted_length put records_short); buffer = rw (t, counted_in_front put records_short room) }
