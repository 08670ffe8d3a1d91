-- One record more, as the code goes: the texts that were read, and the records that are still to come.
--   read_found : with the record of the field in front; where it is not in front there are no texts
--   own_found  : the texts stand in the bytes
-- Follows from what a record in front says of the bytes (`front_is` of paper_way) and the laws of lists.
use Prim.Native.Nat.{ℕ, suc, ◌+◌, ◌-◌, ◌≤◌, ◌<◌}
use native.Mathlib.Omega.{arith}
use mathlib.Core.Path.{◌≡◌, refl, sym, ap, ap₂, ◌∙◌, subst, fun_ext}
use mathlib.Core.Bool.{cond, not}
use mathlib.Core.List.{List, [], ◌++◌}
use Rattle.std.specs.Prelude.{None, Some}
use lib.Dec.{ltb, eqb}
use lib.ListN.{length, get_or, take, drop, set, replicate, length-set, length-drop, length-append, length-replicate, get_or-replicate, get_or-eq_default}
use lib.Seq.{get_or-set_same, get_or-set_other, take_at, drop_at, drop-drop}
use Rattle.paper.specs.Lists.{from, keep, only}
use Rattle.paper.specs.Numbers.{fields, set_fields}
use Rattle.paper.specs.Outcome.{value_record}
use Rattle.paper.proofs.base.Tests.{by_bool, eqb_true, eqb_false, eq_eqb, neq_eqb, ltb_true, ltb_false, lt_ltb}
use Rattle.paper_way.specs.TextRecords.{TextFront, no_text, its_text, text_front, no_texts, with_text, texts_from, no_texts_yet}
use Rattle.paper_way.proofs.TextsSaid.{TextIs, front_is}
use Rattle.search_records.specs.Records.{fields_with_sets}
use Rattle.way_records.specs.Spans.{length_of, text_at, texts_of, Own, read_on}
use Rattle.way_records.specs.declared.Spans.{Spans}

-- an element of a list with one changed
pub get_d_set : (l : List ℕ) (i a g : ℕ) → i < length l → get_or (set l i a) g 0 ≡ cond (eqb i g) a (get_or l g 0)
get_d_set l i a g h =
    by_bool (eqb i g)
    (λ e. let same : i ≡ g = eqb_true i g e in rw (e, ← same) (get_or-set_same l i a 0 h))
    (λ e. rw e (get_or-set_other l i g a 0 (λ k. eqb_false i g e (sym k))))

-- What a record in front is, by what the code has of it.
pub record Fronts (n f : ℕ) (bytes : List ℕ) (length-told : ℕ) : Type 0 where
  pub text : List ℕ
  pub later : List ℕ
  pub here : text_front n f bytes ≡ its_text text later
  pub long : length-told ≡ length text

pub head_found : (n f : ℕ) (bytes : List ℕ) (k : ℕ) → length_of (text_front n f bytes) ≡ Some k → Fronts n f bytes k
head_found n f bytes k e = by (text_front n f bytes) refl e
  where
    by : (x : TextFront) → text_front n f bytes ≡ x → length_of x ≡ Some k → Fronts n f bytes k
    by no_text i e = absurd cc
    by (its_text w later) i e = record { text = w; later = later; here = i; long = cc }

pub head_lost : (n f : ℕ) (bytes : List ℕ) → length_of (text_front n f bytes) ≡ None → text_front n f bytes ≡ no_text
head_lost n f bytes e = by (text_front n f bytes) e
  where
    by : (x : TextFront) → length_of x ≡ None → x ≡ no_text
    by no_text e = refl
    by (its_text w later) e = absurd cc

-- where its text stands
module _ (n f next : ℕ) (bytes : List ℕ) (k : ℕ) (x : Fronts n f (drop next bytes) k) where
  said : drop next bytes ≡ value_record f x.text ++ x.later
  said = (subst (TextIs n f (drop next bytes)) x.here (front_is n f (drop next bytes))).0

  record_long : length (value_record f x.text) ≡ 5 + k
  unfolding value_record
  record_long = omega (arith, x.long)

  pub within_bytes : next + (5 + k) ≤ length bytes
  within_bytes =
      let e : length (drop next bytes) ≡ 5 + k + length x.later = ap length said ∙ length-append (value_record f x.text) x.later ∙ rw record_long in
      omega (arith, length-drop next bytes)

  later_is : drop (next + (5 + k)) bytes ≡ x.later
  later_is = sym (drop-drop (5 + k) next bytes) ∙ ap (drop (5 + k)) said ∙ drop_at (value_record f x.text) x.later (5 + k) record_long

  text_is : take k (drop (next + 5) bytes) ≡ x.text
  unfolding value_record
  text_is = ap (take k) (sym (drop-drop 5 next bytes) ∙ ap (drop 5) said) ∙ take_at x.text x.later k (sym x.long)

module _ (n x : ℕ) (bytes : List ℕ) (s : Spans) (f set_there : ℕ) (fs : List ℕ) where
  abbrev todo : List ℕ
  todo = only (not (eqb set_there 0)) f ++ fs

  -- the field doesn't stand
  pub read_none : set_there ≡ 0 → read_on n x bytes (Some s) todo ≡ read_on n x bytes (Some s) fs
  read_none h = rw (eq_eqb set_there 0 h)

  module _ (stands : set_there ≡ 0 → ⊥) where
    -- its record is not in front
    pub read_other : text_front n f (drop s.next bytes) ≡ no_text → read_on n x bytes (Some s) todo ≡ no_texts
    read_other e = rw (neq_eqb set_there 0 stands, e)

    -- it is
    module _ (k : ℕ) (t : Fronts n f (drop s.next bytes) k) (known : f < fields)
        (ends_many : length s.ends ≡ set_fields) (left_many : length s.left ≡ set_fields) where
      abbrev end : ℕ
      end = s.next + (5 + k)

      text_set : with_text f t.text (text_at x bytes s.ends s.left) ≡ text_at x bytes (set s.ends f end) (set s.left f k)
      text_set = fun_ext (λ g.
          rw (get_d_set s.ends f end g (omega arith), get_d_set s.left f k g (omega arith))
          (by_bool (eqb f g)
          (λ e.
          let same : f ≡ g = eqb_true f g e in
          let place : end - k ≡ s.next + 5 = omega arith in
          rw (e, ← same, lt_ltb f fields known, place) (sym (text_is n f s.next bytes k t)))
          (λ e. rw e)))

      pub read_found : read_on n x bytes (Some s) todo ≡ texts_from n (text_at x bytes (set s.ends f end) (set s.left f k)) fs (drop end bytes)
      read_found =
          rw (neq_eqb set_there 0 stands, t.here)
          (ap₂ (λ (u : ℕ → List ℕ) (l : List ℕ). texts_from n u fs l) text_set (sym (later_is n f s.next bytes k t)))

-- the texts stand in the bytes
pub own_found : {bytes : List ℕ} {s : Spans} (f k end : ℕ) → Own bytes s → f < fields → k ≤ 65535 → k ≤ end → end ≤ length bytes
    → Own bytes (record { next = end; ends = set s.ends f end; left = set s.left f k })
own_found {bytes} {s} f k end o known short low high =
    let w = o.within in
    let at_end : (g : ℕ) → get_or (set s.ends f end) g 0 ≡ cond (eqb f g) end (get_or s.ends g 0) = λ g. get_d_set s.ends f end g (omega (arith, w.ends_many)) in
    let at_left : (g : ℕ) → get_or (set s.left f k) g 0 ≡ cond (eqb f g) k (get_or s.left g 0) = λ g. get_d_set s.left f k g (omega (arith, w.left_many)) in
    record {
      within = record {
        ends_many = length-set s.ends f end ∙ w.ends_many;
        left_many = length-set s.left f k ∙ w.left_many;
        in_front = λ g h. rw (at_end g, at_left g) (by_bool (eqb f g) (λ e. rw e low) (λ e. rw e (w.in_front g h)));
        in_bytes = λ g h. rw (at_end g) (by_bool (eqb f g) (λ e. rw e high) (λ e. rw e (w.in_bytes g h)));
      };
      short = λ g. rw (at_left g) (by_bool (eqb f g) (λ e. rw e short) (λ e. rw e (o.short g)));
      none_hidden = λ g h. rw (at_left g, neq_eqb f g (λ (e : f ≡ g). omega arith)) (o.none_hidden g h);
    }

-- nothing behind the last
module _ (n x : ℕ) (bytes : List ℕ) (s : Spans) where
  pub read_more : s.next < length bytes → read_on n x bytes (Some s) [] ≡ no_texts
  read_more h =
      let some : length (drop s.next bytes) ≡ 0 → ⊥ = λ (z : length (drop s.next bytes) ≡ 0). omega (arith, length-drop s.next bytes) in
      rw (neq_eqb (length (drop s.next bytes)) 0 some)

  pub read_all : length bytes ≤ s.next → read_on n x bytes (Some s) [] ≡ texts_of x bytes (Some s)
  read_all h =
      let none : length (drop s.next bytes) ≡ 0 = omega (arith, length-drop s.next bytes) in
      rw (eq_eqb (length (drop s.next bytes)) 0 none)

-- no record is read yet
zero_at : (m g : ℕ) → get_or {A = ℕ} (replicate m 0) g 0 ≡ 0
zero_at m g =
    by_bool (ltb g m) (λ h. get_or-replicate m g 0 0 (ltb_true g m h))
    (λ h. get_or-eq_default {A = ℕ} (replicate m 0) 0 {n = g} (rw (length-replicate {A = ℕ} m 0) (ltb_false g m h)))

abbrev pub first_spans : Spans
first_spans = record { next = 0; ends = replicate set_fields 0; left = replicate set_fields 0 }

abbrev pub todo_from : List ℕ → ℕ → List ℕ
todo_from sets f = keep (λ (g : ℕ). not (eqb (get_or sets g 0) 0)) (from f (fields - f))

module _ (n x : ℕ) (bytes sets : List ℕ) where
  pub read_first : texts_from n no_texts_yet (fields_with_sets sets) bytes ≡ read_on n x bytes (Some first_spans) (todo_from sets 0)
  unfolding fields_with_sets
  read_first =
      ap (λ (u : ℕ → List ℕ). texts_from n u (todo_from sets 0) bytes)
      (fun_ext (λ g. rw (zero_at set_fields g) (by_bool (ltb g fields) (λ e. rw e) (λ e. rw e))))

pub todo_on : (sets : List ℕ) (f : ℕ) → f < fields → todo_from sets f ≡ only (not (eqb (get_or sets f 0) 0)) f ++ todo_from sets (f + 1)
todo_on sets f h =
    let e : fields - f ≡ suc (fields - (f + 1)) = omega arith in
    let s : f + 1 ≡ suc f = omega arith in
    rw (e, s)

pub todo_none : (sets : List ℕ) (f : ℕ) → fields ≤ f → todo_from sets f ≡ []
todo_none sets f h = let e : fields - f ≡ 0 = omega arith in rw e

pub own_first : (bytes : List ℕ) → Own bytes first_spans
own_first bytes =
    record {
      within = record {
        ends_many = length-replicate {A = ℕ} set_fields 0;
        left_many = length-replicate {A = ℕ} set_fields 0;
        in_front = λ g h. rw (zero_at set_fields g) (omega arith);
        in_bytes = λ g h. rw (zero_at set_fields g) (omega arith);
      };
      short = λ g. rw (zero_at set_fields g) (omega arith);
      none_hidden = λ g h. zero_at set_fields g;
    }
