-- Texts by where they stand are the paper's texts:
--   next_agrees   : the step that they want is the paper's (`Agrees`)
--   behind_agrees : and so is what is left of them behind it
--   behind_within : they still stand in the bytes
-- Of a codable situation. Follows from the fronts by inner codes being those of the paper (`CodedSides` of search_children).
use Prim.Native.Nat.{ℕ, zero, suc, ◌+◌, ◌-◌, ◌≤◌, ◌<◌}
use native.Mathlib.Omega.{arith}
use mathlib.Core.Path.{◌≡◌, refl, sym, ap, ◌∙◌, fun_ext}
use mathlib.Core.Bool.{true, false, cond}
use mathlib.Core.List.{List, [], ◌∷◌}
use lib.Dec.{leb, ltb, eqb}
use lib.ListN.{length, get_or, take, drop, set, replicate, length-set, length-drop, length-replicate, get_or-replicate, get_or-eq_default}
use lib.Seq.{length-take-le, take-nil, get_or-take, get_or-drop, drop-drop, set_out}
use Rattle.paper.specs.Lists.{member}
use Rattle.paper.specs.Numbers.{most_characters, fields, set_fields}
use Rattle.paper.specs.Places.{PlaceSet}
use Rattle.paper.specs.Equation.{chr, fld, Side, Texts}
use Rattle.paper.specs.Situation.{Situation, Move, strike_left, strike_right, put, front_fields}
use Rattle.paper.proofs.base.Tests.{by_bool, cond_by, and_left, leb_true, ltb_true, ltb_false, lt_ltb, le_ltb, eqb_true, eqb_false, eqb_same, neq_eqb}
use Rattle.paper_steps.specs.StepRecords.{IsStep}
use Rattle.paper_way.specs.TextSteps.{used_up, no_character, next_character, Next, no_step, next, next_step, texts_behind}
use Rattle.base_codes.specs.Inner.{field_code, no_token, side_code, move_code, is_field_code, field_of, front}
use Rattle.search_children.specs.Coding.{situation_code}
use Rattle.search_children.proofs.CodedSides.{KnownSide, char_not_field, field_is_field, field_of_code, front_member}
use Rattle.search_children.proofs.CodedSets.{Codable}
use Rattle.way_records.specs.Spans.{text_at, Within}
use Rattle.way_records.proofs.Reading.{get_d_set}
use Rattle.way_step.specs.NextCoded.{used_coded, no_step_code, character_coded, put_code, next_code, less_one, left_behind}

-- the step by the paper and its code, where there are n characters
pub data Agrees (n : ℕ) : Next → ℕ → Type 0 where
  same_step : (m : Move) → IsStep n m → Agrees n (next m) (move_code m)
  no_put : (c : ℕ) → n ≤ c → Agrees n (next (put c)) no_step_code
  none : Agrees n no_step no_step_code

module _ (x : ℕ) (bytes ends left : List ℕ) (w : Within bytes ends left) where
  abbrev texts : Texts
  texts = text_at x bytes ends left

  -- how much is left
  pub text_long : (f : ℕ) → length (texts f) ≡ get_or left f 0
  text_long f =
      by_bool (ltb f fields)
      (λ h.
      let k = get_or left f 0 in
      let e = get_or ends f 0 in
      let known = ltb_true f fields h in
      rw h (length-take-le k (drop (e - k) bytes) (omega (arith, length-drop (e - k) bytes, w.in_front f known, w.in_bytes f known))))
      (λ h. rw h (length-replicate (get_or left f 0) x))

  used_agrees : (side : Side) → KnownSide side → used_up texts side ≡ used_coded left (front (side_code side))
  used_agrees [] k = refl
  used_agrees (chr a ∷ side) k = rw (char_not_field a k.0)
  used_agrees (fld f ∷ side) k = rw (field_is_field f k.0, field_of_code f, text_long f)

  -- the next character, where the text is not used up
  first_left : (f : ℕ) → 0 < get_or left f 0 → f < set_fields → get_or (texts f) 0 no_character ≡ character_coded x bytes ends left (field_code + f)
  first_left f some known =
      let k = get_or left f 0 in
      let at = get_or ends f 0 - k in
      rw (le_ltb (field_code + f) field_code (omega arith), field_of_code f)
      (by_bool (ltb f fields)
      (λ h.
      let z : at + 0 ≡ at = omega arith in
      rw h (get_or-take k (drop at bytes) 0 no_character some ∙ get_or-drop at bytes 0 no_character ∙ ap (λ (i : ℕ). get_or bytes i no_character) z))
      (λ h. rw (h, lt_ltb f set_fields known) (get_or-replicate k 0 x no_character some)))

  character_agrees : (side : Side) → KnownSide side → used_up texts side ≡ false → next_character texts side ≡ character_coded x bytes ends left (front (side_code side))
  character_agrees [] k u = refl
  character_agrees (chr a ∷ side) k u = let h : a < field_code = omega (arith, k.0) in rw (lt_ltb a field_code h)
  character_agrees (fld f ∷ side) k u =
      let some : length (texts f) ≡ 0 → ⊥ = eqb_false (length (texts f)) 0 u in
      first_left f (not_zero (get_or left f 0) (λ e. some (text_long f ∙ e))) k.0
    where
      not_zero : (n : ℕ) → (n ≡ 0 → ⊥) → 0 < n
      not_zero zero h = absurd (h refl)
      not_zero (suc n) h = omega arith

  put_agrees : (n : ℕ) → n ≤ most_characters → (c d : ℕ)
      → Agrees n (cond (eqb c d) (next (put c)) no_step) (put_code n c d)
  put_agrees n most c d =
      by_bool (eqb c d)
      (λ e. rw e
      (by_bool (ltb c n)
      (λ h. let lt = ltb_true c n h in rw (h, lt_ltb c most_characters (omega arith)) (same_step (put c) lt))
      (λ h. rw h (no_put c (ltb_false c n h)))))
      (λ e. rw e none)

  pub next_agrees : (n : ℕ) → n ≤ most_characters → (s : Situation PlaceSet) → Codable s
      → Agrees n (next_step texts s.left s.right) (next_code x bytes ends left n (situation_code s))
  unfolding next_step next_code
  next_agrees n most s k =
      let ul = used_agrees s.left k.left in
      let ur = used_agrees s.right k.right in
      by_bool (used_up texts s.left)
      (λ a. rw (a, sym ul ∙ a) (same_step strike_left tt))
      (λ a.
      by_bool (used_up texts s.right)
      (λ b. rw (a, sym ul ∙ a, b, sym ur ∙ b) (same_step strike_right tt))
      (λ b.
      rw (a, sym ul ∙ a, b, sym ur ∙ b, character_agrees s.left k.left a, character_agrees s.right k.right b)
      (put_agrees n most (character_coded x bytes ends left (front (side_code s.left))) (character_coded x bytes ends left (front (side_code s.right))))))

-- one character less
module _ (left : List ℕ) (many : length left ≡ set_fields) where
  less_many : (b : ℕ) → length (less_one left b) ≡ set_fields
  less_many b =
      cond_by (λ (l : List ℕ). length l ≡ set_fields) (is_field_code b)
      (λ _. length-set left (field_of b) (get_or left (field_of b) 0 - 1) ∙ many) (λ _. many)

  less_at : (b g : ℕ) → g < set_fields → get_or (less_one left b) g 0 ≡ cond (eqb (field_code + g) b) (get_or left g 0 - 1) (get_or left g 0)
  less_at b g h =
      by_bool (eqb (field_code + g) b)
      (λ e.
      let same : field_code + g ≡ b = eqb_true (field_code + g) b e in
      rw (e, ← same, field_is_field g h, field_of_code g) (get_d_set left g (get_or left g 0 - 1) g (omega arith) ∙ rw (eqb_same g)))
      (λ e.
      rw e
      (cond_by (λ (l : List ℕ). get_or l g 0 ≡ get_or left g 0) (is_field_code b)
      (λ i. other b i (eqb_false (field_code + g) b e))
      (λ _. refl)))
    where
      other : (b : ℕ) → is_field_code b ≡ true → (field_code + g ≡ b → ⊥) → get_or (set left (field_of b) (get_or left (field_of b) 0 - 1)) g 0 ≡ get_or left g 0
      other b i n =
          let from = leb_true field_code b (and_left (leb field_code b) (ltb b no_token) i) in
          by_bool (ltb (field_of b) (length left))
          (λ h.
          get_d_set left (field_of b) (get_or left (field_of b) 0 - 1) g (ltb_true (field_of b) (length left) h)
          ∙ rw (neq_eqb (field_of b) g (λ (e : field_of b ≡ g). n (omega arith))))
          (λ h. ap (λ (l : List ℕ). get_or l g 0) (set_out left (field_of b) (get_or left (field_of b) 0 - 1) (ltb_false (field_of b) (length left) h)))

-- what is left behind a character that was put
module _ (left : List ℕ) (many : length left ≡ set_fields) (s : Situation PlaceSet) (k : Codable s) (c : ℕ) (small : c < most_characters) where
  abbrev after : List ℕ
  after = left_behind left (situation_code s) c

  abbrev fl : ℕ
  fl = front (side_code s.left)

  abbrev fr : ℕ
  fr = front (side_code s.right)

  after_many : length after ≡ set_fields
  unfolding left_behind
  after_many =
      rw (lt_ltb c most_characters small)
      (cond_by (λ (l : List ℕ). length l ≡ set_fields) (eqb fr fl) (λ _. less_many left many fl)
      (λ _. less_many (less_one left fl) (less_many left many fl) fr))

  after_at : (g : ℕ) → g < set_fields → get_or after g 0 ≡ cond (member g (front_fields s.left s.right)) (get_or left g 0 - 1) (get_or left g 0)
  unfolding left_behind
  after_at g h =
      rw (lt_ltb c most_characters small, front_member g s.left s.right h k.left k.right)
      (by_bool (eqb fr fl)
      (λ e.
      let same : fr ≡ fl = eqb_true fr fl e in
      rw (e, same) (less_at left many fl g h ∙ by_bool (eqb (field_code + g) fl) (λ i. rw i) (λ i. rw i)))
      (λ e.
      rw e
      (less_at (less_one left fl) (less_many left many fl) fr g h
      ∙ rw (less_at left many fl g h)
      (by_bool (eqb (field_code + g) fl)
      (λ i.
      let apart : eqb (field_code + g) fr ≡ false =
      neq_eqb (field_code + g) fr (λ (j : field_code + g ≡ fr). eqb_false fr fl e (sym j ∙ eqb_true (field_code + g) fl i)) in
      rw (i, apart))
      (λ i. rw i)))))

  after_less : (g : ℕ) → get_or after g 0 ≤ get_or left g 0
  after_less g =
      by_bool (ltb g set_fields)
      (λ h.
      rw (after_at g (ltb_true g set_fields h))
      (cond_by (λ (n : ℕ). n ≤ get_or left g 0) (member g (front_fields s.left s.right)) (λ _. omega arith) (λ _. omega arith)))
      (λ h.
      let out = ltb_false g set_fields h in
      rw (get_or-eq_default after 0 {n = g} (omega (arith, after_many))) (omega arith))

-- a text with one character less
drop_spaces : (n x : ℕ) → drop 1 (replicate n x) ≡ replicate (n - 1) x
drop_spaces zero x = refl
drop_spaces (suc n) x = let e : n ≡ suc n - 1 = omega arith in rw (← e)

drop_taken : (n e : ℕ) (bytes : List ℕ) → n ≤ e → drop 1 (take n (drop (e - n) bytes)) ≡ take (n - 1) (drop (e - (n - 1)) bytes)
drop_taken zero e bytes h = refl
drop_taken (suc n) e bytes h =
    let m : n ≡ suc n - 1 = omega arith in
    let place : e - suc n + 1 ≡ e - n = omega arith in
    rw (← m) (drop_take_suc n (drop (e - suc n) bytes) ∙ ap (take n) (drop-drop 1 (e - suc n) bytes ∙ ap (λ (i : ℕ). drop i bytes) place))
  where
    drop_take_suc : (n : ℕ) (l : List ℕ) → drop 1 (take (suc n) l) ≡ take n (drop 1 l)
    drop_take_suc n [] = sym (take-nil n)
    drop_take_suc n (y ∷ l) = refl

module _ (x : ℕ) (bytes ends left : List ℕ) (w : Within bytes ends left) (s : Situation PlaceSet) (k : Codable s) where
  -- what is left of the texts
  pub behind_agrees : (n : ℕ) → n ≤ most_characters → (m : Move) → IsStep n m
      → texts_behind (text_at x bytes ends left) s m ≡ text_at x bytes ends (left_behind left (situation_code s) (move_code m))
  unfolding left_behind
  behind_agrees n most strike_left i = refl
  behind_agrees n most strike_right i = refl
  behind_agrees n most (put c) i = fun_ext (λ g. at g)
    where
      small : c < most_characters
      small = omega arith

      taken : (g : ℕ) → g < set_fields
          → cond (member g (front_fields s.left s.right)) (drop 1 (text_at x bytes ends left g)) (text_at x bytes ends left g)
          ≡ text_at x bytes ends (left_behind left (situation_code s) c) g
      taken g h =
          rw (after_at left w.left_many s k c small g h)
          (by_bool (member g (front_fields s.left s.right))
          (λ e.
          rw e
          (by_bool (ltb g fields)
          (λ j. rw j (drop_taken (get_or left g 0) (get_or ends g 0) bytes (w.in_front g (ltb_true g fields j))))
          (λ j. rw j (drop_spaces (get_or left g 0) x))))
          (λ e. rw e))

      -- no such field
      gone : (g : ℕ) → set_fields ≤ g
          → cond (member g (front_fields s.left s.right)) (drop 1 (text_at x bytes ends left g)) (text_at x bytes ends left g)
          ≡ text_at x bytes ends (left_behind left (situation_code s) c) g
      gone g h =
          rw (
            le_ltb g fields (omega arith),
            get_or-eq_default left 0 {n = g} (omega (arith, w.left_many)),
            get_or-eq_default (left_behind left (situation_code s) c) 0 {n = g} (omega (arith, after_many left w.left_many s k c small)),
          )
          (by_bool (member g (front_fields s.left s.right)) (λ e. rw e) (λ e. rw e))

      at : (g : ℕ)
          → cond (member g (front_fields s.left s.right)) (drop 1 (text_at x bytes ends left g)) (text_at x bytes ends left g)
          ≡ text_at x bytes ends (left_behind left (situation_code s) c) g
      at g = by_bool (ltb g set_fields) (λ h. taken g (ltb_true g set_fields h)) (λ h. gone g (ltb_false g set_fields h))

  pub behind_within : (n : ℕ) → n ≤ most_characters → (m : Move) → IsStep n m → Within bytes ends (left_behind left (situation_code s) (move_code m))
  unfolding left_behind
  behind_within n most strike_left i = w
  behind_within n most strike_right i = w
  behind_within n most (put c) i =
      let small : c < most_characters = omega arith in
      let less = after_less left w.left_many s k c small in
      record {
        ends_many = w.ends_many;
        left_many = after_many left w.left_many s k c small;
        in_front = λ f h. omega (arith, less f, w.in_front f h);
        in_bytes = w.in_bytes;
      }
