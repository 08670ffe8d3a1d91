-- Letters by inner codes are those of the question.
--   letters_told : letters_coded e left right space bodies first second ≡ letters_differ q
-- where left and right are the codes of a good question's sides, and each field's body says what the field may hold (`PatternRead.Says`): those of the
-- fields 0 to 3 in the first bytes, those of 4 to 7 in the second. A sheet hands its bytes over twice, a pair of rules those of its rules.
-- Follows token by token and field by field.
use Prim.Native.Nat.{ℕ, ◌+◌, ◌-◌, ◌*◌, ◌≤◌, ◌<◌}
use native.Mathlib.Omega.{arith}
use mathlib.Core.Path.{◌≡◌, refl, sym, ap, ap₂, ◌∙◌}
use mathlib.Core.Logic.{⊎_elim}
use mathlib.Core.Bool.{Bool, true, false, ◌&&◌, ◌||◌}
use mathlib.Core.List.Memᴰ
use mathlib.Core.List.{List, [], ◌∷◌, ◌++◌, Memᴰ}
use lib.Dec.{ltb, eqb}
use lib.ListN.{get_or}
use Rattle.paper.specs.Lists.{upto, any, only, keep}
use Rattle.paper.specs.Numbers.{most_characters, fields, rule_fields}
use Rattle.paper.specs.Alphabet.{Edition}
use Rattle.paper.specs.Equation.{Token, chr, fld, Side, is_field}
use Rattle.paper.specs.Question.{Question, held_by}
use Rattle.paper.proofs.base.Tests.{by_bool, cond_by, eqb_true, eqb_false, eq_eqb, neq_eqb, ltb_true, ltb_false, lt_ltb, le_ltb}
use Rattle.paper.proofs.base.Lists.{mem_upto, map_append}
use Rattle.paper.proofs.base.Listed.{any_same}
use Rattle.paper_laws.proofs.sheets.Asked.{GoodSide, GoodQuestion, good_most}
use Rattle.paper_laws.proofs.sheets.Hidden.{HasSet, in_range_has_set}
use Rattle.paper_decide.specs.Letters.{one_if, divisor, between, Weights, held_weights, side_weight, times, sum_of, divisor_of, uneven, this_one, all_but, chars_of, letters_differ}
use Rattle.base_codes.specs.Inner.{field_code, token_code, side_code, padded}
use Rattle.base_question.specs.Bodies.{nowhere}
use Rattle.base_question.specs.declared.Body.{Body}
use Rattle.base_question.proofs.SidesBack.{side_back}
use Rattle.decide_letters.specs.SideCoded.{times_coded, weight_coded}
use Rattle.decide_letters.specs.LettersCoded.{body_weights, field_weights, total_over, totals_over, uneven_totals, uneven_coded, uneven_by_one, letters_coded}
use Rattle.decide_letters.proofs.PatternRead.{Says, body_read}

-- A token, by its code.
field_same : (f : ℕ) (t : Token) → HasSet t → eqb (field_code + f) (token_code t) ≡ is_field f t
field_same f (chr c) h = neq_eqb (field_code + f) c (λ (z : field_code + f ≡ c). omega arith)
field_same f (fld g) h =
    by_bool (eqb f g)
    (λ (e : eqb f g ≡ true). eq_eqb (field_code + f) (field_code + g) (ap (λ (x : ℕ). field_code + x) (eqb_true f g e)) ∙ sym e)
    (λ (e : eqb f g ≡ false). neq_eqb (field_code + f) (field_code + g) (λ (z : field_code + f ≡ field_code + g). eqb_false f g e (omega arith)) ∙ sym e)

abbrev HaveSets : Side → Type 0
HaveSets side = (t : Token) → Memᴰ t side → HasSet t

times_told : (f : ℕ) (side : Side) → HaveSets side → times_coded f (side_code side) ≡ times f side
times_told f [] h = refl
times_told f (t ∷ side) h =
    ap₂ (λ (b : Bool) (n : ℕ). one_if b + n) (field_same f t (h t (Memᴰ.head refl))) (times_told f side (λ u d. h u (Memᴰ.tail d)))

weight_told : (counts : ℕ → Bool) (side : Side) → HaveSets side → weight_coded counts (side_code side) ≡ side_weight counts side
weight_told counts [] h = refl
weight_told counts (chr c ∷ side) h =
    let low : c < most_characters = h (chr c) (Memᴰ.head refl) in
    rw (lt_ltb c field_code (omega arith)) (ap (λ (n : ℕ). one_if (counts c) + n) (weight_told counts side (λ u d. h u (Memᴰ.tail d))))
weight_told counts (fld f ∷ side) h =
    rw (le_ltb (field_code + f) field_code (omega arith)) (ap (λ (n : ℕ). 0 + n) (weight_told counts side (λ u d. h u (Memᴰ.tail d))))

-- The same weights, field by field.
sum_same : (g h : ℕ → ℕ) (fs : List ℕ) → ((f : ℕ) → Memᴰ f fs → g f ≡ h f) → sum_of g fs ≡ sum_of h fs
sum_same g h [] e = refl
sum_same g h (f ∷ fs) e = ap₂ (λ (x y : ℕ). x + y) (e f (Memᴰ.head refl)) (sum_same g h fs (λ k d. e k (Memᴰ.tail d)))

divisor_same : (g h : ℕ → ℕ) (fs : List ℕ) → ((f : ℕ) → Memᴰ f fs → g f ≡ h f) → divisor_of g fs ≡ divisor_of h fs
divisor_same g h [] e = refl
divisor_same g h (f ∷ fs) e = ap₂ divisor (e f (Memᴰ.head refl)) (divisor_same g h fs (λ k d. e k (Memᴰ.tail d)))

module _ (mine others : ℕ → ℕ) (v w : ℕ → Weights) (fs : List ℕ) (e : (f : ℕ) → Memᴰ f fs → v f ≡ w f) where
  total_same : (fixed : ℕ) → total_over mine others fixed v fs ≡ total_over mine others fixed w fs
  total_same fixed i =
      record {
        least =
            fixed + sum_same (λ (f : ℕ). (mine f - others f) * (v f).least) (λ (f : ℕ). (mine f - others f) * (w f).least) fs
            (λ f d. ap (λ (x : Weights). (mine f - others f) * x.least) (e f d)) i;
        most =
            fixed + sum_same (λ (f : ℕ). (mine f - others f) * (v f).most) (λ (f : ℕ). (mine f - others f) * (w f).most) fs
            (λ f d. ap (λ (x : Weights). (mine f - others f) * x.most) (e f d)) i;
        endless =
            any_same (λ (f : ℕ). ltb 0 (mine f - others f) && (v f).endless) (λ (f : ℕ). ltb 0 (mine f - others f) && (w f).endless) fs
            (λ f d. ap (λ (x : Weights). ltb 0 (mine f - others f) && x.endless) (e f d)) i;
      }

module _ (lefts rights : ℕ → ℕ) (a b : ℕ) (v w : ℕ → Weights) (fs : List ℕ) (e : (f : ℕ) → Memᴰ f fs → v f ≡ w f) where
  totals_same : totals_over lefts rights a b v fs ≡ totals_over lefts rights a b w fs
  totals_same i =
      record {
        left = total_same lefts rights v w fs e a i;
        right = total_same rights lefts v w fs e b i;
        steps =
            divisor_same (λ (f : ℕ). between (lefts f) (rights f) * (v f).step) (λ (f : ℕ). between (lefts f) (rights f) * (w f).step) fs
            (λ f d. ap (λ (x : Weights). between (lefts f) (rights f) * x.step) (e f d)) i;
      }

-- The characters that are tried.
any_only : (p : ℕ → Bool) (b : Bool) (c : ℕ) (l : List ℕ) → any p (only b c ++ l) ≡ ((b && p c) || any p l)
any_only p true c l = refl
any_only p false c l = refl

module _ (u v : (ℕ → Bool) → Bool) (same : (counts : ℕ → Bool) → u counts ≡ v counts) (space : ℕ) where
  abbrev tried : ℕ → Bool
  tried c = v (this_one c)

  chars_told : (side : Side) → HaveSets side
      → any (uneven_by_one u space) (side_code side) ≡ any tried (keep (all_but space) (chars_of side))
  chars_told [] h = refl
  chars_told (chr c ∷ side) h =
      let low : c < most_characters = h (chr c) (Memᴰ.head refl) in
      rw (lt_ltb c field_code (omega arith))
      (ap₂ (λ (x y : Bool). (all_but space c && x) || y) (same (this_one c)) (chars_told side (λ t d. h t (Memᴰ.tail d)))
      ∙ sym (any_only tried (all_but space c) c (keep (all_but space) (chars_of side))))
  chars_told (fld f ∷ side) h =
      rw (le_ltb (field_code + f) field_code (omega arith)) (chars_told side (λ t d. h t (Memᴰ.tail d)))

module _ (q : Question) (g : GoodQuestion q) (e : Edition) (bodies : List Body) (first second : List ℕ)
    (firsts : (f : ℕ) → f < rule_fields → Says e first (get_or bodies f nowhere) (held_by q f))
    (seconds : (f : ℕ) → rule_fields ≤ f → f < fields → Says e second (get_or bodies f nowhere) (held_by q f)) where
  abbrev many : ℕ
  many = q.alphabet.characters

  have_sets : (side : Side) → GoodSide many side → HaveSets side
  have_sets side s t d = in_range_has_set many (good_most g) t (s.tokens t d)

  field_told : (counts : ℕ → Bool) (f : ℕ) → f < fields → field_weights counts e bodies first second f ≡ held_weights counts (held_by q f)
  unfolding field_weights
  field_told counts f h =
      let b = get_or bodies f nowhere in
      cond_by (λ (s : List ℕ). body_weights counts e s b ≡ held_weights counts (held_by q f)) (ltb f rule_fields)
      (λ k. body_read counts many (good_most g) e first b (held_by q f) (g.held.good f) (firsts f (ltb_true f rule_fields k)))
      (λ k. body_read counts many (good_most g) e second b (held_by q f) (g.held.good f) (seconds f (ltb_false f rule_fields k) h))

  uneven_told : (counts : ℕ → Bool) → uneven_coded e (side_code q.left) (side_code q.right) bodies first second counts ≡ uneven counts q
  unfolding uneven_coded uneven
  uneven_told counts =
      let l = have_sets q.left g.left in
      let r = have_sets q.right g.right in
      let w = field_weights counts e bodies first second in
      (λ i.
      uneven_totals
      (totals_over (λ (f : ℕ). times_told f q.left l i) (λ (f : ℕ). times_told f q.right r i) (weight_told counts q.left l i)
      (weight_told counts q.right r i) w (upto fields)))
      ∙ ap uneven_totals
      (totals_same (λ (f : ℕ). times f q.left) (λ (f : ℕ). times f q.right) (side_weight counts q.left) (side_weight counts q.right) w
      (λ (f : ℕ). held_weights counts (held_by q f)) (upto fields)
      (λ f d. field_told counts f (mem_upto fields d)))

  pub letters_told : letters_coded e (padded (side_code q.left)) (padded (side_code q.right)) q.alphabet.space bodies first second ≡ letters_differ q
  unfolding letters_coded letters_differ
  letters_told =
      let space = q.alphabet.space in
      let l = side_back many (good_most g) q.left g.left in
      let r = side_back many (good_most g) q.right g.right in
      rw (l, r)
      (ap₂ (λ (x y : Bool). x || y) (uneven_told (all_but space))
      (ap (any (uneven_by_one (uneven_coded e (side_code q.left) (side_code q.right) bodies first second) space)) (sym (map_append token_code q.left q.right))
      ∙ chars_told (uneven_coded e (side_code q.left) (side_code q.right) bodies first second) (λ (counts : ℕ → Bool). uneven counts q) uneven_told space
      (q.left ++ q.right) both))
    where
      both : HaveSets (q.left ++ q.right)
      both t d = ⊎_elim (have_sets q.left g.left t) (have_sets q.right g.right t) (Memᴰ.append_cases q.left d)
