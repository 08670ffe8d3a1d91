-- What a field that doesn't stand may hold changes no decision (request K13).
--   conclusion_same : concluded p room ≡ concluded q room
--   decision_same   : decision_of (asked p) work answer ≡ decision_of (asked q) work answer
-- Of a good question, if each field that stands may hold the same. Each search is the same (`SameHeld`), over the same characters and with the same
-- texts; and the letters and the bits of each standing apart are.
use Prim.Native.Nat.{ℕ, suc, ◌+◌, ◌-◌, ◌*◌}
use native.Mathlib.Nat.{zero-mul}
use native.Mathlib.Omega.{arith}
use mathlib.Core.Path.{◌≡◌, refl, sym, ap, ap₂, ◌∙◌}
use mathlib.Core.Logic.{◌⊎◌, inl, inr, ⊎_elim}
use mathlib.Core.Bool.{Bool, true, false, not, cond, ◌&&◌, ◌||◌}
use mathlib.Core.List.{List, [], ◌∷◌, ◌++◌, Memᴰ}
use lib.Dec.{leb, ltb, eqb}
use lib.ListN.{get_or, take}
use Rattle.paper.specs.Lists.{upto, any, all, keep, member}
use Rattle.paper.specs.Numbers.{fields, set_fields, situation_bytes}
use Rattle.paper.specs.Pattern.{Held, some_text}
use Rattle.paper.specs.Places.{PlaceSet}
use Rattle.paper.specs.Places as Places
use Rattle.paper.specs.Search.{End, used_up, State}
use Rattle.paper.specs.Situation.{Situation, Move}
use Rattle.paper.specs.Equation.{chr, fld, Side, is_field, stands_in}
use Rattle.paper.specs.Question.{Question, held_by, hidden}
use Rattle.paper.specs.Sheet.{asked}
use Rattle.paper.specs.Outcome.{room_of, searched, answered, count_of, how_of}
use Rattle.paper_chosen.specs.Chosen.{every, acceptor_over, searched_over}
use Rattle.paper_decide.specs.Alike.{leaves_of, leaf_takes_it, alike_in, fixed, fields_standing, alike, is_least, least_ones}
use Rattle.paper_decide.specs.Few.{leaf_choice, chosen_for, chosen_in, chosen_by, some_chosen, few, is_few}
use Rattle.paper_decide.specs.Letters.{Weights, divisor, between, held_weights, side_weight, times, divisor_of, surplus, at_least, no_end, at_most, uneven, this_one, all_but, chars_of, letters_differ}
use Rattle.paper_decide.specs.OneText.{text_held, with_texts}
use Rattle.paper_decide.specs.Deciding.{Attempt, searching, letters_test, apart_test, text_search, longer, attempts, end_decides, tried, Conclusion, concluded_from, concluded, decision_of}
use Rattle.paper.proofs.base.Tests.{by_bool, true_false, left_true, or_left_false, or_right_false}
use Rattle.paper.proofs.base.Lists.{mem_keep, any_append}
use Rattle.paper.proofs.base.Listed.{get_or_map_upto}
use Rattle.paper_laws.proofs.sheets.Asked.{GoodQuestion, fields_known}
use Rattle.paper_laws.proofs.sheets.Hidden.{held_own, by_standing}
use Rattle.paper_laws.proofs.sheets.SameAnswers.{hidden_agree}
use Rattle.paper_laws.proofs.equations.SameHeld.{with_held, search_same, searched_same, answered_same}
use Rattle.paper_decide.proofs.LettersRight.{sum_same}
use Rattle.paper_strays.proofs.SameEngine.{bits_same, clashes_same}

-- The characters that a search is over, and the search itself, of two questions that agree on the fields which stand.
module _ (q : Question) (held : List Held)
    (agree : (f : ℕ) → stands_in f (q.left ++ q.right) ≡ true → held_by q f ≡ get_or held f some_text) where
  abbrev p : Question
  p = with_held q held

  over_same : (among : ℕ → Bool) (room : ℕ) → searched_over among p room ≡ searched_over among q room
  unfolding searched_over acceptor_over
  over_same among =
      search_same (λ (h : Held) (s : PlaceSet) (c : ℕ). cond (among c) (Places.set_after h s c) []) q.alphabet.characters q.left q.right
      (held_by q) (held_by p) agree

  all_alike : (a b : ℕ) (fs : List ℕ) → ((f : ℕ) → Memᴰ f fs → held_by q f ≡ held_by p f)
      → all (λ (f : ℕ). alike_in (held_by p f) a b) fs ≡ all (λ (f : ℕ). alike_in (held_by q f) a b) fs
  all_alike a b [] h = refl
  all_alike a b (f ∷ fs) h =
      ap₂ ◌&&◌ (ap (λ (x : Held). alike_in x a b) (sym (h f (Memᴰ.head refl)))) (all_alike a b fs (λ g d. h g (Memᴰ.tail d)))

  standing_agree : (f : ℕ) → Memᴰ f (fields_standing q) → held_by q f ≡ held_by p f
  unfolding fields_standing
  standing_agree f d = agree f (mem_keep (λ (f : ℕ). stands_in f (q.left ++ q.right)) (upto set_fields) d).1

  alike_same : (a b : ℕ) → alike p a b ≡ alike q a b
  unfolding alike fixed fields_standing
  alike_same a b =
      ap (λ (t : Bool). eqb a b || (not (fixed q a) && (not (fixed q b) && t))) (all_alike a b (fields_standing q) standing_agree)

  least_same : is_least p ≡ is_least q
  unfolding is_least
  least_same = λ i c. not (any (λ (a : ℕ). alike_same a c i) (upto c))

  ones_same : least_ones p ≡ least_ones q
  unfolding least_ones
  ones_same = ap (λ (t : ℕ → Bool). keep t (upto q.alphabet.characters)) least_same

  choice_same : (h : Held) (j : ℕ) → leaf_choice p h j ≡ leaf_choice q h j
  unfolding leaf_choice fixed
  choice_same h j =
      ap (λ (l : List ℕ). take 1 (keep (λ (c : ℕ). leaf_takes_it h j c && not (fixed q c)) l ++ keep (leaf_takes_it h j) l)) ones_same

  chosen_for_same : (h : Held) (chosen : List ℕ) (j : ℕ) → chosen_for p h chosen j ≡ chosen_for q h chosen j
  unfolding chosen_for
  chosen_for_same h chosen j = ap (λ (l : List ℕ). cond (any (leaf_takes_it h j) chosen) chosen (chosen ++ l)) (choice_same h j)

  chosen_in_same : (h : Held) (chosen leaves : List ℕ) → chosen_in p h chosen leaves ≡ chosen_in q h chosen leaves
  chosen_in_same h chosen [] = refl
  chosen_in_same h chosen (j ∷ leaves) =
      ap (λ (l : List ℕ). chosen_in p h l leaves) (chosen_for_same h chosen j) ∙ chosen_in_same h (chosen_for q h chosen j) leaves

  chosen_by_same : (chosen fs : List ℕ) → ((f : ℕ) → Memᴰ f fs → held_by q f ≡ held_by p f) → chosen_by p chosen fs ≡ chosen_by q chosen fs
  chosen_by_same chosen [] h = refl
  chosen_by_same chosen (f ∷ fs) h =
      ap (λ (x : Held). chosen_by p (chosen_in p x chosen (leaves_of x)) fs) (sym (h f (Memᴰ.head refl)))
      ∙ ap (λ (l : List ℕ). chosen_by p l fs) (chosen_in_same (held_by q f) chosen (leaves_of (held_by q f)))
      ∙ chosen_by_same (chosen_in q (held_by q f) chosen (leaves_of (held_by q f))) fs (λ g d. h g (Memᴰ.tail d))

  some_same : (chosen : List ℕ) → some_chosen p chosen ≡ some_chosen q chosen
  some_same [] = ap (take 1) ones_same
  some_same (c ∷ chosen) = refl

  few_same : is_few p ≡ is_few q
  unfolding is_few few fields_standing
  few_same =
      ap {B = ℕ → Bool} (λ (l : List ℕ) (c : ℕ). member c l)
      (ap (some_chosen p) (chosen_by_same [] (fields_standing q) standing_agree) ∙ some_same (chosen_by q [] (fields_standing q)))

  -- the letters: a field that stands nowhere counts nothing
  none_there : (side : Side) (f : ℕ) → stands_in f side ≡ false → times f side ≡ 0
  none_there [] f h = refl
  none_there (chr c ∷ side) f h = let e = none_there side f h in omega arith
  none_there (fld g ∷ side) f h =
      by_bool (eqb f g) (λ (e : eqb f g ≡ true). absurd (true_false (left_true (eqb f g) (stands_in f side) e) h))
      (λ (e : eqb f g ≡ false). let k = none_there side f (rw e at h) in rw e (omega arith))

  -- of each field it is the same, or it stands nowhere
  abbrev SameOrNone : ℕ → Type 0
  SameOrNone f = (held_by q f ≡ held_by p f) ⊎ ((times f q.left ≡ 0) × (times f q.right ≡ 0))

  each_field : (f : ℕ) → SameOrNone f
  each_field f =
      by_bool (stands_in f (q.left ++ q.right)) (λ (e : stands_in f (q.left ++ q.right) ≡ true). inl (agree f e))
      (λ (e : stands_in f (q.left ++ q.right) ≡ false).
      let both = sym (any_append (is_field f) q.left q.right) ∙ e in
      inr (
        none_there q.left f (or_left_false (stands_in f q.left) (stands_in f q.right) both),
        none_there q.right f (or_right_false (stands_in f q.left) (stands_in f q.right) both),
      ))

  -- so what it counts by its surplus is
  counted_same : (B : Type 0) (g : ℕ → Weights → B) → ((x y : Weights) → g 0 x ≡ g 0 y) → (counts : ℕ → Bool) (f n : ℕ) → ((times f q.left ≡ 0) × (times f q.right ≡ 0) → n ≡ 0)
      → g n (held_weights counts (held_by p f)) ≡ g n (held_weights counts (held_by q f))
  counted_same B g none counts f n zero-if =
      ⊎_elim (λ (e : held_by q f ≡ held_by p f). ap (λ (h : Held). g n (held_weights counts h)) (sym e))
      (λ (z : (times f q.left ≡ 0) × (times f q.right ≡ 0)).
      let e = zero-if z in
      ap (λ (m : ℕ). g m (held_weights counts (held_by p f))) e ∙ none (held_weights counts (held_by p f)) (held_weights counts (held_by q f))
      ∙ ap (λ (m : ℕ). g m (held_weights counts (held_by q f))) (sym e))
      (each_field f)

  any_alike : (a b : ℕ → Bool) (fs : List ℕ) → ((f : ℕ) → a f ≡ b f) → any a fs ≡ any b fs
  any_alike a b [] h = refl
  any_alike a b (f ∷ fs) h = ap₂ ◌||◌ (h f) (any_alike a b fs h)

  divisor_alike : (a b : ℕ → ℕ) (fs : List ℕ) → ((f : ℕ) → a f ≡ b f) → divisor_of a fs ≡ divisor_of b fs
  divisor_alike a b [] h = refl
  divisor_alike a b (f ∷ fs) h = ap₂ divisor (h f) (divisor_alike a b fs h)

  module _ (counts : ℕ → Bool) (side other : Side) (ours : (f : ℕ) → (times f q.left ≡ 0) × (times f q.right ≡ 0) → times f side - times f other ≡ 0) where
    least_alike : at_least counts (held_by p) side other ≡ at_least counts (held_by q) side other
    least_alike =
        ap (λ (n : ℕ). side_weight counts side + n)
        (sum_same (λ (f : ℕ). surplus counts (held_by p) side other f * (held_weights counts (held_by p f)).least)
        (λ (f : ℕ). surplus counts (held_by q) side other f * (held_weights counts (held_by q f)).least) (upto fields)
        (λ f _. counted_same ℕ (λ (n : ℕ) (w : Weights). n * w.least) (λ x y. zero-mul x.least ∙ sym (zero-mul y.least)) counts f (times f side - times f other) (ours f)))

    most_alike : at_most counts (held_by p) side other ≡ at_most counts (held_by q) side other
    most_alike =
        ap (λ (n : ℕ). side_weight counts side + n)
        (sum_same (λ (f : ℕ). surplus counts (held_by p) side other f * (held_weights counts (held_by p f)).most)
        (λ (f : ℕ). surplus counts (held_by q) side other f * (held_weights counts (held_by q f)).most) (upto fields)
        (λ f _. counted_same ℕ (λ (n : ℕ) (w : Weights). n * w.most) (λ x y. zero-mul x.most ∙ sym (zero-mul y.most)) counts f (times f side - times f other) (ours f)))

    end_alike : no_end counts (held_by p) side other ≡ no_end counts (held_by q) side other
    end_alike =
        any_alike (λ (f : ℕ). ltb 0 (surplus counts (held_by p) side other f) && (held_weights counts (held_by p f)).endless)
        (λ (f : ℕ). ltb 0 (surplus counts (held_by q) side other f) && (held_weights counts (held_by q f)).endless) (upto fields)
        (λ f. counted_same Bool (λ (n : ℕ) (w : Weights). ltb 0 n && w.endless) (λ x y. refl) counts f (times f side - times f other) (ours f))

  uneven_same : (counts : ℕ → Bool) → uneven counts p ≡ uneven counts q
  unfolding uneven
  uneven_same counts =
      let l = q.left in
      let r = q.right in
      let left : (f : ℕ) → (times f l ≡ 0) × (times f r ≡ 0) → times f l - times f r ≡ 0 = λ f z. let a = z.0 in let b = z.1 in omega arith in
      let right : (f : ℕ) → (times f l ≡ 0) × (times f r ≡ 0) → times f r - times f l ≡ 0 = λ f z. let a = z.0 in let b = z.1 in omega arith in
      let steps = divisor_alike (λ (f : ℕ). between (times f l) (times f r) * (held_weights counts (held_by p f)).step)
      (λ (f : ℕ). between (times f l) (times f r) * (held_weights counts (held_by q f)).step) (upto fields)
      (λ f. counted_same ℕ (λ (n : ℕ) (w : Weights). n * w.step) (λ x y. zero-mul x.step ∙ sym (zero-mul y.step)) counts f (between (times f l) (times f r)) (λ z. let a = z.0 in let b = z.1 in omega arith)) in
      rw (least_alike counts l r left, least_alike counts r l right, most_alike counts l r left, most_alike counts r l right, end_alike counts l r left, end_alike counts r l right, steps)

  letters_same : letters_differ p ≡ letters_differ q
  unfolding letters_differ
  letters_same =
      ap₂ ◌||◌ (uneven_same (all_but q.alphabet.space))
      (any_alike (λ (c : ℕ). uneven (this_one c) p) (λ (c : ℕ). uneven (this_one c) q) (keep (all_but q.alphabet.space) (chars_of (q.left ++ q.right)))
      (λ c. uneven_same (this_one c)))

-- Attempts that give the same.
abbrev AllLikewise : ℕ → List Attempt → List Attempt → Type 0
AllLikewise room [] [] = Unit {0}
AllLikewise room [] (u ∷ us) = ⊥
AllLikewise room (t ∷ ts) [] = ⊥
AllLikewise room (t ∷ ts) (u ∷ us) = (tried t room ≡ tried u room) × AllLikewise room ts us

from_same : (first : End (Situation PlaceSet) Move) (room k n : ℕ) (ts us : List Attempt) → AllLikewise room ts us
    → concluded_from first room k n ts ≡ concluded_from first room k n us
from_same first room k n [] [] h = refl
from_same first room k n [] (u ∷ us) h = elim h [ ]
from_same first room k n (t ∷ ts) [] h = elim h [ ]
from_same first room k n (t ∷ ts) (u ∷ us) (l, h) =
    rw (l, from_same first room (suc k) (n + (tried u room).count) ts us h)

-- A good question, with its hidden fields.
module _ (q : Question) (g : GoodQuestion q) (held : List Held)
    (agree : (f : ℕ) → stands_in f (q.left ++ q.right) ≡ true → held_by q f ≡ get_or held f some_text) where
  abbrev other : Question
  other = with_held q held

  abbrev its_agree : (f : ℕ) → stands_in f ((hidden q).left ++ (hidden q).right) ≡ true → held_by (hidden q) f ≡ get_or (hidden other).held f some_text
  its_agree = hidden_agree q g held agree

  by_test : (t u : ℕ → Bool) (room : ℕ) → t ≡ u → searched_over t (hidden other) room ≡ searched_over u (hidden q) room
  by_test t u room e = ap (λ (s : ℕ → Bool). searched_over s (hidden other) room) e ∙ over_same (hidden q) (hidden other).held its_agree u room

  -- a search of questions that agree, over the same characters
  searching_same : (t u : ℕ → Bool) (clash no_clash : Bool) (room : ℕ) → t ≡ u
      → tried (searching (hidden other) t clash no_clash) room ≡ tried (searching (hidden q) u clash no_clash) room
  searching_same t u clash no_clash room e =
      ap (λ (st : State (Situation PlaceSet) Move). record { decides = end_decides clash no_clash (how_of st); count = count_of st; end = how_of st }) (by_test t u room e)

  -- with one text for each field that stands twice they agree too
  texts_agree : (n f : ℕ) → stands_in f (q.left ++ q.right) ≡ true → held_by (with_texts n q) f ≡ held_by (with_texts n other) f
  unfolding with_texts
  texts_agree n f e =
      let cs = upto q.alphabet.characters in
      let k = fields_known q g f e in
      get_or_map_upto (λ (f : ℕ). cond (ltb 1 (times f (q.left ++ q.right))) (text_held cs n (held_by q f)) (held_by q f)) some_text fields f k
      ∙ ap (λ (h : Held). cond (ltb 1 (times f (q.left ++ q.right))) (text_held cs n h) h) (agree f e)
      ∙ sym (get_or_map_upto (λ (f : ℕ). cond (ltb 1 (times f (q.left ++ q.right))) (text_held cs n (held_by other f)) (held_by other f)) some_text fields f k)

  texts_searched : (n room : ℕ) → searched_over every (hidden (with_texts n other)) room ≡ searched_over every (hidden (with_texts n q)) room
  unfolding with_texts
  texts_searched n room =
      over_same (hidden (with_texts n q)) (hidden (with_texts n other)).held
      (by_standing q g (λ (f : ℕ). held_by (hidden (with_texts n q)) f ≡ get_or (hidden (with_texts n other)).held f some_text)
      (λ f e h. held_own (with_texts n q) f h ∙ texts_agree n f e ∙ sym (held_own (with_texts n other) f h)) refl refl) every room

  text_same : (room n : ℕ) → tried (text_search n other) room ≡ tried (text_search n q) room
  text_same room n =
      ap (λ (st : State (Situation PlaceSet) Move). record { decides = end_decides true false (how_of st); count = count_of st; end = how_of st })
      (texts_searched n room)

  letters_tried : (room : ℕ) → tried (letters_test other) room ≡ tried (letters_test q) room
  letters_tried room = ap (λ (b : Bool). record { decides = b; count = 0; end = used_up }) (letters_same q held agree)

  apart_tried : (room : ℕ) → tried (apart_test other) room ≡ tried (apart_test q) room
  apart_tried room =
      ap (λ (b : Bool). record { decides = b; count = 0; end = used_up })
      (ap₂ (λ (n : ℕ) (c : Bool). leb n (8 * (situation_bytes * room)) && not c) (bits_same q g held agree) (clashes_same q g held agree))

  all_same : (room : ℕ) → AllLikewise room (attempts other) (attempts q)
  all_same room =
      let least = least_same (hidden q) (hidden other).held its_agree in
      let few = few_same (hidden q) (hidden other).held its_agree in (
        searching_same every every true true room refl,
        (
          letters_tried room,
          (
            apart_tried room,
            (
              text_same room 0,
              (
                text_same room longer,
                (
                  searching_same (is_least (hidden other)) (is_least (hidden q)) true true room least,
                  (
                    searching_same (is_few (hidden other)) (is_few (hidden q)) true false room few,
                    tt,
                  ),
                ),
              ),
            ),
          ),
        ),
      )

  pub conclusion_same : (room : ℕ) → concluded other room ≡ concluded q room
  unfolding concluded
  conclusion_same room =
      ap (λ (st : State (Situation PlaceSet) Move). concluded_from (how_of st) room 1 0 (attempts other))
      (searched_same (hidden q) (hidden other).held its_agree room)
      ∙ from_same (how_of (searched (hidden q) room)) room 1 0 (attempts other) (attempts q) (all_same room)

  pub decision_same : (work answer : List ℕ) → decision_of (asked other) work answer ≡ decision_of (asked q) work answer
  decision_same work answer =
      ap (λ (c : Conclusion). record { outcome = answered (hidden other) c.count c.end work answer; search = c.search }) (conclusion_same (room_of work))
      ∙ (let c = concluded q (room_of work) in
      λ i. record { outcome = answered_same (hidden q) (hidden other).held its_agree c.count c.end work answer i; search = c.search })
