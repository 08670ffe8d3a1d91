-- The few by marks and masks are those of the definition:
--   few_marks : those chosen have the marks of `is_few q`, of a question that can be searched
-- Every step on the marks is the definition's step on the list of those chosen (`Marked`). Follows from the laws of masks and of first numbers.
use Prim.Native.Nat.{ℕ, zero, suc, ◌≤◌, ◌<◌}
use native.Mathlib.Omega.{arith}
use mathlib.Core.Path.{◌≡◌, refl, sym, ap, ap₂, ◌∙◌, subst}
use mathlib.Core.Logic.{⊎_elim}
use mathlib.Core.Bool.{Bool, true, false, cond, not, ◌&&◌, ◌||◌}
use mathlib.Core.List.{List, [], ◌∷◌, ◌++◌, append-nil, Memᴰ}
use lib.Dec.{ltb, eqb}
use lib.ListN.{length, get_or, take, set, replicate, get_or-replicate, length-replicate, length-set}
use lib.Seq.{get_or-set_same, get_or-set_other}
use Rattle.paper.specs.Lists.{upto, any, only, keep, member}
use Rattle.paper.specs.Numbers.{most_characters, set_fields}
use Rattle.paper.specs.Pattern.{Held}
use Rattle.paper.specs.Equation.{stands_in}
use Rattle.paper.specs.Question.{Question, held_by}
use Rattle.paper.proofs.base.Tests.{by_bool, cond_true, cond_false, same_tests, and_left, and_right, both_true, ltb_true, eqb_true, eqb_false}
use Rattle.paper.proofs.base.Lists.{any_true, mem_any, none_any, any_append, upto_mem, mem_upto, member_true, mem_member}
use Rattle.paper.proofs.base.Listed.{upto_snoc}
use Rattle.paper_laws.proofs.sheets.Asked.{GoodHeld}
use Rattle.paper_laws.proofs.sheets.Hidden.{Searchable}
use Rattle.paper_decide.specs.Alike.{leaves_of, leaf_takes_it, fixed, fields_standing, is_least, least_ones}
use Rattle.paper_decide.specs.Few.{leaf_choice, chosen_for, chosen_in, chosen_by, some_chosen, few, is_few}
use Rattle.base_places.specs.Masks.{places, in_mask, taking_mask}
use Rattle.search_children.proofs.ChildTurns.{keep_append}
use Rattle.decide_alike.specs.AlikeCoded.{stepped, first_from, fixed_coded, standing_coded, least_from, taken_coded, first_taken, free_coded, choice_coded, with_mark}
use Rattle.decide_alike.specs.AlikeCoded.{chosen_at, chosen_within, chosen_of, chosen_coded, some_coded}
use Rattle.decide_alike.proofs.Marks.{marked_at}
use Rattle.decide_alike.proofs.First.{kept_first, any_first, first_same, first_of_two, keep_keep}
use Rattle.decide_alike.proofs.LeastRead.{in_taking, codes_of, taking_of, fixed_read, mask_read, standing_read, is_least_read}
use Rattle.decide_alike.proofs.Walked.{chosen_in_append, first_least, walked_all}

-- the marks of those chosen, each one of n characters
pub record Marked (n : ℕ) (d : List Bool) (l : List ℕ) : Type 0 where
  pub long : length d ≡ most_characters
  pub marks : (c : ℕ) → c < n → get_or d c false ≡ member c l
  pub within : (c : ℕ) → Memᴰ c l → c < n

-- some of those chosen passes: all characters can be tried
any_marked : (t : ℕ → Bool) (n : ℕ) (l : List ℕ) → ((c : ℕ) → Memᴰ c l → c < n) → any (λ (c : ℕ). member c l && t c) (upto n) ≡ any t l
any_marked t n l h =
    same_tests (any (λ (c : ℕ). member c l && t c) (upto n)) (any t l)
    (λ e.
    let r = any_true (λ (c : ℕ). member c l && t c) (upto n) e in
    mem_any t l (member_true r.0 l (and_left (member r.0 l) (t r.0) r.2)) (and_right (member r.0 l) (t r.0) r.2))
    (λ e.
    let r = any_true t l e in
    mem_any (λ (c : ℕ). member c l && t c) (upto n) (upto_mem n (h r.0 r.1)) (both_true (mem_member r.0 l r.1) r.2))

-- one more is marked
more_member : (j i : ℕ) (l : List ℕ) → cond (eqb j i) true (member j l) ≡ member j (l ++ (i ∷ []))
more_member j i l = last_one (eqb j i) (member j l) ∙ sym (any_append (λ (x : ℕ). eqb j x) l (i ∷ []))
  where
    last_one : (a b : Bool) → cond a true b ≡ b || (a || false)
    last_one true true = refl
    last_one true false = refl
    last_one false true = refl
    last_one false false = refl

with_one : (n : ℕ) → n ≤ most_characters → (d : List Bool) (l : List ℕ) → Marked n d l → (i : ℕ) → Marked n (with_mark n i d) (l ++ only (ltb i n) i)
unfolding with_mark
with_one n most d l m i =
    by_bool (ltb i n)
    (λ (e : ltb i n ≡ true).
    let k : i < n = ltb_true i n e in
    rw e
    (record {
      long = length-set d i true ∙ m.long;
      marks =
          λ (c : ℕ) (b : c < n).
          by_bool (eqb c i)
          (λ (s : eqb c i ≡ true).
          ap (λ (x : ℕ). get_or (set d i true) x false) (eqb_true c i s)
          ∙ get_or-set_same d i true false (omega (arith, m.long))
          ∙ sym (cond_true (eqb c i) true (member c l) s) ∙ more_member c i l)
          (λ (s : eqb c i ≡ false).
          get_or-set_other d i c true false (eqb_false c i s) ∙ m.marks c b
          ∙ sym (cond_false (eqb c i) true (member c l) s) ∙ more_member c i l);
      within =
          λ (c : ℕ) (x : Memᴰ c (l ++ (i ∷ []))).
          ⊎_elim (λ (j : Memᴰ c l). m.within c j)
          (λ (j : Memᴰ c (i ∷ [])). let s = mathlib.Core.List.Memᴰ.eq_of_singleton j in omega arith)
          (mathlib.Core.List.Memᴰ.append_cases l x);
    }))
    (λ (e : ltb i n ≡ false). rw (e, append-nil l) m)

-- the first of some, and where there is none of others
first_or : (m n k : ℕ) → cond (ltb m k) (m ∷ []) (only (ltb n k) n) ≡ only (ltb (cond (ltb m k) m n) k) (cond (ltb m k) m n)
first_or m n k = by_bool (ltb m k) (λ e. rw (e, e)) (λ e. rw e)

swapped : (a b c : Bool) → (a && b) && c ≡ a && (c && b)
swapped true true true = refl
swapped true true false = refl
swapped true false true = refl
swapped true false false = refl
swapped false b c = refl

-- the characters of a question
abbrev many : Question → ℕ
many q = q.alphabet.characters

module _ (q : Question) (most : many q ≤ most_characters) (has-one-character : 0 < many q) (free least : List Bool)
    (free-is : (c : ℕ) → c < many q → get_or free c false ≡ is_least q c && not (fixed q c))
    (least-is : (c : ℕ) → c < many q → get_or least c false ≡ is_least q c) where
  abbrev n : ℕ
  n = many q

  module _ (h : Held) (row : List ℕ) (row_is : (c : ℕ) → c < n → get_or row c 0 ≡ taking_mask h c) where
    module _ (p : ℕ) (place : p < places) where
      first_is : (among : List Bool) (t : ℕ → Bool) → ((c : ℕ) → c < n → get_or among c false ≡ t c)
          → first_taken n among row p ≡ first_from (λ (c : ℕ). t c && leaf_takes_it h p c) 0 n
      unfolding first_taken
      first_is among t e =
          first_same (taken_coded among row p) (λ (c : ℕ). t c && leaf_takes_it h p c) 0 n
          (λ c k. let b : c < n = omega arith in ap₂ ◌&&◌ (e c b) (ap (λ (m : ℕ). in_mask m p) (row_is c b) ∙ in_taking h p c place))

      -- does the place take one that is chosen?
      has_one : (d : List Bool) (l : List ℕ) → Marked n d l → ltb (first_taken n d row p) n ≡ any (leaf_takes_it h p) l
      has_one d l m =
          ap (λ (i : ℕ). ltb i n) (first_is d (λ (c : ℕ). member c l) m.marks)
          ∙ sym (any_first (λ (c : ℕ). member c l && leaf_takes_it h p c) n)
          ∙ any_marked (leaf_takes_it h p) n l m.within

      -- the first of the least ones that pass a test
      least_passing : (t : ℕ → Bool) (i : ℕ) → i ≡ first_from (λ (c : ℕ). is_least q c && t c) 0 n
          → take 1 (keep t (least_ones q)) ≡ only (ltb i n) i
      unfolding least_ones
      least_passing t i e =
          ap (take 1) (keep_keep t (is_least q) (upto n))
          ∙ kept_first (λ (c : ℕ). is_least q c && t c) n ∙ ap (λ (m : ℕ). only (ltb m n) m) (sym e)

      choice_is : leaf_choice q h p ≡ only (ltb (choice_coded n free least row p) n) (choice_coded n free least row p)
      unfolding leaf_choice choice_coded
      choice_is =
          let one = first_taken n free row p in
          let other = first_taken n least row p in
          let unfixed : ℕ → Bool = λ (c : ℕ). leaf_takes_it h p c && not (fixed q c) in
          first_of_two (ltb one n) one (keep unfixed (least_ones q)) (keep (leaf_takes_it h p) (least_ones q))
          (least_passing unfixed one
          (first_is free (λ (c : ℕ). is_least q c && not (fixed q c)) free-is
          ∙ first_same (λ (c : ℕ). (is_least q c && not (fixed q c)) && leaf_takes_it h p c) (λ (c : ℕ). is_least q c && unfixed c) 0 n
          (λ c b. swapped (is_least q c) (not (fixed q c)) (leaf_takes_it h p c))))
          ∙ ap (cond (ltb one n) (one ∷ [])) (least_passing (leaf_takes_it h p) other (first_is least (is_least q) least-is))
          ∙ first_or one other n

      step_read : (d : List Bool) (l : List ℕ) → Marked n d l → Marked n (chosen_at n free least row p d) (chosen_for q h l p)
      unfolding chosen_at chosen_for
      step_read d l m =
          by_bool (any (leaf_takes_it h p) l)
          (λ (e : any (leaf_takes_it h p) l ≡ true). rw (has_one d l m, e) m)
          (λ (e : any (leaf_takes_it h p) l ≡ false). rw (has_one d l m, e, choice_is) (with_one n most d l m (choice_coded n free least row p)))

    places_read : (k : ℕ) → k ≤ places → (d : List Bool) (l : List ℕ) → Marked n d l → Marked n (stepped (chosen_at n free least row) k d) (chosen_in q h l (upto k))
    unfolding stepped
    places_read zero b d l m = m
    places_read (suc k) b d l m =
        rw (upto_snoc k, chosen_in_append q h l (upto k) (k ∷ []))
        (step_read k (omega arith) (stepped (chosen_at n free least row) k d) (chosen_in q h l (upto k)) (places_read k (omega arith) d l m))

    within_read : GoodHeld n h → (d : List Bool) (l : List ℕ) → Marked n d l → Marked n (chosen_within n free least row d) (chosen_in q h l (leaves_of h))
    unfolding chosen_within
    within_read good d l m = rw (← (walked_all q has-one-character h good l)) (places_read places (omega arith) d l m)

  -- the fields that stand
  chosen_by_append : (l k m : List ℕ) → chosen_by q l (k ++ m) ≡ chosen_by q (chosen_by q l k) m
  chosen_by_append l [] m = refl
  chosen_by_append l (f ∷ k) m = chosen_by_append (chosen_in q (held_by q f) l (leaves_of (held_by q f))) k m

  module _ (good : Searchable q) where
    abbrev standing : List Bool
    standing = standing_coded (codes_of q)

    abbrev stands : ℕ → Bool
    stands f = stands_in f (q.left ++ q.right)

    field_read : (f : ℕ) → f < set_fields → (d : List Bool) (l : List ℕ) → Marked n d l
        → Marked n (chosen_of n free least standing (taking_of q) f d) (chosen_by q l (keep stands (f ∷ [])))
    unfolding chosen_of
    field_read f b d l m =
        by_bool (stands f)
        (λ (e : stands f ≡ true).
        rw (standing_read q good f b, e)
        (within_read (held_by q f) (get_or (taking_of q) f []) (λ c k. mask_read q f c b (omega arith)) (good.held f) d l m))
        (λ (e : stands f ≡ false). rw (standing_read q good f b, e) m)

    fields_read : (k : ℕ) → k ≤ set_fields → (d : List Bool) (l : List ℕ) → Marked n d l
        → Marked n (stepped (chosen_of n free least standing (taking_of q)) k d) (chosen_by q l (keep stands (upto k)))
    unfolding stepped
    fields_read zero b d l m = m
    fields_read (suc k) b d l m =
        let whole : chosen_by q l (keep stands (upto (suc k))) ≡ chosen_by q (chosen_by q l (keep stands (upto k))) (keep stands (k ∷ [])) =
        ap (λ (fs : List ℕ). chosen_by q l (keep stands fs)) (upto_snoc k)
        ∙ ap (chosen_by q l) (keep_append stands (upto k) (k ∷ [])) ∙ chosen_by_append l (keep stands (upto k)) (keep stands (k ∷ [])) in
        subst (Marked n (stepped (chosen_of n free least standing (taking_of q)) (suc k) d)) (sym whole)
        (field_read k (omega arith) (stepped (chosen_of n free least standing (taking_of q)) k d) (chosen_by q l (keep stands (upto k)))
        (fields_read k (omega arith) d l m))

    none_marked : Marked n (replicate most_characters false) []
    none_marked =
        record {
          long = length-replicate {A = Bool} most_characters false;
          marks = λ (c : ℕ) (b : c < n). get_or-replicate most_characters c false false (omega arith);
          within = λ (c : ℕ) (i : Memᴰ c []). absurd (mathlib.Core.List.Memᴰ.not-nil i);
        }

    pub chosen_read : Marked n (chosen_coded n free least standing (taking_of q)) (chosen_by q [] (fields_standing q))
    unfolding chosen_coded fields_standing
    chosen_read = fields_read set_fields (omega arith) (replicate most_characters false) [] none_marked

-- "where nothing is chosen, the least of all"
some_read : (q : Question) → many q ≤ most_characters → (d : List Bool) (l : List ℕ) → Marked (many q) d l
    → (c : ℕ) → c < many q → get_or (some_coded (many q) d) c false ≡ member c (some_chosen q l)
unfolding some_coded
some_read q most d [] m c b =
    let t : ℕ → Bool = λ (i : ℕ). get_or d i false in
    let none : any t (upto (many q)) ≡ false = none_any t (upto (many q)) (λ i k. m.marks i (mem_upto (many q) k)) in
    let first : member c (take 1 (least_ones q)) ≡ member c (0 ∷ []) = ap (member c) (first_least q (omega arith)) in
    ap (λ (x : List Bool). get_or x c false) (cond_false (any t (upto (many q))) d (set d 0 true) none)
    ∙ by_bool (eqb c 0)
    (λ (s : eqb c 0 ≡ true).
    ap (λ (x : ℕ). get_or (set d 0 true) x false) (eqb_true c 0 s) ∙ get_or-set_same d 0 true false (omega (arith, m.long)) ∙ sym (first ∙ rw s))
    (λ (s : eqb c 0 ≡ false). get_or-set_other d 0 c true false (eqb_false c 0 s) ∙ m.marks c b ∙ sym (first ∙ rw s))
some_read q most d (x ∷ l) m c b =
    let t : ℕ → Bool = λ (i : ℕ). get_or d i false in
    let in_list : Memᴰ x (x ∷ l) = mathlib.Core.List.Memᴰ.head refl in
    let its : x < many q = m.within x in_list in
    let some : any t (upto (many q)) ≡ true = mem_any t (upto (many q)) (upto_mem (many q) its) (m.marks x its ∙ mem_member x (x ∷ l) in_list) in
    ap (λ (y : List Bool). get_or y c false) (cond_true (any t (upto (many q))) d (set d 0 true) some) ∙ m.marks c b

module _ (q : Question) (good : Searchable q) where
  abbrev pub marked_fixed : List Bool
  marked_fixed = fixed_coded (many q) (codes_of q)

  abbrev pub marked_least : List Bool
  marked_least = least_from (many q) marked_fixed (standing_coded (codes_of q)) (taking_of q)

  abbrev pub marked_few : List Bool
  marked_few =
      some_coded (many q)
      (chosen_coded (many q) (free_coded (many q) marked_fixed marked_least) marked_least (standing_coded (codes_of q)) (taking_of q))

  pub least_marks : (c : ℕ) → c < many q → get_or marked_least c false ≡ is_least q c
  unfolding least_from
  least_marks c b = marked_at _ (many q) c b (omega (arith, good.most)) ∙ is_least_read q good c b

  free_marks : (c : ℕ) → c < many q → get_or (free_coded (many q) marked_fixed marked_least) c false ≡ is_least q c && not (fixed q c)
  unfolding free_coded
  free_marks c b =
      let k : c < most_characters = omega (arith, good.most) in
      marked_at (λ (c : ℕ). get_or marked_least c false && not (get_or marked_fixed c false)) (many q) c b k
      ∙ ap₂ (λ (x y : Bool). x && not y) (least_marks c b) (fixed_read q (many q) c b k)

  pub few_marks : (c : ℕ) → c < many q → get_or marked_few c false ≡ is_few q c
  unfolding is_few few
  few_marks c b =
      some_read q good.most
      (chosen_coded (many q) (free_coded (many q) marked_fixed marked_least) marked_least (standing_coded (codes_of q)) (taking_of q))
      (chosen_by q [] (fields_standing q))
      (chosen_read q good.most (omega arith) (free_coded (many q) marked_fixed marked_least) marked_least free_marks least_marks good) c b
