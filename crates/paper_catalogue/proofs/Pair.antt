-- Two good rules as a question.
--   unsolved_apart  : where nothing solves it, no two labels that are the same are made, one by each
--   solved_together : where something does, some are
--   pair_apart, pair_together : so where 01's search answers 1, and where it answers 0
-- The texts of two rules for labels that are the same are one assignment that solves their question: the first's below `rule_fields`, then the second's. So
-- it follows, for 01's search, from one of a question that is used up, and back from one that has found.
use Prim.Native.Nat.{ℕ, ◌+◌, ◌-◌, ◌<◌}
use native.Mathlib.Omega.{arith}
use mathlib.Core.Path.{◌≡◌, refl, sym, ap, ◌∙◌, subst}
use mathlib.Core.Logic.{⊎_elim}
use mathlib.Core.Bool.{true, false, cond}
use mathlib.Core.List.{List, [], ◌∷◌, ◌++◌, map, Memᴰ}
use lib.Dec.{ltb, eqb}
use lib.ListN.{get_or, take, get_or-append}
use lib.Seq.{get_or-take, get_or-append-add}
use Rattle.paper.specs.Numbers.{characters, rule_fields, space}
use Rattle.paper.specs.Pattern.{some_text, Holds}
use Rattle.paper.specs.Places.{PlaceSet}
use Rattle.paper.specs.Search.{Entry, End, found, used_up, no_room, too_long}
use Rattle.paper.specs.Equation.{Token, chr, fld, Side, is_field, stands_in, Texts, label, without_trailing, Same, Over}
use Rattle.paper.specs.Situation.{Situation, Move}
use Rattle.paper.specs.Question.{held_by, Solution, hidden}
use Rattle.paper.specs.Sheet.{has_pattern, strays}
use Rattle.paper.specs.Rule.{Rule, rule_holds, rule_strays, Makes, moved_up, pair}
use Rattle.paper.specs.Outcome.{searched, how_of}
use Rattle.paper_catalogue.specs.PairAsking.{pair_number, pair_answer}
use Rattle.paper.proofs.base.Tests.{by_bool, true_false, ltb_true, ltb_false, or_is_true, left_true, right_true, lt_ltb, le_ltb, eqb_true, eqb_same, eq_eqb}
use Rattle.paper.proofs.base.Lists.{cons_eq, any_true, mem_any, any_append, mem_map, map_mem}
use Rattle.paper_laws.proofs.equations.Labels.{label_same}
use Rattle.paper_laws.proofs.sheets.Asked.{GoodQuestion}
use Rattle.paper_laws.proofs.sheets.Strays.{AllStand, stray_free, free_stands}
use Rattle.paper_laws.proofs.sheets.Hidden.{hidden_known, own_solves, with_spaces, hidden_solves}
use Rattle.paper_laws.proofs.sheets.QuestionSearched.{found_solves, used_up_unsolved}
use Rattle.paper_catalogue.proofs.GoodRule.{GoodRule, own_field, own_held, pair_sayable}

-- The side moved up.
moved_field : (side : Side) (f : ℕ) → stands_in f (map moved_up side) ≡ true → (g : ℕ) × (f ≡ rule_fields + g) × (stands_in g side ≡ true)
moved_field side f e =
    let (u, d, k) = any_true (is_field f) (map moved_up side) e in
    let (t, i, p) = mem_map moved_up side d in
    back t i (rw p at k)
  where
    back : (t : Token) → Memᴰ t side → is_field f (moved_up t) ≡ true → (g : ℕ) × (f ≡ rule_fields + g) × (stands_in g side ≡ true)
    back (chr c) i k = absurd (true_false k refl)
    back (fld g) i k = (g, eqb_true f (rule_fields + g) k, mem_any (is_field g) side i (eqb_same g))

field_moved : (side : Side) (f : ℕ) → stands_in f side ≡ true → stands_in (rule_fields + f) (map moved_up side) ≡ true
field_moved side f e =
    let (t, d, k) = any_true (is_field f) side e in
    mem_any (is_field (rule_fields + f)) (map moved_up side) (map_mem moved_up d) (moved t k)
  where
    moved : (t : Token) → is_field f t ≡ true → is_field (rule_fields + f) (moved_up t) ≡ true
    moved (chr c) k = k
    moved (fld g) k = let e = eqb_true f g k in eq_eqb (rule_fields + f) (rule_fields + g) (omega arith)

label_moved : (texts : Texts) (side : Side) → label texts (map moved_up side) ≡ label (λ (f : ℕ). texts (rule_fields + f)) side
label_moved texts [] = refl
label_moved texts (chr c ∷ side) = cons_eq refl (label_moved texts side)
label_moved texts (fld f ∷ side) = ap (λ (l : List ℕ). texts (rule_fields + f) ++ l) (label_moved texts side)

-- The texts of both as one assignment.
abbrev joined : Texts → Texts → Texts
joined a b f = cond (ltb f rule_fields) (a f) (b (f - rule_fields))

joined_present : (a b : Texts) (f : ℕ) → f < rule_fields → joined a b f ≡ a f
joined_present a b f h = rw (lt_ltb f rule_fields h)

joined_new : (a b : Texts) (f : ℕ) → joined a b (rule_fields + f) ≡ b f
joined_new a b f =
    let e : (rule_fields + f) - rule_fields ≡ f = omega arith in
    rw (le_ltb (rule_fields + f) rule_fields (omega arith), e)

-- the search's end, from the pair's answer
answered_1 : (x : End (Situation PlaceSet) Move) → pair_number x ≡ 1 → x ≡ used_up
answered_1 (found e) h = absurd (omega (arith, h))
answered_1 used_up h = refl
answered_1 no_room h = absurd (omega (arith, h))
answered_1 too_long h = absurd (omega (arith, h))

answered_0 : (x : End (Situation PlaceSet) Move) → pair_number x ≡ 0 → (e : Entry (Situation PlaceSet) Move) × (x ≡ found e)
answered_0 (found e) h = (e, refl)
answered_0 used_up h = absurd (omega (arith, h))
answered_0 no_room h = absurd (omega (arith, h))
answered_0 too_long h = absurd (omega (arith, h))

module _ (r s : Rule) (g : GoodRule r) (h : GoodRule s) where
  -- What a field of the pair may hold: below `rule_fields` what the present rule's may, then what the new one's may.
  pub held_present : (f : ℕ) → f < rule_fields → held_by (pair r s) f ≡ rule_holds r f
  unfolding pair
  held_present f k =
      get_or-append (take rule_fields r.fields.held) (take rule_fields s.fields.held) some_text f (omega (arith, own_held r g))
      ∙ get_or-take rule_fields r.fields.held f some_text k

  pub held_new : (f : ℕ) → f < rule_fields → held_by (pair r s) (rule_fields + f) ≡ rule_holds s f
  unfolding pair
  held_new f k =
      let a = take rule_fields r.fields.held in
      let b = take rule_fields s.fields.held in
      ap (λ (n : ℕ). get_or (a ++ b) (n + f) some_text) (sym (own_held r g)) ∙ get_or-append-add a b f some_text
      ∙ get_or-take rule_fields s.fields.held f some_text k

  -- Where neither rule has a stray pattern, the pair has none.
  pub pair_free : rule_strays r ≡ [] → rule_strays s ≡ [] → strays (pair r s) ≡ []
  unfolding pair
  pair_free free-r free-s = stray_free (pair r s).held (r.side ++ right) standing
    where
      right : Side
      right = map moved_up s.side

      present : (f : ℕ) → f < rule_fields → has_pattern (held_by (pair r s) f) ≡ true → stands_in f (r.side ++ right) ≡ true
      present f k e =
          any_append (is_field f) r.side right
          ∙ left_true (stands_in f r.side) (stands_in f right)
          (free_stands r.fields.held r.side free-r f (omega arith) (rw (held_present f k) at e))

      new : (f : ℕ) → f < rule_fields → has_pattern (held_by (pair r s) (rule_fields + f)) ≡ true → stands_in (rule_fields + f) (r.side ++ right) ≡ true
      new f k e =
          any_append (is_field (rule_fields + f)) r.side right
          ∙ right_true (stands_in (rule_fields + f) r.side) (stands_in (rule_fields + f) right)
          (field_moved s.side f (free_stands s.fields.held s.side free-s f (omega arith) (rw (held_new f k) at e)))

      standing : AllStand (pair r s).held (r.side ++ right)
      standing f k e =
          by_bool (ltb f rule_fields) (λ (h : ltb f rule_fields ≡ true). present f (ltb_true f rule_fields h) e)
          (λ (h : ltb f rule_fields ≡ false).
          let low = ltb_false f rule_fields h in
          let p : rule_fields + (f - rule_fields) ≡ f = omega arith in
          subst (λ (n : ℕ). stands_in n (r.side ++ right) ≡ true) p
          (new (f - rule_fields) (omega arith) (subst (λ (n : ℕ). has_pattern (held_by (pair r s) n) ≡ true) (sym p) e)))

  -- A field that stands in the sides of the pair is a field of the one rule or, moved up, of the other.
  pub by_rule : (P : ℕ → Type 0)
      → ((f : ℕ) → stands_in f r.side ≡ true → f < rule_fields → P f)
      → ((f : ℕ) → stands_in f s.side ≡ true → f < rule_fields → P (rule_fields + f))
      → (f : ℕ) → stands_in f ((pair r s).left ++ (pair r s).right) ≡ true → P f
  unfolding pair
  by_rule P present new f e =
      ⊎_elim
      (λ (i : stands_in f r.side ≡ true). present f i (own_field r g f i))
      (λ (i : stands_in f (map moved_up s.side) ≡ true).
      let (k, p, j) = moved_field s.side f i in subst P (sym p) (new k j (own_field s h k j)))
      (or_is_true (stands_in f r.side) (stands_in f (map moved_up s.side))
      (sym (any_append (is_field f) r.side (map moved_up s.side)) ∙ e))

  -- Texts by which they make labels that are the same solve the question.
  both_solve : (l n : List ℕ) → Same space l n → (m : Makes r l) (k : Makes s n) → Solution (pair r s) (joined m.texts k.texts)
  unfolding pair
  both_solve l n same m k =
      let a = m.texts in
      let b = k.texts in
      record {
        same_label =
            ap (without_trailing space)
            (label_same (joined a b) a r.side (λ f e. joined_present a b f (own_field r g f e)) ∙ m.made)
            ∙ same
            ∙ ap (without_trailing space)
            (sym k.made
            ∙ label_same b (λ (f : ℕ). joined a b (rule_fields + f)) s.side (λ f e. sym (joined_new a b f))
            ∙ sym (label_moved (joined a b) s.side));
        over =
            by_rule (λ (f : ℕ). Over characters (joined a b f))
            (λ f e i. rw (joined_present a b f i) (m.over f e))
            (λ f e i. rw (joined_new a b f) (k.over f e));
        holds =
            by_rule (λ (f : ℕ). Holds (held_by (pair r s) f) (joined a b f))
            (λ f e i. rw (joined_present a b f i, held_present f i) (m.holds f e))
            (λ f e i. rw (joined_new a b f, held_new f i) (k.holds f e));
      }

  good_pair : GoodQuestion (pair r s)
  good_pair = (pair_sayable r s g h).good

  -- Where nothing solves it, they make no labels that are the same.
  pub unsolved_apart : ((texts : Texts) → Solution (pair r s) texts → ⊥) → (l n : List ℕ) → Same space l n → Makes r l → Makes s n → ⊥
  unsolved_apart none l n same m k = none (joined m.texts k.texts) (both_solve l n same m k)

  -- Answered 1, they make none.
  pub pair_apart : (room : ℕ) → pair_answer r s room ≡ 1 → (l n : List ℕ) → Same space l n → Makes r l → Makes s n → ⊥
  unfolding pair_answer
  pair_apart room e =
      unsolved_apart (λ texts solution.
      used_up_unsolved (hidden (pair r s)) room (hidden_known (pair r s) good_pair) (answered_1 (how_of (searched (hidden (pair r s)) room)) e)
      (with_spaces (pair r s) good_pair texts solution) (hidden_solves (pair r s) good_pair texts solution))

  -- Texts that solve the question make, of each rule, labels that are the same.
  solve_both : (texts : Texts) → Solution (pair r s) texts → Makes r (label texts r.side) × Makes s (label texts (map moved_up s.side))
  unfolding pair
  solve_both texts x =
      let right = map moved_up s.side in
      let present : (f : ℕ) → stands_in f r.side ≡ true → stands_in f (r.side ++ right) ≡ true =
      λ f e. any_append (is_field f) r.side right ∙ left_true (stands_in f r.side) (stands_in f right) e in
      let new : (f : ℕ) → stands_in f s.side ≡ true → stands_in (rule_fields + f) (r.side ++ right) ≡ true =
      λ f e. any_append (is_field (rule_fields + f)) r.side right
      ∙ right_true (stands_in (rule_fields + f) r.side) (stands_in (rule_fields + f) right) (field_moved s.side f e) in (
        record {
          texts = texts;
          over = λ f e. x.over f (present f e);
          holds = λ f e. rw (← (held_present f (own_field r g f e))) (x.holds f (present f e));
          made = refl;
        },
        record {
          texts = λ f. texts (rule_fields + f);
          over = λ f e. x.over (rule_fields + f) (new f e);
          holds = λ f e. rw (← (held_new f (own_field s h f e))) (x.holds (rule_fields + f) (new f e));
          made = sym (label_moved texts s.side);
        },
      )

  pub solved_together : (texts : Texts) → Solution (pair r s) texts → (l : List ℕ) × (n : List ℕ) × Same space l n × Makes r l × Makes s n
  unfolding pair
  solved_together texts x = let (m, k) = solve_both texts x in (_, _, x.same_label, m, k)

  -- Answered 0, they make labels that are the same.
  pub pair_together : (room : ℕ) → pair_answer r s room ≡ 0 → (l : List ℕ) × (n : List ℕ) × Same space l n × Makes r l × Makes s n
  unfolding pair_answer
  pair_together room e =
      let (entry, f) = answered_0 (how_of (searched (hidden (pair r s)) room)) e in
      solved_together _ (own_solves (pair r s) good_pair _ (found_solves (hidden (pair r s)) room entry f))
