-- The question of sides with known tokens is codable, and so is every child of a codable situation.
-- Follows from what strikes, puts and trimming do to tokens and sets.
use Prim.Native.Nat.{ℕ, ◌≤◌, ◌<◌}
use native.Mathlib.Omega.{arith}
use mathlib.Core.Path.{refl, sym, ◌∙◌, subst}
use mathlib.Core.Logic.{⊎_elim}
use mathlib.Core.Bool.{Bool, cond}
use mathlib.Core.List.Memᴰ
use mathlib.Core.List.{List, [], ◌∷◌, ◌++◌, map, Memᴰ}
use lib.Dec.{ltb}
use lib.ListN.{length, get_or, length-set, length-map, get_or-eq_default}
use Rattle.paper.specs.Lists.{upto}
use Rattle.paper.specs.Numbers.{most_characters, set_fields, longest_side}
use Rattle.paper.specs.Places.{PlaceSet, first_set}
use Rattle.paper.specs.Search.{child}
use Rattle.paper.specs.Equation.{chr, fld, Side, stands_in}
use Rattle.paper.specs.Situation.{Situation, Move, front_field, front_fields, trimmed, strike, strike_all, put_before, put_before_all, moved, children, question}
use Rattle.paper.specs.Question.{Question, held_by}
use Rattle.paper_chosen.specs.Chosen.{acceptor_over}
use Rattle.paper.proofs.base.Tests.{by_bool, cond_by, ltb_true, ltb_false}
use Rattle.paper.proofs.base.Lists.{length_from}
use Rattle.paper.proofs.base.Listed.{get_or_map_upto}
use Rattle.paper_laws.proofs.equations.Moves.{other_is_front, Opened, strikes_left, strikes_right, puts, move_opened, child_made}
use Rattle.paper_laws.proofs.equations.Question.{asked}
use Rattle.base_places.proofs.Masks.{Masked, Few, masked_first, masked_none, masked_after}
use Rattle.search_children.proofs.CodedSides.{KnownSide, known_strike, known_put, known_trim}
use Rattle.search_children.proofs.CodedSets.{Codable, masked_set}

-- fields that a situation has sets for
abbrev KnownFields : List ℕ → Type 0
KnownFields fs = (f : ℕ) → Memᴰ f fs → f < set_fields

known_front : (side : Side) → KnownSide side → KnownFields (front_field side)
known_front [] h f d = absurd (Memᴰ.not-nil d)
known_front (chr a ∷ side) h f d = absurd (Memᴰ.not-nil d)
known_front (fld g ∷ side) h f d = rw (Memᴰ.eq_of_singleton d) h.0

known_fronts : (l r : Side) → KnownSide l → KnownSide r → KnownFields (front_fields l r)
known_fronts l r h k f d =
    ⊎_elim (known_front l h f) (λ i. known_front r k f (other_is_front l r i)) (Memᴰ.append_cases (front_field l) d)

-- the first set of a field that stands in the sides
abbrev first_of : Side → Side → ℕ → PlaceSet
first_of l r f = cond (stands_in f (l ++ r)) first_set []

masked_firsts : (l r : Side) (f : ℕ) → Masked (get_or (map (first_of l r) (upto set_fields)) f [])
masked_firsts l r f =
    by_bool (ltb f set_fields)
    (λ e.
    rw (get_or_map_upto (first_of l r) [] set_fields f (ltb_true f set_fields e))
    (cond_by Masked (stands_in f (l ++ r)) (λ _. masked_first) (λ _. masked_none)))
    (λ e.
    let out : length (map (first_of l r) (upto set_fields)) ≤ f =
    omega (arith, length-map (upto set_fields) (first_of l r), length_from 0 set_fields, ltb_false f set_fields e) in
    rw (get_or-eq_default (map (first_of l r) (upto set_fields)) [] out) masked_none)

module _ (among : ℕ → Bool) (q : Question) (few : (f : ℕ) → Few (held_by q f)) where
  codable_trimmed : (s : Situation PlaceSet) → Codable s → Codable (trimmed (acceptor_over among q) s)
  unfolding trimmed
  codable_trimmed s g =
      let k = known_trim s.left s.right g.left g.right in
      record { left = k.0; right = k.1; many = g.many; masked = g.masked }

  codable_strike : (f : ℕ) (s : Situation PlaceSet) → f < set_fields → Codable s → Codable (strike (acceptor_over among q) f s)
  unfolding strike acceptor_over
  codable_strike f s b g =
      record {
        left = known_strike f s.left g.left;
        right = known_strike f s.right g.right;
        many = length-set s.sets f [] ∙ g.many;
        masked = masked_set s.sets f [] (rw g.many b) masked_none g.masked;
      }

  codable_strike_all : (fs : List ℕ) (s : Situation PlaceSet) → KnownFields fs → Codable s → Codable (strike_all (acceptor_over among q) fs s)
  codable_strike_all [] s b g = g
  codable_strike_all (f ∷ fs) s b g =
      codable_strike_all fs (strike (acceptor_over among q) f s) (λ h d. b h (Memᴰ.tail d)) (codable_strike f s (b f (Memᴰ.head refl)) g)

  codable_put : (c f : ℕ) (s : Situation PlaceSet) → c < most_characters → f < set_fields → Codable s → Codable (put_before (acceptor_over among q) c f s)
  unfolding put_before acceptor_over
  codable_put c f s h b g =
      record {
        left = known_put c f s.left h g.left;
        right = known_put c f s.right h g.right;
        many = length-set s.sets f _ ∙ g.many;
        masked =
            masked_set s.sets f _ (rw g.many b)
            (cond_by Masked (among c) (λ _. masked_after (held_by q f) (get_or s.sets f []) c (few f) (g.masked f)) (λ _. masked_none)) g.masked;
      }

  codable_put_all : (c : ℕ) (fs : List ℕ) (s : Situation PlaceSet) → c < most_characters → KnownFields fs → Codable s
      → Codable (put_before_all (acceptor_over among q) c fs s)
  codable_put_all c [] s h b g = g
  codable_put_all c (f ∷ fs) s h b g =
      codable_put_all c fs (put_before (acceptor_over among q) c f s) h (λ k d. b k (Memᴰ.tail d))
      (codable_put c f s h (b f (Memᴰ.head refl)) g)

  codable_moved : {m : Move} (s : Situation PlaceSet) → q.alphabet.characters ≤ most_characters → Opened (acceptor_over among q) s m → Codable s
      → Codable (moved (acceptor_over among q) s m)
  unfolding acceptor_over
  codable_moved s most (strikes_left e) g = codable_strike_all (front_field s.left) s (known_front s.left g.left) g
  codable_moved s most (strikes_right e) g = codable_strike_all (front_field s.right) s (known_front s.right g.right) g
  codable_moved s most (puts {c = c} h l r) g =
      codable_put_all c (front_fields s.left s.right) s (omega arith) (known_fronts s.left s.right g.left g.right) g

  -- every child of a codable situation is codable
  pub child_codable : q.alphabet.characters ≤ most_characters → (s : Situation PlaceSet) (m : Move) (t : Situation PlaceSet) → Codable s
      → Memᴰ (child m t) (children (acceptor_over among q) longest_side s) → Codable t
  child_codable most s m t g d =
      let (i, e) = child_made (acceptor_over among q) longest_side s d in
      subst Codable (sym e) (codable_trimmed (moved (acceptor_over among q) s m) (codable_moved s most (move_opened (acceptor_over among q) s i) g))

  -- the first situation of a question with known tokens
  pub question_codable : (l r : Side) → KnownSide l → KnownSide r → Codable (question (acceptor_over among q) l r)
  unfolding question acceptor_over
  question_codable l r h k =
      codable_trimmed (asked (acceptor_over among q) l r)
      (record {
        left = h;
        right = k;
        many = length-map (upto set_fields) (first_of l r) ∙ length_from 0 set_fields;
        masked = masked_firsts l r;
      })
