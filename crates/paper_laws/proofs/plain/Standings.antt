-- Standings: in how many ways a tail of a side can stand in front, and the situations of a plain question as pairs of them.
-- A tail with a character in front, or with nothing, stands in one way; a tail with a field in front in one way for each set of
-- that field. The situation of two standings has the sets of the two front fields, first sets for the fields that stand behind,
-- and `gone` for all others.
-- Follows from the definitions by induction on sides.
use Prim.Native.Nat.{ℕ, ◌+◌, ◌*◌}
use native.Mathlib.Omega.{arith}
use native.Mathlib.Nat.{suc-mul}
use mathlib.Core.Path.{◌≡◌, refl, sym, ap, ◌∙◌}
use mathlib.Core.Logic.{⊎_elim}
use mathlib.Core.Bool.{Bool, true, false, cond, ◌||◌}
use mathlib.Core.List.Memᴰ
use mathlib.Core.List.{List, [], ◌∷◌, ◌++◌, map, Memᴰ}
use lib.Dec.{eqb}
use lib.ListN.{length, get_or, length-append, length-map}
use lib.Seq.{ext_get_or}
use Rattle.paper.proofs.base.Listed.{get_or_map_upto}
use Rattle.paper.specs.Lists.{upto, any, each}
use Rattle.paper.proofs.base.Tests.{cond_by, true_false, or_is_true, or_left_false, or_right_false, eqb_true}
use Rattle.paper.proofs.base.Lists.{any_append, each_mem, map_mem, length_from}
use Rattle.paper.specs.Equation.{Token, chr, fld, Side, stands_in}
use Rattle.paper.specs.Situation.{Acceptor, Situation, front_field}
use Rattle.paper.specs.Plain.{standings, plain_bound}
use Rattle.paper_laws.proofs.plain.Tails.{Tail, whole, behind}

-- a tail of a side and, where a field stands in front of it, that field's set
pub record Standing (P : Type 0) : Type 0 where
  pub side : Side
  pub front : P

abbrev in_front : ℕ → Side → Bool
in_front f side = any (eqb f) (front_field side)

length_each_map : {A B C : Type 0} (g : A → B → C) (l : List A) (m : List B) → length (each (λ (a : A). map (g a) m) l) ≡ length l * length m
length_each_map g [] m = omega arith
length_each_map g (a ∷ l) m = rw (length-append, length-map, length_each_map g l m, suc-mul) (omega arith)

module _ {P : Type 0} (A : Acceptor P) (reach : ℕ → List P) where
  -- the standings of a side's tails
  abbrev pub all_standings : Side → List (Standing P)
  all_standings [] = record { side = []; front = A.gone } ∷ []
  all_standings (chr a ∷ t) = record { side = chr a ∷ t; front = A.gone } ∷ all_standings t
  all_standings (fld f ∷ t) = map (λ (s : P). record { side = fld f ∷ t; front = s }) (reach f) ++ all_standings t

  -- "one for each character and, for each field, the number of its reachable place sets", and one for the empty tail
  length_standings : (side : Side) → length (all_standings side) ≡ 1 + standings reach side
  length_standings [] = refl
  length_standings (chr a ∷ t) = omega (arith, length_standings t)
  length_standings (fld f ∷ t) = rw (length-append, length-map) (omega (arith, length_standings t))

  -- the situation of two standings
  abbrev pub set_at : Standing P → Standing P → ℕ → P
  set_at a b f =
      cond (in_front f a.side) a.front
      (cond (in_front f b.side) b.front (cond (stands_in f (a.side ++ b.side)) (A.first_set f) A.gone))

  abbrev pub situation_at : Standing P → Standing P → Situation P
  situation_at a b = record { left = a.side; right = b.side; sets = map (set_at a b) (upto A.fields) }

  abbrev pub all_situations : Side → Side → List (Situation P)
  all_situations l r = each (λ (a : Standing P). map (situation_at a) (all_standings r)) (all_standings l)

  pub length_situations : (l r : Side) → length (all_situations l r) ≡ plain_bound reach l r
  length_situations l r = rw (length_each_map situation_at (all_standings l) (all_standings r), length_standings l, length_standings r)

  -- the fields of a side have their first sets
  abbrev pub Fresh : List P → Side → Type 0
  Fresh sets side = (f : ℕ) → stands_in f side ≡ true → get_or sets f A.gone ≡ A.first_set f

  -- the field in front has one of its sets, those behind have their first sets
  abbrev pub Stands : List P → Side → Type 0
  Stands sets [] = Unit {0}
  Stands sets (chr a ∷ t) = Fresh sets t
  Stands sets (fld f ∷ t) = Memᴰ (get_or sets f A.gone) (reach f) × Fresh sets t

  -- the set of the field in front, and the standing that a side has with its sets
  front_set : List P → Side → P
  front_set sets [] = A.gone
  front_set sets (chr a ∷ t) = A.gone
  front_set sets (fld f ∷ t) = get_or sets f A.gone

  standing_of : List P → Side → Standing P
  standing_of sets t = record { side = t; front = front_set sets t }

  whole_listed : (sets : List P) (t : Side) → Stands sets t → Memᴰ (standing_of sets t) (all_standings t)
  unfolding standing_of front_set
  whole_listed sets [] h = Memᴰ.head refl
  whole_listed sets (chr a ∷ t) h = Memᴰ.head refl
  whole_listed sets (fld f ∷ t) h =
      Memᴰ.append_left (all_standings t) (map_mem (λ (s : P). record { side = fld f ∷ t; front = s }) h.0)

  listed_behind : (x : Token) (side : Side) {a : Standing P} → Memᴰ a (all_standings side) → Memᴰ a (all_standings (x ∷ side))
  listed_behind (chr c) side d = Memᴰ.tail d
  listed_behind (fld f) side d = Memᴰ.append_right (map (λ (s : P). record { side = fld f ∷ side; front = s }) (reach f)) d

  listed : (sets : List P) {t side : Side} → Tail t side → Stands sets t → Memᴰ (standing_of sets t) (all_standings side)
  listed sets (whole {side = t}) h = whole_listed sets t h
  listed sets (behind {x = x} {side = side} u) h = listed_behind x side (listed sets u h)

  -- A situation as a plain question (l₀, r₀) has them: its sides are tails, its fields stand with their sets, all other sets are gone.
  pub record Reached (l₀ r₀ : Side) (sets : List P) (l r : Side) : Type 0 where
    pub left_tail : Tail l l₀
    pub right_tail : Tail r r₀
    pub sets_length : length sets ≡ A.fields
    pub left_stands : Stands sets l
    pub right_stands : Stands sets r
    pub others_gone : (f : ℕ) → stands_in f l ≡ false → stands_in f r ≡ false → get_or sets f A.gone ≡ A.gone

  set_in_front : (sets : List P) (f : ℕ) (side : Side) → in_front f side ≡ true → get_or sets f A.gone ≡ front_set sets side
  unfolding front_set
  set_in_front sets f [] e = absurd (true_false e refl)
  set_in_front sets f (chr a ∷ t) e = absurd (true_false e refl)
  set_in_front sets f (fld g ∷ t) e =
      ⊎_elim (λ h. ap (λ (k : ℕ). get_or sets k A.gone) (eqb_true f g h)) (λ h. absurd (true_false h refl)) (or_is_true (eqb f g) false e)

  set_behind :
      (sets : List P) (f : ℕ) (side : Side)
      → Stands sets side → in_front f side ≡ false → stands_in f side ≡ true → get_or sets f A.gone ≡ A.first_set f
  set_behind sets f [] h e s = absurd (true_false s refl)
  set_behind sets f (chr a ∷ t) h e s = h f s
  set_behind sets f (fld g ∷ t) h e s =
      ⊎_elim (λ k. absurd (true_false k (or_left_false (eqb f g) false e))) (λ k. h.1 f k) (or_is_true (eqb f g) (stands_in f t) s)

  set_reached :
      (l₀ r₀ : Side) (sets : List P) (l r : Side) (f : ℕ)
      → Reached l₀ r₀ sets l r → get_or sets f A.gone ≡ set_at (standing_of sets l) (standing_of sets r) f
  unfolding standing_of
  set_reached l₀ r₀ sets l r f h =
      cond_by is (in_front f l) (λ e. set_in_front sets f l e)
      (λ e. cond_by is (in_front f r) (λ k. set_in_front sets f r k)
      (λ k. cond_by is (stands_in f (l ++ r))
      (λ s. ⊎_elim
      (λ p. set_behind sets f l h.left_stands e p)
      (λ p. set_behind sets f r h.right_stands k p)
      (or_is_true (stands_in f l) (stands_in f r) (rw any_append at s)))
      (λ s. let n : (stands_in f l || stands_in f r) ≡ false = rw any_append at s in
      h.others_gone f (or_left_false (stands_in f l) (stands_in f r) n) (or_right_false (stands_in f l) (stands_in f r) n))))
    where
      is : P → Type 0
      is x = get_or sets f A.gone ≡ x

  -- such a situation is one of the list
  pub reached_listed :
      (l₀ r₀ : Side) (sets : List P) (l r : Side)
      → Reached l₀ r₀ sets l r → Memᴰ (record { left = l; right = r; sets = sets }) (all_situations l₀ r₀)
  unfolding standing_of
  reached_listed l₀ r₀ sets l r h =
      each_mem (λ (a : Standing P). map (situation_at a) (all_standings r₀)) (all_standings l₀)
      (listed sets h.left_tail h.left_stands)
      (Memᴰ.cast (λ i. record { left = l; right = r; sets = same i })
      (map_mem (situation_at (standing_of sets l)) (listed sets h.right_tail h.right_stands)))
    where
      made : List P
      made = map (set_at (standing_of sets l) (standing_of sets r)) (upto A.fields)

      same : sets ≡ made
      same =
          ext_get_or A.gone sets made (rw (length-map, length_from) h.sets_length)
          (λ i k.
          set_reached l₀ r₀ sets l r i h
          ∙ sym (get_or_map_upto (set_at (standing_of sets l) (standing_of sets r)) A.gone A.fields i (rw h.sets_length at k)))
