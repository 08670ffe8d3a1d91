-- How the sides of a situation begin, under texts for its fields:
--   open_front   : of an open situation that is trimmed, a field is in front of one of the sides
--   front        : a side is empty, or its front field has the empty text, or it starts with a character
--   starts_label : the character with which a side starts is the first of its label
--   not_front    : a field with the empty text is not in front of a side that starts
--   fronts_start : where both sides start with a character, so does the text of each front field
--   may_end_now  : a field with the empty text may end, if the texts solve the situation
--   starts_takes : a side takes the character with which it starts, if its fields take their texts
-- Follows from the definitions, from the laws of what a field takes, and, for the last, from what places decide.
use Prim.Native.Nat.{ℕ}
use mathlib.Core.Path.{◌≡◌, refl, sym, ap, ◌∙◌}
use mathlib.Core.Logic.{⊎_elim}
use mathlib.Core.Bool.{true, false}
use mathlib.Core.List.Memᴰ
use mathlib.Core.List.{List, [], ◌∷◌, ◌++◌, Memᴰ, nil≢cons}
use lib.Dec.{eqb}
use Rattle.paper.specs.Lists.{any}
use Rattle.paper.proofs.base.Tests.{never, cond_by, not_true, left_true, false_not, eqb_true, eqb_same, eq_eqb}
use Rattle.paper.proofs.base.Lists.{any_true}
use Rattle.paper.specs.Equation.{chr, fld, Side, Texts, label, stands_in}
use Rattle.paper.specs.Situation.{Acceptor, Situation, Sides, trim, is_dead, is_open, kind_of, front_field, front_fields, set_of, front_takes}
use Rattle.paper.specs.Decides.{Decides}
use Rattle.paper_laws.proofs.equations.Standing.{stands}
use Rattle.paper_laws.proofs.equations.Solution.{Takes, Solution, takes_rest, takes_not_empty}
use Rattle.paper_laws.proofs.equations.Moves.{other_front, other_is_front}

-- a field is in front of one of the sides
abbrev pub HasFront : Side → Side → Type 0
HasFront l r = (f : ℕ) × Memᴰ f (front_fields l r)

-- so it is in every open situation that is trimmed
pub open_front : (l r : Side) → kind_of (trim l r).l (trim l r).r ≡ is_open → HasFront (trim l r).l (trim l r).r
open_front [] [] k = absurd (never (cc))
open_front [] (chr b ∷ r) k = absurd (never (cc))
open_front [] (fld g ∷ r) k = (g, Memᴰ.head refl)
open_front (fld f ∷ l) r k = (f, Memᴰ.head refl)
open_front (chr a ∷ l) [] k = absurd (never (cc))
open_front (chr a ∷ l) (fld g ∷ r) k = (g, Memᴰ.head refl)
open_front (chr a ∷ l) (chr b ∷ r) k =
    cond_by (λ (t : Sides). kind_of t.l t.r ≡ is_open → HasFront t.l t.r) (eqb a b)
    (λ _ i. open_front l r i)
    (λ q i. let z : is_dead ≡ is_open = rw q at i in absurd (never (cc)))
    k

-- the side is not empty, and no text in front of it is: it starts with the character c
pub data Starts (texts : Texts) (c : ℕ) : Side → Type 0 where
  by_character : {a : ℕ} {side : Side} → a ≡ c → Starts texts c (chr a ∷ side)
  by_field : {f : ℕ} {w : List ℕ} {side : Side} → texts f ≡ c ∷ w → Starts texts c (fld f ∷ side)

-- how a side begins: it is empty, its front field has the empty text, or it starts with a character
pub data Front (texts : Texts) : Side → Type 0 where
  ends : Front texts []
  strikes : {f : ℕ} {side : Side} → texts f ≡ [] → Front texts (fld f ∷ side)
  starts : {c : ℕ} {side : Side} → Starts texts c side → Front texts side

pub front : (texts : Texts) (side : Side) → Front texts side
front texts [] = ends
front texts (chr a ∷ side) = starts (by_character refl)
front texts (fld f ∷ side) = of (texts f) refl
  where
    of : (w : List ℕ) → texts f ≡ w → Front texts (fld f ∷ side)
    of [] e = strikes e
    of (c ∷ w) e = starts (by_field e)

-- it is the first character of the label
pub starts_label : {texts : Texts} {c : ℕ} {side : Side} → Starts texts c side → (w : List ℕ) × (label texts side ≡ c ∷ w)
starts_label {texts} (by_character {side = side} e) = (label texts side, λ i. e i ∷ label texts side)
starts_label {texts} (by_field {w = w} {side = side} e) = (w ++ label texts side, rw e)

-- the front field of a side that starts has a text that does
starts_front : {texts : Texts} {c : ℕ} {side : Side} → Starts texts c side → (f : ℕ) → Memᴰ f (front_field side)
    → (w : List ℕ) × (texts f ≡ c ∷ w)
starts_front (by_character e) f d = absurd (Memᴰ.not-nil d)
starts_front (by_field {w = w} e) f d = (w, rw (Memᴰ.eq_of_singleton d) e)

-- a field with the empty text is not in front of a side that starts
pub not_front : {texts : Texts} {c : ℕ} {side : Side} → Starts texts c side → (g : ℕ) → texts g ≡ []
    → any (eqb g) (front_field side) ≡ false
not_front {texts} {side = side} h g n =
    not_true (any (eqb g) (front_field side))
    (λ t. let (f, d, e) = any_true (eqb g) (front_field side) t in
    let (w, i) = starts_front h f d in nil≢cons (sym n ∙ ap texts (eqb_true g f e) ∙ i))

-- every front field's text begins with the character
pub fronts_start : {texts : Texts} {c : ℕ} (l r : Side) → Starts texts c l → Starts texts c r → (f : ℕ) → Memᴰ f (front_fields l r)
    → (w : List ℕ) × (texts f ≡ c ∷ w)
fronts_start l r h k f d =
    ⊎_elim (starts_front h f)
    (λ (i : Memᴰ f (other_front l r)). starts_front k f (other_is_front l r i))
    (Memᴰ.append_cases (front_field l) d)

module _ {P : Type 0} (A : Acceptor P) where
  -- a field with the empty text may end
  pub may_end_now : (s : Situation P) (texts : Texts) (f : ℕ) → texts f ≡ [] → Solution A s texts → stands f s ≡ true
      → A.may_end f (set_of A s f) ≡ true
  may_end_now s texts f n x e = rw n at (x.takes f e).ends

module _ {P : Type 0} (A : Acceptor P) {Holds : ℕ → List ℕ → Type 0} (D : Decides A Holds) where
  -- a side takes the character with which it starts
  pub starts_takes : {texts : Texts} {c : ℕ} {side : Side} (s : Situation P) → Starts texts c side
      → ((f : ℕ) → stands_in f side ≡ true → Takes A f (set_of A s f) (texts f)) → front_takes A s c side ≡ true
  starts_takes {c = c} s (by_character {a = a} e) t = eq_eqb a c e
  starts_takes {texts} {c} s (by_field {f = f} {w = w} {side = side} e) t =
      false_not
      (takes_not_empty A D f (A.set_after f (set_of A s f) c) w
      (takes_rest A f (set_of A s f) c w (rw e at (t f (left_true (eqb f f) (stands_in f side) (eqb_same f))))))
