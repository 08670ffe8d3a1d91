-- Labels by the texts of the fields that stand, of sides one behind the other, under a change of the texts at one field, and under trimming. Each law of a put speaks of two assignments of texts, one
-- with the character c in front of the text of f and one without, and so serves both ways.
-- Follows from the definitions by induction on the sides.
use Prim.Native.Nat.{ℕ}
use mathlib.Core.Path.{◌≡◌, refl, sym, ap, ◌∙◌}
use mathlib.Core.Bool.{Bool, true, false}
use mathlib.Core.List.{List, [], ◌∷◌, ◌++◌, append_assoc, append-nil, tail-eq_of_cons-eq}
use lib.Dec.{eqb}
use Rattle.paper.specs.Lists.{only}
use Rattle.paper.proofs.base.Tests.{by_bool, left_true, right_true, eqb_true, eqb_same}
use Rattle.paper.proofs.base.Lists.{cons_eq}
use Rattle.paper.specs.Equation.{chr, fld, Side, stands_in, Texts, label}
use Rattle.paper.specs.Situation.{strike_in, put_in}
use Rattle.paper_laws.proofs.equations.Trimming.{Trimming, stop, drop}

-- the texts `before` are the texts `after` with c in front of the text of f
abbrev pub Put : ℕ → ℕ → Texts → Texts → Type 0
Put c f before after = (g : ℕ) → before g ≡ only (eqb f g) c ++ after g

-- a strike keeps the label if the field's text is empty
pub label_strike : (texts : Texts) (f : ℕ) (side : Side) → texts f ≡ [] → label texts (strike_in f side) ≡ label texts side
label_strike texts f [] n = refl
label_strike texts f (chr a ∷ side) n = cons_eq refl (label_strike texts f side n)
label_strike texts f (fld h ∷ side) n =
    by_bool (eqb f h)
    (λ e. rw (e, ← (eqb_true f h e), n) (label_strike texts f side n))
    (λ e. rw (e, label_strike texts f side n))

-- the label of a character alone, or of nothing
label_character : (texts : Texts) (c : ℕ) (b : Bool) (side : Side) → label texts (only b (chr c) ++ side) ≡ only b c ++ label texts side
label_character texts c true side = refl
label_character texts c false side = refl

-- a put keeps the label if it takes the character from the field's text
pub label_put : (before after : Texts) (c f : ℕ) (side : Side) → Put c f before after → label after (put_in c f side) ≡ label before side
label_put before after c f [] p = refl
label_put before after c f (chr a ∷ side) p = cons_eq refl (label_put before after c f side p)
label_put before after c f (fld h ∷ side) p =
    rw (label_character after c (eqb f h) (fld h ∷ put_in c f side), label_put before after c f side p, p h)
    (sym (append_assoc (only (eqb f h) c) (after h) (label before side)))

-- trimming keeps whether the labels are the same, both ways
pub trim_label : (texts : Texts) {l r l' r' : Side} → Trimming l r l' r' → label texts l ≡ label texts r → label texts l' ≡ label texts r'
trim_label texts stop e = e
trim_label texts (drop q t) e = trim_label texts t (tail-eq_of_cons-eq e)

pub label_trim : (texts : Texts) {l r l' r' : Side} → Trimming l r l' r' → label texts l' ≡ label texts r' → label texts l ≡ label texts r
label_trim texts stop e = e
label_trim texts (drop q t) e = cons_eq q (label_trim texts t e)

-- A label by the texts of the fields that stand in the side.
pub label_same : (a b : Texts) (side : Side) → ((f : ℕ) → stands_in f side ≡ true → a f ≡ b f) → label a side ≡ label b side
label_same a b [] h = refl
label_same a b (chr c ∷ side) h = cons_eq refl (label_same a b side h)
label_same a b (fld g ∷ side) h =
    rw (h g (left_true (eqb g g) (stands_in g side) (eqb_same g)), label_same a b side (λ f e. h f (right_true (eqb f g) (stands_in f side) e)))

-- Labels of sides one behind the other, and of a side with a field behind it.
label_append : (texts : Texts) (a b : Side) → label texts (a ++ b) ≡ label texts a ++ label texts b
label_append texts [] b = refl
label_append texts (chr c ∷ a) b = cons_eq refl (label_append texts a b)
label_append texts (fld f ∷ a) b =
    ap (λ (l : List ℕ). texts f ++ l) (label_append texts a b) ∙ sym (append_assoc (texts f) (label texts a) (label texts b))

pub label_with : (texts : Texts) (side : Side) (f : ℕ) → label texts (side ++ (fld f ∷ [])) ≡ label texts side ++ texts f
label_with texts side f = label_append texts side (fld f ∷ []) ∙ ap (λ (l : List ℕ). label texts side ++ l) (append-nil (texts f))
