-- The trimmed question by inner codes: the codes of the sides without their equal characters in front, the mask 1 for every field that
-- stands in them.
--   marked_stands   : the fields that have a first place set are those that stand
--   question_agrees : situation_code (question (acceptor_over among q) l r) ≡ question_coded (side_code l) (side_code r), of known tokens
-- Follows from the laws of sides by their codes.
use Prim.Native.Nat.{ℕ, ◌+◌, ◌<◌}
use mathlib.Core.Path.{◌≡◌, refl, sym, ap, ap₂, ◌∙◌}
use mathlib.Core.Bool.{Bool, true, false, cond, ◌||◌, not}
use mathlib.Core.List.{List, [], ◌∷◌, ◌++◌, map, map-map}
use lib.Dec.{eqb}
use lib.ListN.{get_or}
use Rattle.paper.specs.Lists.{upto, member}
use Rattle.paper.specs.Numbers.{set_fields}
use Rattle.paper.specs.Places.{first_set}
use Rattle.paper.specs.Equation.{Side, stands_in}
use Rattle.paper.specs.Situation.{trimmed, question}
use Rattle.paper.specs.Question.{Question}
use Rattle.paper_chosen.specs.Chosen.{acceptor_over}
use Rattle.paper.proofs.base.Tests.{eqb_symmetric}
use Rattle.paper.proofs.base.Lists.{cons_eq, map_append}
use Rattle.paper.proofs.base.Listed.{get_or_map_upto}
use Rattle.base_places.specs.Masks.{mask}
use Rattle.base_codes.specs.Inner.{field_code, token_code, side_code}
use Rattle.search_trim.specs.Trimming.{first_mask, first_masks, question_coded}
use Rattle.search_children.specs.Coding.{situation_code}
use Rattle.search_children.proofs.CodedSides.{KnownSide, code_of_field, trim_coded}

-- a field stands where its code does
pub stands_coded : (f : ℕ) (side : Side) → KnownSide side → member (field_code + f) (side_code side) ≡ stands_in f side
stands_coded f [] h = refl
stands_coded f (t ∷ side) h =
    ap₂ ◌||◌ (eqb_symmetric (field_code + f) (token_code t) ∙ code_of_field f t h.0) (stands_coded f side h.1)

pub known_append : (l r : Side) → KnownSide l → KnownSide r → KnownSide (l ++ r)
known_append [] r h k = k
known_append (t ∷ l) r h k = (h.0, known_append l r h.1 k)

-- a field that stands has a first place set, and no other has one
one_or_none : (b : Bool) → not (eqb (cond b 1 0) 0) ≡ b
one_or_none true = refl
one_or_none false = refl

pub marked_stands : (side : Side) → KnownSide side → (f : ℕ) → f < set_fields → not (eqb (get_or (first_masks (side_code side)) f 0) 0) ≡ stands_in f side
unfolding first_masks first_mask
marked_stands side h f k =
    ap (λ (m : ℕ). not (eqb m 0)) (get_or_map_upto (first_mask (side_code side)) 0 set_fields f k)
    ∙ one_or_none (member (field_code + f) (side_code side)) ∙ stands_coded f side h

map_same : {A B : Type 0} (f g : A → B) → ((x : A) → f x ≡ g x) → (l : List A) → map f l ≡ map g l
map_same f g h [] = refl
map_same f g h (x ∷ l) = cons_eq (h x) (map_same f g h l)

mask_cond : (b : Bool) → mask (cond b first_set []) ≡ cond b 1 0
mask_cond true = refl
mask_cond false = refl

first_masks_agree : (l r : Side) → KnownSide l → KnownSide r
    → map mask (map (λ (f : ℕ). cond (stands_in f (l ++ r)) first_set []) (upto set_fields)) ≡ first_masks (side_code l ++ side_code r)
unfolding first_masks first_mask
first_masks_agree l r h k =
    map-map mask (λ (f : ℕ). cond (stands_in f (l ++ r)) first_set []) (upto set_fields)
    ∙ map_same (λ (f : ℕ). mask (cond (stands_in f (l ++ r)) first_set [])) (first_mask (side_code l ++ side_code r))
    (λ f.
    let codes : side_code (l ++ r) ≡ side_code l ++ side_code r = map_append token_code l r in
    mask_cond (stands_in f (l ++ r))
    ∙ ap (λ (b : Bool). cond b 1 0)
    (sym (stands_coded f (l ++ r) (known_append l r h k)) ∙ ap (member (field_code + f)) codes))
    (upto set_fields)

-- The trimmed question, from the codes of its sides.
pub question_agrees : (among : ℕ → Bool) (q : Question) (l r : Side) → KnownSide l → KnownSide r
    → situation_code (question (acceptor_over among q) l r) ≡ question_coded (side_code l) (side_code r)
unfolding question trimmed acceptor_over question_coded
question_agrees among q l r h k =
    let t = trim_coded l r h k in
    λ i. record { left = sym t.left i; right = sym t.right i; sets = first_masks_agree l r h k i }
