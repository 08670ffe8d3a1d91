-- What `ApartBefore` says of rules known by hand.
--   apart_known : `A` and `B` made no label that is the same
--   clash_known : `A`x`B` and `AB` did, with nothing for x. By the meaning of today they make none.
-- Follows from the labels that the rules made, by computation.
use Prim.Native.Nat.{ℕ, zero, suc}
use native.Mathlib.Omega.{arith}
use mathlib.Core.Path.{◌≡◌, refl, sym, ap, ◌∙◌}
use mathlib.Core.List.Memᴰ
use mathlib.Core.List.{List, [], ◌∷◌, Memᴰ}
use Rattle.paper.specs.Numbers.{space, fields}
use Rattle.paper.specs.Pattern.{Held}
use Rattle.paper.specs.Equation.{chr, fld, Side, label, without_trailing, Same}
use Rattle.paper.specs.Sheet.{open_fields}
use Rattle.paper_catalogue.specs.Catalogue.{Present}
use Rattle.paper_laws.proofs.sheets.Asked.{open_by}
use Rattle.paper_carry.specs.Opened.{HeldBefore, MadeBefore}
use Rattle.paper_carry.specs.Spelling.{ApartBefore}

abbrev A : ℕ
A = 10

abbrev B : ℕ
B = 11

-- a rule whose fields have no pattern; how many bytes its record has is not looked at
abbrev of_side : Side → Present
of_side side = record { rule = record { side = side; fields = open_fields }; bytes = 0 }

apart_labels : (u w : List ℕ) → A ∷ [] ≡ u → B ∷ [] ≡ w → Same space u w → ⊥
apart_labels u w a b same =
    let z : A ∷ [] ≡ B ∷ [] = ap (without_trailing space) a ∙ same ∙ sym (ap (without_trailing space) b) in
    let y : A ≡ B = cc in omega arith

pub apart_known : ApartBefore (of_side (chr A ∷ []) ∷ of_side (chr B ∷ []) ∷ [])
apart_known zero zero h k other u w same a b = other refl
apart_known zero (suc zero) h k other u w same a b = apart_labels u w a.made b.made same
apart_known zero (suc (suc j)) h k other u w same a b = omega arith
apart_known (suc zero) zero h k other u w same a b = apart_labels w u b.made a.made (sym same)
apart_known (suc zero) (suc zero) h k other u w same a b = other refl
apart_known (suc zero) (suc (suc j)) h k other u w same a b = omega arith
apart_known (suc (suc i)) j h k other u w same a b = omega arith

-- the label that a rule without patterns made with nothing for its fields
with_nothing : (side : Side) → MadeBefore (of_side side).rule (label (λ (f : ℕ). []) side)
with_nothing side =
    record {
      texts = λ f. [];
      over = λ f e c (d : Memᴰ c []). absurd (Memᴰ.not-nil d);
      holds = λ f e. open_by (λ (h : Held). HeldBefore h []) tt fields f;
      made = refl;
    }

pub clash_known : ApartBefore (of_side (chr A ∷ fld 0 ∷ chr B ∷ []) ∷ of_side (chr A ∷ chr B ∷ []) ∷ []) → ⊥
clash_known apart =
    apart 0 1 (omega arith) (omega arith) (λ (e : ◌≡◌ {A = ℕ} 0 1). omega arith) (A ∷ B ∷ []) (A ∷ B ∷ []) refl
    (with_nothing (chr A ∷ fld 0 ∷ chr B ∷ []))
    (with_nothing (chr A ∷ chr B ∷ []))
