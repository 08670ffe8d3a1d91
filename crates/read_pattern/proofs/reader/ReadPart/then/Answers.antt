-- `ReadPart::then` meets its contract: the second part may be first where the first may be empty, and the first last where the second may be.
use Prim.Native.Nat.{ℕ, ◌+◌}
use native.Mathlib.Omega.{arith}
use mathlib.Core.Path.{ap₂, ◌∙◌}
use mathlib.Core.Bool.{Bool, cond, ◌&&◌}
use lib.Dec.{eqb}
use lib.Bits.{bit_or}
use lib.ListN.{length-append}
use Rattle.paper.specs.Places.{leaves, takes_empty, may_be_first, may_be_last}
use Rattle.read_pattern.proofs.Surplus.{surplus_both}
use Rattle.base_places.proofs.MaskOf.{mask_of_or, mask_of_cond}
use Rattle.read_pattern.proofs.reader.ReadPart.then.Goals as goal

pub returns : goal.returns
returns c p q starts s more rest o x y =
    record {
      left = y.left;
      each = length-append starts more ∙ ap₂ ◌+◌ x.each y.each;
      next = y.next ∙ omega arith;
      surplus = c.earlier.ensures ∙ ap₂ (λ (m n : ℕ). cond (eqb m 0) n m) x.surplus y.surplus
          ∙ rw (← x.each) (surplus_both starts more o);
      empty = ap₂ ◌&&◌ x.empty y.empty;
      first =
          ap₂ bit_or x.first
          (c.when.ensures
          ∙ ap₂ (λ (b : Bool) (m : ℕ). cond b m 0) x.empty y.first
          ∙ mask_of_cond (λ (i : ℕ). may_be_first q (o + leaves p) i) (takes_empty p))
          ∙ mask_of_or (λ (i : ℕ). may_be_first p o i) (λ (i : ℕ). takes_empty p && may_be_first q (o + leaves p) i);
      last =
          ap₂ bit_or y.last
          (c.when-2.ensures
          ∙ ap₂ (λ (b : Bool) (m : ℕ). cond b m 0) y.empty x.last
          ∙ mask_of_cond (λ (i : ℕ). may_be_last p o i) (takes_empty q))
          ∙ mask_of_or (λ (i : ℕ). may_be_last q (o + leaves p) i) (λ (i : ℕ). takes_empty q && may_be_last p o i);
    }
