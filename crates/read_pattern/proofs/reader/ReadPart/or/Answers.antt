-- `ReadPart::or` meets its contract: every mask is the `or` of the parts' masks, as every test is the `||` of theirs.
use Prim.Native.Nat.{ℕ, ◌+◌}
use native.Mathlib.Omega.{arith}
use mathlib.Core.Path.{ap₂, ◌∙◌}
use mathlib.Core.Bool.{cond, ◌||◌}
use lib.Dec.{eqb}
use lib.Bits.{bit_or}
use lib.ListN.{length-append}
use Rattle.paper.specs.Places.{leaves, may_be_first, may_be_last}
use Rattle.read_pattern.proofs.Surplus.{surplus_both}
use Rattle.base_places.proofs.MaskOf.{mask_of_or}
use Rattle.read_pattern.proofs.reader.ReadPart.or.Goals as goal

pub returns : goal.returns
returns c p q starts s more rest o x y =
    record {
      left = y.left;
      each = length-append starts more ∙ ap₂ ◌+◌ x.each y.each;
      next = y.next ∙ omega arith;
      surplus = c.earlier.ensures ∙ ap₂ (λ (m n : ℕ). cond (eqb m 0) n m) x.surplus y.surplus
          ∙ rw (← x.each) (surplus_both starts more o);
      empty = ap₂ ◌||◌ x.empty y.empty;
      first = ap₂ bit_or x.first y.first ∙ mask_of_or (λ (i : ℕ). may_be_first p o i) (λ (i : ℕ). may_be_first q (o + leaves p) i);
      last = ap₂ bit_or x.last y.last ∙ mask_of_or (λ (i : ℕ). may_be_last p o i) (λ (i : ℕ). may_be_last q (o + leaves p) i);
    }
