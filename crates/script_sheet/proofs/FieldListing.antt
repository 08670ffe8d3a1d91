-- One field more of those that stand.
use Prim.Native.Nat.{ℕ, ◌+◌}
use native.Mathlib.Numerals.{add-one}
use mathlib.Core.Path.{◌≡◌, ap, ◌∙◌}
use mathlib.Core.Bool.{Bool}
use mathlib.Core.List.{List, [], ◌∷◌, ◌++◌, append-nil}
use Rattle.paper.specs.Lists.{upto, only, keep}
use Rattle.paper.specs.Alphabet.{Edition}
use Rattle.paper.specs.Question.{Question}
use Rattle.paper.proofs.base.Listed.{upto_snoc, each_append}
use Rattle.search_children.proofs.ChildTurns.{keep_append}
use Rattle.script_sheet.specs.WrittenOut.{fields_lines}

-- the lines of one field more
pub one_more_field : (e : Edition) (q : Question) (p : ℕ → Bool) (f : ℕ)
    → fields_lines e q (keep p (upto (f + 1))) ≡ fields_lines e q (keep p (upto f)) ++ fields_lines e q (only (p f) f)
one_more_field e q p f =
    ap (λ (n : ℕ). fields_lines e q (keep p (upto n))) (add-one f)
    ∙ ap (λ (l : List ℕ). fields_lines e q (keep p l)) (upto_snoc f)
    ∙ ap (fields_lines e q) (keep_append p (upto f) (f ∷ []) ∙ ap (λ (l : List ℕ). keep p (upto f) ++ l) (append-nil (only (p f) f)))
    ∙ each_append _ (keep p (upto f)) (only (p f) f)
