-- The tokens of a side as arguments, one after the other.
use Prim.Native.Nat.{ℕ, ◌+◌, ◌<◌}
use native.Mathlib.Numerals.{add-one}
use mathlib.Core.Path.{◌≡◌, sym, ap, ◌∙◌}
use mathlib.Core.Bool.{Bool, false, cond}
use mathlib.Core.List.{List, [], ◌∷◌, ◌++◌, append_assoc}
use lib.ListN.{length, get_or, drop}
use lib.Seq.{drop-cons, drop-length}
use Rattle.paper.specs.Alphabet.{Edition}
use Rattle.paper_script.specs.Bytes.{bytes}
use Rattle.base_codes.specs.Inner.{is_char}
use Rattle.script_equation.specs.Arguments.{argument, arguments_from, all_arguments}

-- The arguments that were put, and those that are left: they make all of them.
pub record PutSoFar (e : Edition) (side : List ℕ) (i : ℕ) (literal : Bool) (done : List ℕ) : Type 0 where
  pub makes : done ++ arguments_from e literal (drop i side) ≡ arguments_from e false side

pub one_more_argument : (e : Edition) (side : List ℕ) (i : ℕ) (literal : Bool) (done : List ℕ) → i < length side → PutSoFar e side i literal done
    → PutSoFar e side (i + 1) (is_char (get_or side i 0)) (done ++ argument e literal (get_or side i 0))
one_more_argument e side i literal done h p =
    record {
      makes =
          append_assoc done (argument e literal (get_or side i 0)) (arguments_from e (is_char (get_or side i 0)) (drop (i + 1) side))
          ∙ ap (λ (l : List ℕ). done ++ arguments_from e literal l) (ap (λ (n : ℕ). get_or side i 0 ∷ drop n side) (add-one i) ∙ sym (drop-cons side i 0 h))
          ∙ p.makes;
    }

-- where all were put, the literal that is open is closed
pub all_put : (e : Edition) (side : List ℕ) (i : ℕ) (literal : Bool) (done : List ℕ) → i ≡ length side → PutSoFar e side i literal done
    → all_arguments e side ≡ done ++ cond literal (bytes "\"") []
unfolding all_arguments
all_put e side i literal done h p = sym p.makes ∙ ap (λ (l : List ℕ). done ++ arguments_from e literal l) (ap (λ (n : ℕ). drop n side) h ∙ drop-length side)
