-- A side is read back from its codes.
--   codes_are_tokens : the codes of a side whose tokens have place sets are tokens
--   side_back        : so a good side is read back
--   sides_back       : and two of them, one behind the other
-- Follows by induction on the side: the code of a token that has a place set is no 255.
use Prim.Native.Nat.{ℕ, ◌≤◌}
use native.Mathlib.Omega.{arith}
use mathlib.Core.Path.{◌≡◌, refl, sym, ap₂, ◌∙◌}
use mathlib.Core.Logic.{⊎_elim}
use mathlib.Core.Bool.{true}
use mathlib.Core.List.Memᴰ
use mathlib.Core.List.{List, [], ◌∷◌, ◌++◌, Memᴰ}
use Rattle.paper.specs.Lists.{all}
use Rattle.paper.specs.Numbers.{most_characters}
use Rattle.paper.specs.Equation.{Token, chr, fld, Side}
use Rattle.paper.proofs.base.Tests.{neq_eqb, false_not, both_true}
use Rattle.paper.proofs.base.Lists.{map_append}
use Rattle.paper_laws.proofs.sheets.Asked.{GoodSide}
use Rattle.paper_laws.proofs.sheets.Hidden.{HasSet, in_range_has_set}
use Rattle.base_codes.specs.Inner.{no_token, is_code, token_code, side_code, tokens, padded}
use Rattle.base_codes.proofs.Tokens.{tokens_padded}

code_is_token : (t : Token) → HasSet t → is_code (token_code t) ≡ true
code_is_token (chr c) h = false_not (neq_eqb c no_token (λ e. omega arith))
code_is_token (fld f) h = false_not (neq_eqb (token_code (fld f)) no_token (λ e. omega arith))

pub codes_are_tokens : (side : Side) → ((t : Token) → Memᴰ t side → HasSet t) → all is_code (side_code side) ≡ true
codes_are_tokens [] h = refl
codes_are_tokens (t ∷ side) h =
    both_true (code_is_token t (h t (Memᴰ.head refl))) (codes_are_tokens side (λ u d. h u (Memᴰ.tail d)))

module _ (n : ℕ) (most : n ≤ most_characters) (side : Side) (g : GoodSide n side) where
  pub has_sets : (t : Token) → Memᴰ t side → HasSet t
  has_sets t d = in_range_has_set n most t (g.tokens t d)

  pub side_back : tokens (padded (side_code side)) ≡ side_code side
  side_back = tokens_padded (side_code side) (codes_are_tokens side has_sets)

module _ (n : ℕ) (most : n ≤ most_characters) (l r : Side) (g : GoodSide n l) (h : GoodSide n r) where
  pub sides_back : tokens (padded (side_code l)) ++ tokens (padded (side_code r)) ≡ side_code (l ++ r)
  sides_back = ap₂ (λ (a b : List ℕ). a ++ b) (side_back n most l g) (side_back n most r h) ∙ sym (map_append token_code l r)

  pub both_have_sets : (t : Token) → Memᴰ t (l ++ r) → HasSet t
  both_have_sets t d = ⊎_elim (has_sets n most l g t) (has_sets n most r h t) (Memᴰ.append_cases l d)
