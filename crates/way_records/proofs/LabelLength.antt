-- The length of a side's label, token by token.
-- Follows from the definition.
use Prim.Native.Nat.{ℕ, suc, ◌+◌, ◌≤◌, ◌<◌}
use native.Mathlib.Omega.{arith}
use mathlib.Core.Path.{◌≡◌, sym, ap, ◌∙◌}
use mathlib.Core.List.{List}
use lib.ListN.{length, get_or, take, drop, drop_of_length-le}
use lib.Seq.{drop-cons, get_or-take}
use Rattle.paper.proofs.base.Tests.{cond_by}
use Rattle.base_codes.specs.Inner.{is_char, field_of, tokens}
use Rattle.way_records.specs.Spans.{token_length, label_coded}

module _ (left : List ℕ) where
  pub token_short : (b : ℕ) → ((f : ℕ) → get_or left f 0 ≤ 65535) → token_length left b ≤ 65535
  token_short b h = cond_by (λ (n : ℕ). n ≤ 65535) (is_char b) (λ _. omega arith) (λ _. h (field_of b))

  module _ (side : List ℕ) where
    pub label_more : (n i total k : ℕ) → take n side ≡ tokens side → n ≡ length (tokens side) → i < n → k ≡ token_length left (get_or side i 0)
        → total + label_coded left (drop i (tokens side)) ≡ (total + k) + label_coded left (drop (i + 1) (tokens side))
    label_more n i total k e m h t =
        let s : i + 1 ≡ suc i = omega arith in
        let here : get_or (tokens side) i 0 ≡ get_or side i 0 = ap (λ (l : List ℕ). get_or l i 0) (sym e) ∙ get_or-take n side i 0 h in
        let one = ap (label_coded left) (drop-cons (tokens side) i 0 (omega arith)) in
        let its = ap (token_length left) here in
        rw s (omega (arith, one, its))

    pub label_done : (i total : ℕ) → length (tokens side) ≤ i → total + label_coded left (drop i (tokens side)) ≡ total
    label_done i total h = rw (drop_of_length-le (tokens side) {i = i} h) (omega arith)
