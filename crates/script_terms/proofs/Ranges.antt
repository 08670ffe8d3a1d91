-- One more character of a choice. Follows from the laws of counted lists.
use Prim.Native.Nat.{ℕ, suc, ◌+◌, ◌-◌, ◌≤◌}
use native.Mathlib.Omega.{arith}
use mathlib.Core.Path.{◌≡◌, ap, ◌∙◌}
use mathlib.Core.List.{List, [], ◌∷◌, ◌++◌, append-nil}
use Rattle.paper.specs.Lists.{from, each}
use Rattle.paper.proofs.base.Listed.{from_snoc, each_append}
use Rattle.paper.specs.Alphabet.{edition_1}
use Rattle.paper_script.specs.Script.{next_character}

pub none_yet : (lo : ℕ) → each (next_character edition_1) (from lo (lo - lo)) ≡ []
none_yet lo = let e : lo - lo ≡ 0 = omega arith in rw e

pub one_more : (lo c k : ℕ) → lo ≤ c → k ≡ suc (c - lo)
    → each (next_character edition_1) (from lo k) ≡ each (next_character edition_1) (from lo (c - lo)) ++ next_character edition_1 c
one_more lo c k h e =
    let n = c - lo in
    let last : lo + n ≡ c = omega arith in
    ap (λ (i : ℕ). each (next_character edition_1) (from lo i)) e
    ∙ ap (each (next_character edition_1)) (from_snoc lo n)
    ∙ each_append (next_character edition_1) (from lo n) ((lo + n) ∷ [])
    ∙ ap (λ (l : List ℕ). each (next_character edition_1) (from lo n) ++ l) (append-nil (next_character edition_1 (lo + n)) ∙ ap (next_character edition_1) last)
