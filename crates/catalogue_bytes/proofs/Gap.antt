-- A gap that is closed: what stood behind it is moved up, and the places that this frees are zero. Follows from the laws of `take` and `drop`.
use Prim.Native.Nat.{ℕ, ◌+◌, ◌-◌, ◌≤◌}
use native.Mathlib.Omega.{arith}
use mathlib.Core.Path.{◌≡◌, ap, ◌∙◌}
use mathlib.Core.List.{List, ◌++◌, append-nil}
use borrow.Rule.Slice.PartMut.{put_mid}
use lib.ListN.{length, take, drop, replicate, length-append, length-drop, drop_of_length-le}
use lib.Seq.{take_all, paste, length-take-le}
use Rattle.std.proofs.lemmas.List.{take_at}
use Rattle.paper_catalogue.specs.Catalogue.{without_record}

module _ (at n : ℕ) (c : List ℕ) (h : at + n ≤ length c) where
  -- what stays, and what has moved up
  abbrev front : List ℕ
  front = take at c ++ drop (at + n) c

  length_front : length front ≡ length c - n
  length_front = length-append (take at c) (drop (at + n) c) ∙ omega (arith, length-take-le at c, length-drop (at + n) c)

  moved_is : paste c at (drop (at + n) c) (length c - (at + n)) ≡ front ++ drop (at + (length c - (at + n))) c
  moved_is =
      rw (take_all (length c - (at + n)) (drop (at + n) c) (omega (arith, length-drop (at + n) c)))

  pub gap_closed : (from : ℕ) (moved zeros : List ℕ) (k : ℕ) → from ≡ at + n → moved ≡ paste c at (drop from c) (length c - from) → length moved ≡ length c
      → k ≡ n → zeros ≡ replicate n 0 → put_mid (length c - n) k moved zeros ≡ without_record at n c
  gap_closed from moved zeros k f e' l m z =
      let e : moved ≡ paste c at (drop (at + n) c) (length c - (at + n)) = e' ∙ ap (λ (i : ℕ). paste c at (drop i c) (length c - i)) f in
      rw (z, drop_of_length-le (drop (length c - n) moved) {i = k} (omega (arith, length-drop (length c - n) moved)), append-nil (replicate {A = ℕ} n 0), e, moved_is, take_at front (drop (at + (length c - (at + n))) c) (length c - n) length_front)
