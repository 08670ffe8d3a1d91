-- A text that is put one character after the other.
-- Follows from the laws of bytes put and counted.
use Prim.Native.Nat.{ℕ}
use mathlib.Core.Path.{◌≡◌, sym, subst, ◌∙◌}
use mathlib.Core.List.{List, [], ◌++◌, append-nil, append_assoc}
use Rattle.base_put.specs.Counted.{Counted}
use Rattle.base_put.proofs.Counting.{counted_none, counted_then}

-- some of the whole was put, and the rest is missing
pub record Underway (whole rest before after : List ℕ) (at end : ℕ) : Type 0 where
  pub done : List ℕ
  pub put : Counted before after at end done
  pub all : whole ≡ done ++ rest

pub none_yet : {whole rest before : List ℕ} {at : ℕ} → whole ≡ rest → Underway whole rest before before at at
none_yet e = record { done = []; put = counted_none; all = e }

pub some_more : {whole before after later : List ℕ} {at end next : ℕ} (more rest : List ℕ) → Underway whole (more ++ rest) before after at end
    → Counted after later end next more → Underway whole rest before later at next
some_more more rest u p =
    record { done = u.done ++ more; put = counted_then u.put p; all = u.all ∙ sym (append_assoc u.done more rest) }

pub all_put : {whole before after : List ℕ} {at end : ℕ} → Underway whole [] before after at end → Counted before after at end whole
all_put {before = before} {after = after} {at = at} {end = end} u =
    subst (Counted before after at end) (sym (u.all ∙ append-nil u.done)) u.put
