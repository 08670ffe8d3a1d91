-- Laws of a list that is written into the front of a buffer: nothing yet, one number more, what can be read back, a side in its 48 bytes.
-- Follows from the laws of `set`, `take` and `drop`.
use Prim.Native.Nat.{ℕ, zero, suc, ◌+◌, ◌-◌, ◌<◌}
use native.Mathlib.Nat.{sub-zero, zero-sub, suc-sub-suc}
use native.Mathlib.Numerals.{add-one}
use mathlib.Core.Path.{◌≡◌, refl, sym}
use mathlib.Core.Bool.{Bool, true, false}
use mathlib.Core.List.{List, [], ◌∷◌, ◌++◌, append_assoc, append-nil}
use lib.ListN.{length, get_or, set, take, drop, replicate, length-append, length-set}
use lib.Seq.{drop-cons, set_at, take_at}
use Rattle.paper.specs.Lists.{only}
use Rattle.paper.specs.Numbers.{longest_side}
use Rattle.base_codes.specs.Inner.{no_token, padded}
use Rattle.base_codes.specs.InFront.{InFront}

-- nothing is written yet
pub in_front_none : (d : List ℕ) → InFront d d 0 []
in_front_none d = record { bytes = refl; many = refl; same_length = refl }

-- one more token is written
pub in_front_more : {d e : List ℕ} {n : ℕ} {l : List ℕ} → InFront d e n l → (x : ℕ) → n < length d → InFront d (set e n x) (n + 1) (l ++ (x ∷ []))
in_front_more {d} {e} {n} {l} w x h =
    record {
      bytes =
          rw (w.bytes, drop-cons d (length l) 0 (rw w.many at h), set_at l (get_or d (length l) 0) (drop (suc (length l)) d) x n (sym w.many))
          (rw (length-append l (x ∷ []), append_assoc, add-one) refl);
      many = rw (length-append l (x ∷ []), w.many) refl;
      same_length = rw length-set w.same_length;
    }

-- one more token is written under a test, or none
pub in_front_taken : {d e e' l : List ℕ} {n n' : ℕ} → InFront d e n l → n < length d → (t : Bool) (x : ℕ) → t ≡ true → e' ≡ set e n x → n' ≡ n + 1 → InFront d e' n' (l ++ only t x)
in_front_taken w h t x p q r = rw (p, q, r) (in_front_more w x h)

pub in_front_left : {d e e' l : List ℕ} {n n' : ℕ} → InFront d e n l → (t : Bool) (x : ℕ) → t ≡ false → e' ≡ e → n' ≡ n → InFront d e' n' (l ++ only t x)
in_front_left w t x p q r = rw (p, q, r, append-nil) w

-- what is written can be read back
pub in_front_part : {d e : List ℕ} {n : ℕ} {l : List ℕ} → InFront d e n l → take n e ≡ l
in_front_part {d} {e} {n} {l} w = rw w.bytes (take_at l (drop (length l) d) n (sym w.many))

-- a side that is written into 48 bytes of no token
drop_replicate : (n k : ℕ) (x : ℕ) → drop k (replicate n x) ≡ replicate (n - k) x
drop_replicate n zero x = rw sub-zero
drop_replicate zero (suc k) x = rw zero-sub
drop_replicate (suc n) (suc k) x = rw suc-sub-suc (drop_replicate n k x)

pub in_front_padded : {d e : List ℕ} {n : ℕ} {l : List ℕ} → InFront d e n l → d ≡ replicate longest_side no_token → e ≡ padded l
in_front_padded {d} {e} {n} {l} w z = rw (w.bytes, z, drop_replicate longest_side (length l) no_token)
