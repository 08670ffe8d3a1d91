-- Laws of lists for writing and reading slots: a copy from the front, a part that was lent and is back, a part that is read, and what
-- a part that is written leaves as it was.
-- Follows from the laws of `lib.Seq`.
use Prim.Native.Nat.{ℕ, zero, suc, ◌+◌, ◌-◌, ◌≤◌, ◌<◌}
use native.Mathlib.Omega.{arith}
use native.Mathlib.Numerals.{add-one}
use mathlib.Core.Path.{◌≡◌, refl, ◌∙◌, ap, sym}
use mathlib.Core.List.{List, [], ◌∷◌, ◌++◌, append_assoc}
use lib.Dec.{ltb}
use lib.ListN.{length, get_or, take, drop, set, length-take, length-drop, get_or-append}
use lib.Seq.{take-suc, drop-cons, set_at, take_at, drop_at, length-take-le, ext_get_or, get_or-take, get_or-drop, take-take, drop-drop}
use borrow.Rule.Slice.PartMut.{put_mid, post_of, drop_put}
use Rattle.paper.proofs.base.Tests.{by_bool, ltb_true, ltb_false}

module _ {ℓ} {A : Type ℓ} where
  -- one more element of a copy
  pub copied_more : (i : ℕ) (s d : List A) (z : A) → i < length s → length d ≡ length s → set (take i s ++ drop i d) i (get_or s i z) ≡ take (i + 1) s ++ drop (i + 1) d
  copied_more i s d z h e =
      let k : i < length d = omega arith in
      let n : length (take i s) ≡ i = length-take-le i s (omega arith) in
      rw (add-one, take-suc s i z h, drop-cons d i z k, set_at (take i s) (get_or d i z) (drop _ d) (get_or s i z) i n, append_assoc)

  -- a part that was lent, and is back with other elements, behind what is written already
  pub part_back : {l : List A} (p q ys : List A) (a k : ℕ) → l ≡ p ++ q → length p ≡ a → take a l ++ (ys ++ drop k (drop a l)) ≡ (p ++ ys) ++ drop k q
  part_back {l} p q ys a k e n = rw (e, take_at p q a n, drop_at p q a n, append_assoc)

  -- the part q, behind p
  pub part_at : (p q r : List A) (a n : ℕ) → length p ≡ a → length q ≡ n → take n (drop a (p ++ q ++ r)) ≡ q
  part_at p q r a n e h = rw (append_assoc, drop_at p (q ++ r) a e, take_at q r n h)

  -- a part of what is read is that part of the whole
  part_within : (b n k : ℕ) (l : List A) → b + n ≤ k → take n (drop b (take k l)) ≡ take n (drop b l)
  part_within zero n k l h = take-take n k l (omega arith)
  part_within (suc b) n zero l h = absurd (omega arith)
  part_within (suc b) n (suc k) [] h = refl
  part_within (suc b) n (suc k) (x ∷ l) h = part_within b n k l (omega arith)

  pub part_of_part : (a k b n : ℕ) (l : List A) → b + n ≤ k → take n (drop b (take k (drop a l))) ≡ take n (drop (a + b) l)
  part_of_part a k b n l h = part_within b n k (drop a l) h ∙ ap (take n) (drop-drop b a l)

  -- two lists of one length that are alike in a part
  pub part_same : (d : A) (a k : ℕ) (l m : List A) → length l ≡ length m → ((j : ℕ) → j < k → get_or l (a + j) d ≡ get_or m (a + j) d) → take k (drop a l) ≡ take k (drop a m)
  part_same d a k l m n e =
      ext_get_or d (take k (drop a l)) (take k (drop a m)) (simp (length-take, length-drop, n))
      (λ (j : ℕ) (i : j < length (take k (drop a l))).
      let b : j < k = omega (arith, simp length-take at i) in
      get_or-take k (drop a l) j d b ∙ get_or-drop a l j d ∙ e j b ∙ sym (get_or-take k (drop a m) j d b ∙ get_or-drop a m j d))

module _ {A : Type 0} where
  -- the part that is written
  pub put_at : (a k : ℕ) (l m : List A) → a ≤ length l → length m ≡ k → take k (drop a (put_mid a k l m)) ≡ m
  put_at a k l m h e =
      rw (drop_at (take a l) (m ++ post_of a k l) a (length-take-le a l h), take_at m (post_of a k l) k e)

  -- what stands before and behind it
  put_before : (d : A) (a k j : ℕ) (l m : List A) → a ≤ length l → j < a → get_or (put_mid a k l m) j d ≡ get_or l j d
  put_before d a k j l m h b =
      let n : j < length (take a l) = omega (arith, length-take-le a l h) in
      get_or-append (take a l) (m ++ post_of a k l) d j n ∙ get_or-take a l j d b

  put_behind : (d : A) (a e j : ℕ) (l m : List A) → a ≤ e → e ≤ length l → length m ≡ e - a → e ≤ j → get_or (put_mid a (e - a) l m) j d ≡ get_or l j d
  put_behind d a e j l m h k n b =
      let i : e + (j - e) ≡ j = omega arith in
      ap (λ (x : ℕ). get_or (put_mid a (e - a) l m) x d) (sym i)
      ∙ sym (get_or-drop e (put_mid a (e - a) l m) (j - e) d)
      ∙ ap (λ (x : List A). get_or x (j - e) d) (drop_put a e l m h k n)
      ∙ get_or-drop e l (j - e) d
      ∙ ap (λ (x : ℕ). get_or l x d) i

  pub put_outside : (d : A) (a e j : ℕ) (l m : List A) → a ≤ e → e ≤ length l → length m ≡ e - a → (a ≤ j → j < e → ⊥) → get_or (put_mid a (e - a) l m) j d ≡ get_or l j d
  put_outside d a e j l m h k n f =
      by_bool (ltb j a) (λ t. put_before d a (e - a) j l m (omega arith) (ltb_true j a t))
      (λ t.
      by_bool (ltb j e) (λ u. absurd (f (ltb_false j a t) (ltb_true j e u))) (λ u. put_behind d a e j l m h k n (ltb_false j e u)))
