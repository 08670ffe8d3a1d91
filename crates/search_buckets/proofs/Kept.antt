-- The buffer with its slots and their links: it has none at first, and one more when one is written and linked into its bucket.
-- Follows from what writing leaves as it was, and from the laws of `newest`.
use Prim.Native.Nat.{ℕ, suc, ◌+◌, ◌-◌, ◌*◌, ◌/◌, ◌≤◌, ◌<◌}
use native.Mathlib.Omega.{arith}
use mathlib.Core.Path.{◌≡◌, sym, ap, ap₂, subst, ◌∙◌}
use mathlib.Core.Bool.{Bool}
use mathlib.Core.List.{List, [], ◌∷◌, ◌++◌}
use lib.Dec.{eqb, ltb}
use lib.ListN.{length, length-append, get_or-append}
use lib.Seq.{get_or_at}
use borrow.Rule.Slice.PartMut.{put_mid}
use Rattle.paper.specs.Numbers.{situation_bytes}
use Rattle.paper.proofs.base.Tests.{by_bool, ltb_true, ltb_false, eqb_true, eqb_false}
use Rattle.base_codes.specs.Coded.{Coded, Short}
use Rattle.search_buckets.specs.Buckets.{older_at, newest_at, link, newest, buckets, bucket, in_bucket, Leads, Linked, LinksPut, Kept}
use Rattle.search_slots.specs.Slots.{Slot, slot_at, no_slot, slot_bytes, slot_part, held_bytes, origin_bytes, key, SlotsHeld}
use Rattle.search_buckets.proofs.Newest.{newest_same}
use Rattle.search_buckets.proofs.Stored.{SlotPut, slot_put, slot_kept, older_kept, newest_kept}
use Rattle.search_slots.proofs.Seen.{holds_none}
use Rattle.search_slots.proofs.Situations.{length_slot_bytes}

-- At first the buffer has no slots, whatever its bytes are.
pub kept_none : (work : List ℕ) → Kept work []
kept_none work =
    record {
      holds = holds_none work;
      linked = record { older = λ i h. absurd (omega arith); newest_of = λ b h some. absurd (omega arith) };
    }

-- a link that leads to the same slot as another does
same_lead : {l m : ℕ} (p q : ℕ → Bool) (n : ℕ) → l ≡ m → newest p n ≡ newest q n → Leads m q n → Leads l p n
same_lead p q n e f h some = e ∙ h (rw f at some) ∙ sym f

module _ {work work' : List ℕ} {ss : List Slot} (h : Kept work ss) (x : Slot) (s : Short x.at) {n : ℕ} (e : length ss ≡ n)
    (room : situation_bytes * (n + 1) ≤ length work) (within : bucket (buckets work) x.at < buckets work)
    (p : SlotPut work work' n (bucket (buckets work) x.at) (slot_bytes x)) where
  abbrev b : ℕ
  b = bucket (buckets work) x.at

  abbrev more : List Slot
  more = ss ++ (x ∷ [])

  one_more : length more ≡ suc n
  one_more = length-append ss (x ∷ []) ∙ omega arith

  before : (i : ℕ) → i < n → slot_at more i ≡ slot_at ss i
  before i k = get_or-append ss (x ∷ []) no_slot i (omega arith)

  last : slot_at more n ≡ x
  last = get_or_at ss x [] no_slot n e

  as_many : buckets work' ≡ buckets work
  as_many = ap (λ (m : ℕ). m / situation_bytes) p.same_length

  -- the newest of bucket c below i is the same as before
  newest_before : (c i : ℕ) → i ≤ n → newest (in_bucket (buckets work') more c) i ≡ newest (in_bucket (buckets work) ss c) i
  newest_before c i k =
      newest_same (in_bucket (buckets work') more c) (in_bucket (buckets work) ss c) i
      (λ (j : ℕ) (l : j < i). ap₂ (λ (m : ℕ) (y : Slot). eqb (bucket m y.at) c) as_many (before j (omega arith)))

  -- what is known of the slots before, and of the last one, is known of all
  each_slot : (P : ℕ → Type 0) → ((i : ℕ) → i < n → P i) → P n → (i : ℕ) → i < length more → P i
  each_slot P f g i k =
      by_bool (ltb i n) (λ t. f i (ltb_true i n t))
      (λ t.
      let d : n ≡ i = omega (arith, ltb_false i n t, one_more) in
      rw d at g)

  abbrev tests : ℕ → ℕ → Bool
  tests i = in_bucket (buckets work') more (bucket (buckets work') (slot_at more i).at)

  abbrev Links : ℕ → Type 0
  Links i = Leads (link work' (situation_bytes * i + older_at)) (tests i) i

  holds_more : SlotsHeld work' more
  holds_more =
      record {
        fits = omega (arith, one_more, p.same_length);
        holds = each_slot (λ i. slot_part work' i ≡ slot_bytes (slot_at more i))
            (λ (i : ℕ) (k : i < n).
            slot_kept p i k ∙ h.holds.holds i (omega arith) ∙ ap slot_bytes (sym (before i k)))
            (p.slot ∙ ap slot_bytes (sym last));
        short = each_slot (λ i. Short (slot_at more i).at) (λ (i : ℕ) (k : i < n). rw (before i k) (h.holds.short i (omega arith))) (rw last s);
      }

  linked_more : Linked work' more
  linked_more =
      record {
        older = each_slot Links
            (λ (i : ℕ) (k : i < n).
            same_lead (tests i) (in_bucket (buckets work) ss (bucket (buckets work) (slot_at ss i).at)) i (older_kept p i k)
            (newest_before (bucket (buckets work') (slot_at more i).at) i (omega arith)
            ∙ ap₂ (λ (m : ℕ) (y : Slot). newest (in_bucket (buckets work) ss (bucket m y.at)) i) as_many (before i k))
            (h.linked.older i (omega arith)))
            (same_lead (tests n) (in_bucket (buckets work) ss b) n p.older
            (newest_before (bucket (buckets work') (slot_at more n).at) n (omega arith)
            ∙ ap₂ (λ (m : ℕ) (y : Slot). newest (in_bucket (buckets work) ss (bucket m y.at)) n) as_many last)
            (subst (Leads (link work (situation_bytes * b + newest_at)) (in_bucket (buckets work) ss b)) e (h.linked.newest_of b (omega arith))));
        newest_of = λ c k.
            let last-test : in_bucket (buckets work') more c n ≡ eqb b c = ap₂ (λ (m : ℕ) (y : Slot). eqb (bucket m y.at) c) as_many last in
            by_bool (eqb b c)
            (λ t.
            let f : b ≡ c = eqb_true b c t in
            rw (one_more, last-test, t, ← f) (λ some. p.newest_is ∙ omega arith))
            (λ t.
            rw (one_more, last-test, t)
            (same_lead (in_bucket (buckets work') more c) (in_bucket (buckets work) ss c) n
            (newest_kept p c (λ (d : c ≡ b). eqb_false b c t (sym d)))
            (newest_before c n (omega arith))
            (subst (Leads (link work (situation_bytes * c + newest_at)) (in_bucket (buckets work) ss c)) e
            (h.linked.newest_of c (omega (arith, p.same_length))))));
      }

  kept_more : Kept work' more
  kept_more = record { holds = holds_more; linked = linked_more }

-- Slot n is written by its key and its origin, and linked into its key's bucket.
pub written : {work work' : List ℕ} {ss : List Slot} (h : Kept work ss) (k : Coded) (parent step : ℕ) (its bytes : List ℕ) (n b : ℕ)
    → its ≡ key k → b ≡ bucket (buckets work) k → Short k → length ss ≡ n → situation_bytes * (n + 1) ≤ length work → b < buckets work
    → bytes ≡ its ++ origin_bytes parent step
    → LinksPut (put_mid (situation_bytes * n) (situation_bytes * n + held_bytes - situation_bytes * n) work bytes) (situation_bytes * n + older_at) (situation_bytes * b + newest_at) n work'
    → Kept work' (ss ++ (record { at = k; parent = parent; step = step } ∷ []))
written {work} {work'} h k parent step its bytes n b e g short many room within bytes_are l =
    let x : Slot = record { at = k; parent = parent; step = step } in
    let f : bytes ≡ slot_bytes x = bytes_are ∙ ap (λ (z : List ℕ). z ++ origin_bytes parent step) e in
    let p = slot_put work work' bytes n b room (rw f (length_slot_bytes x short)) l in
    kept_more h x short many room (rw g at within) (rw (f, g) at p)
