-- Looking a situation up: the walk along the links of its bucket. Where the walk stands, no newer slot holds the situation, and the link
-- leads to the newest of the others in its bucket. Follows from the laws of `newest`.
use Prim.Native.Nat.{ℕ, suc, ◌+◌, ◌-◌, ◌*◌, ◌≤◌, ◌<◌}
use native.Mathlib.Omega.{arith}
use mathlib.Core.Path.{◌≡◌, refl, sym, ap, subst, ◌∙◌}
use mathlib.Core.Bool.{Bool, false}
use mathlib.Core.List.{List, [], ◌∷◌}
use lib.Dec.{leb}
use lib.ListN.{length, get_or}
use Rattle.paper.specs.Lists.{any}
use Rattle.paper.specs.Numbers.{situation_bytes}
use Rattle.paper.proofs.base.Tests.{by_bool, true_false, not_true, leb_true, leb_false, eqb_true, eq_eqb}
use Rattle.base_codes.specs.Coded.{Coded, same_coded, Short}
use Rattle.search_buckets.specs.Buckets.{buckets, bucket, in_bucket, newest, Leads, link, older_at, newest_at, Kept, Sought, EnteredAt}
use Rattle.search_slots.specs.Slots.{key, Slot, slot_at, no_slot}
use Rattle.std.specs.Prelude.{None}
use Rattle.search_buckets.proofs.Newest.{newest_le, newest_passes, newest_none, newest_zero}
use Rattle.search_slots.proofs.Situations.{same_coded_equal}

none_at {ℓ} : {A : Type ℓ} (p : A → Bool) (d : A) (l : List A) → ((i : ℕ) → i < length l → p (get_or l i d) ≡ false) → any p l ≡ false
none_at p d [] h = refl
none_at p d (x ∷ l) h = rw (h 0 (omega arith), none_at p d l (λ i k. h (suc i) (omega arith)))

-- the slots from `above - 1` on don't hold the situation; `next` leads to the newest of the others in its bucket
pub record Walked (work : List ℕ) (k : Coded) (ss : List Slot) (above next : ℕ) : Type 0 where
  pub leads : Leads next (in_bucket (buckets work) ss (bucket (buckets work) k)) (above - 1)
  pub none : (j : ℕ) → above ≤ j + 1 → j < length ss → same_coded (slot_at ss j).at k ≡ false

module _ {work bytes : List ℕ} {n first : ℕ} {k : Coded} {ss : List Slot} (q : Sought work bytes n first k ss) where
  abbrev test : ℕ → Bool
  test = in_bucket (buckets work) ss (bucket (buckets work) k)

  pub walk_begins : Walked work k ss (n + 1) first
  walk_begins =
      let e : n ≡ n + 1 - 1 = omega arith in
      record { leads = subst (Leads first test) e q.begins; none = λ j h b. absurd (omega (arith, q.many)) }

  other_bucket : (j : ℕ) → test j ≡ false → same_coded (slot_at ss j).at k ≡ false
  other_bucket j e =
      not_true (same_coded (slot_at ss j).at k)
      (λ t.
      true_false
      (eq_eqb (bucket (buckets work) (slot_at ss j).at) (bucket (buckets work) k) (ap (bucket (buckets work)) (same_coded_equal (slot_at ss j).at k t)))
      e)

  module _ {above next : ℕ} (w : Walked work k ss above next) where
    -- no slot from the newest of its bucket on holds the situation
    passed_over : (j : ℕ) → newest test (above - 1) ≤ j → j < length ss → same_coded (slot_at ss j).at k ≡ false
    passed_over j h b =
        by_bool (leb above (j + 1)) (λ t. w.none j (leb_true above (j + 1) t) b)
        (λ t.
        let c : j < above - 1 = omega (arith, leb_false above (j + 1) t) in
        other_bucket j (newest_none test (above - 1) j h c))

    -- the link is 0, or one that is not followed: its bucket has no older slot
    pub walk_ends : (next < above → next ≡ 0) → 0 < above → EnteredAt ss k None
    walk_ends e a =
        let z : newest test (above - 1) ≡ 0 =
        by_bool (leb (newest test (above - 1)) 0) (λ t. omega (arith, leb_true (newest test (above - 1)) 0 t))
        (λ t.
        let some : 0 < newest test (above - 1) = omega (arith, leb_false (newest test (above - 1)) 0 t) in
        let f : next ≡ newest test (above - 1) = w.leads some in
        omega (arith, f, e (omega (arith, f, newest_le test (above - 1))))) in
        none_at (λ (x : Slot). same_coded x.at k) no_slot ss (λ (i : ℕ) (b : i < length ss). passed_over i (omega arith) b)

    pub walk_goes_on : (i next' : ℕ) → next ≡ suc i → next < above → i < n → same_coded (slot_at ss i).at k ≡ false → next' ≡ link work (situation_bytes * i + older_at) → Walked work k ss next next'
    walk_goes_on i next' e a b s l =
        let c : i < length ss = omega (arith, q.many) in
        let m : i ≡ next - 1 = omega arith in
        let goes : (newest test (above - 1) ≤ next) × Leads next' test i =
        by_bool (leb (newest test (above - 1)) 0)
        (λ t.
        let z : newest test (above - 1) ≡ 0 = omega (arith, leb_true (newest test (above - 1)) 0 t) in
        let y : newest test i ≡ 0 = newest_zero test i (λ (j : ℕ) (d : j < i). newest_none test (above - 1) j (omega arith) (omega arith)) in
        (omega arith, λ (some : 0 < newest test i). absurd (omega arith)))
        (λ t.
        let some : 0 < newest test (above - 1) = omega (arith, leb_false (newest test (above - 1)) 0 t) in
        let f : next ≡ newest test (above - 1) = w.leads some in
        let in-it : bucket (buckets work) (slot_at ss i).at ≡ bucket (buckets work) k =
        eqb_true (bucket (buckets work) (slot_at ss i).at) (bucket (buckets work) k) (newest_passes test (above - 1) i (sym f ∙ e)) in
        let there : Leads (link work (situation_bytes * i + older_at)) test i =
        subst (λ (x : ℕ). Leads (link work (situation_bytes * i + older_at)) (in_bucket (buckets work) ss x) i) in-it (q.kept.linked.older i c) in
        (omega arith, λ (older : 0 < newest test i). l ∙ there older)) in
        record {
          leads = subst (Leads next' test) m goes.1;
          none = λ j h d.
              by_bool (leb next j) (λ t. passed_over j (omega (arith, goes.0, leb_true next j t)) d)
              (λ t.
              let f : i ≡ j = omega (arith, leb_false next j t) in
              rw (← f) s);
        }

-- What the walk begins with.
pub sought : {work : List ℕ} {ss : List Slot} (h : Kept work ss) (k : Coded) (its : List ℕ) (n b first : ℕ)
    → its ≡ key k → b ≡ bucket (buckets work) k → Short k → length ss ≡ n → b < buckets work → first ≡ link work (situation_bytes * b + newest_at)
    → Sought work its n first k ss
sought {work} {ss} h k its n b first e g short many room first_is =
    record {
      is_key = e;
      short = short;
      kept = h;
      many = many;
      begins = subst (λ (c : ℕ). Leads first (in_bucket (buckets work) ss c) n) g
          (subst (Leads first (in_bucket (buckets work) ss b)) many
          (subst (λ (x : ℕ). Leads x (in_bucket (buckets work) ss b) (length ss)) (sym first_is) (h.linked.newest_of b (omega arith))));
    }
