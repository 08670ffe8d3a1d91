-- How the entries of a search grow, as a relation without a test, and what that alone says of them: the count, that they are
-- different, the first one, ways, and that what holds of the first and goes over to children holds of all.
-- Follows by induction on the growth.
use Prim.Native.Nat.{ℕ, ◌≤◌, ◌<◌}
use native.Mathlib.Omega.{arith}
use mathlib.Core.Path.{◌≡◌, refl, sym, ap, subst}
use mathlib.Core.Logic.{◌⊎◌, ⊎_elim}
use mathlib.Core.List.{List, [], ◌∷◌, ◌++◌}
use mathlib.Core.List.Memᴰ
use mathlib.Core.List.{Memᴰ}
use lib.ListN.{length, length-append}
use Rattle.paper.proofs.base.Lists.{NoDup, none, more, nodup_snoc, map_append}
use Rattle.paper.specs.Search.{Child, child, Entry}
use Rattle.paper.specs.Leads.{Leads, start, step, situations}

-- the first entry
abbrev pub first_entry : {S M : Type 0} → S → Entry S M
first_entry s = record { at = s; way = [] }

-- the entry of a child, by its move
abbrev pub child_entry : {S M : Type 0} → Entry S M → M → S → Entry S M
child_entry p m s = record { at = s; way = m ∷ p.way }

module _ {S M : Type 0} (children : S → List (Child S M)) (room : ℕ) (s₀ : S) where
  -- how the entries grow: the first one, then a new child of some entry, while there is room
  pub data Grown : List (Entry S M) → Type 0 where
    first : 0 < room → Grown (first_entry s₀ ∷ [])
    grow : {l : List (Entry S M)} {p : Entry S M} {m : M} {s : S} → Grown l
        → Memᴰ p l → Memᴰ (child m s) (children p.at) → (Memᴰ s (situations l) → ⊥) → length l < room
        → Grown (l ++ (child_entry p m s ∷ []))

  pub grown_count : {l : List (Entry S M)} → Grown l → length l ≤ room
  grown_count (first h) = h
  grown_count (grow {l = l} {p = p} {m = m} {s = s} g d c n h) = omega (arith, length-append l (child_entry p m s ∷ []), h)

  pub grown_first : {l : List (Entry S M)} → Grown l → (m : List (Entry S M)) × (l ≡ first_entry s₀ ∷ m)
  grown_first (first h) = ([], refl)
  grown_first (grow {p = p} {m = m} {s = s} g d c n h) =
      let r = grown_first g in
      let x : List (Entry S M) = child_entry p m s ∷ [] in
      (r.0 ++ x, ap (λ (l : List (Entry S M)). l ++ x) r.1)

  pub grown_different : {l : List (Entry S M)} → Grown l → NoDup (situations l)
  grown_different (first h) = more Memᴰ.not-nil none
  grown_different (grow {l = l} {p = p} {m = m} {s = s} g d c n h) =
      rw (map_append (λ (e : Entry S M). e.at) l (child_entry p m s ∷ [])) (nodup_snoc (grown_different g) n)

  -- what holds of the first entry, of a child of an entry of which it holds, and among more entries, holds of all
  grown_every {κ} : (P : List (Entry S M) → Entry S M → Type κ)
      → P (first_entry s₀ ∷ []) (first_entry s₀)
      → ((l : List (Entry S M)) (e x : Entry S M) → P l e → P (l ++ (x ∷ [])) e)
      → ((l : List (Entry S M)) (p : Entry S M) (m : M) (s : S)
      → Memᴰ p l → P l p → Memᴰ (child m s) (children p.at) → P (l ++ (child_entry p m s ∷ [])) (child_entry p m s))
      → {l : List (Entry S M)} → Grown l → (e : Entry S M) → Memᴰ e l → P l e
  grown_every P one still new (first h) e d = subst (P (first_entry s₀ ∷ [])) (sym (Memᴰ.eq_of_singleton d)) one
  grown_every P one still new (grow {l = l} {p = p} {m = m} {s = s} g h c n r) e d =
      let x : Entry S M = child_entry p m s in
      let new-one : P (l ++ (x ∷ [])) x = new l p m s h (grown_every P one still new g p h) c in
      ⊎_elim
      (λ (i : Memᴰ e l). still l e x (grown_every P one still new g e i))
      (λ (i : Memᴰ e (x ∷ [])). subst (P (l ++ (x ∷ []))) (sym (Memᴰ.eq_of_singleton i)) new-one)
      (Memᴰ.append_cases l d)

  -- what holds of s₀ and goes over to children
  pub grown_by {κ} : (P : S → Type κ) → P s₀
      → ((s : S) (m : M) (t : S) → P s → Memᴰ (child m t) (children s) → P t)
      → {l : List (Entry S M)} → Grown l → (e : Entry S M) → Memᴰ e l → P e.at
  grown_by P one on g = grown_every (λ l e. P e.at) one (λ l e x h. h) (λ l p m s d h c. on p.at m s h c) g

  pub grown_leads : {l : List (Entry S M)} → Grown l → (e : Entry S M) → Memᴰ e l → Leads children s₀ e.way e.at
  grown_leads g =
      grown_every (λ l e. Leads children s₀ e.way e.at) start (λ l e x h. h) (λ l p m s d h c. step h c) g

  -- a way has fewer moves than there are entries
  pub grown_way : {l : List (Entry S M)} → Grown l → (e : Entry S M) → Memᴰ e l → length e.way < length l
  grown_way g =
      grown_every (λ l e. length e.way < length l) (omega arith)
      (λ l e x h. omega (arith, length-append l (x ∷ [])))
      (λ l p m s d h c. omega (arith, length-append l (child_entry p m s ∷ [])))
      g
