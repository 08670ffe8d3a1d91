-- What each end of a search says of the entries, as a relation without a test, and how to read it.
-- That every search ends in this relation is in `Ends`.
use Prim.Native.Nat.{ℕ}
use mathlib.Core.Path.{◌≡◌, refl, sym}
use mathlib.Core.Logic.{◌⊎◌, inl, inr}
use mathlib.Core.Bool.{Bool, true, false}
use mathlib.Core.List.{List, [], ◌∷◌, ◌++◌, Memᴰ}
use lib.ListN.{length}
use Rattle.paper.specs.Search.{Child, long, child, Entry, End, found, used_up, no_room, too_long}
use Rattle.paper.specs.Leads.{situations}
use Rattle.paper_laws.proofs.search.Grown.{Grown}

-- none of the entries is finished
abbrev pub Unfinished : {S M : Type 0} → (S → Bool) → List (Entry S M) → Type 0
Unfinished {S} {M} finished l = (e : Entry S M) → Memᴰ e l → finished e.at ≡ false

-- the child is not too long, and is entered
abbrev pub Met : {S M : Type 0} → List (Entry S M) → Child S M → Type 0
Met l long = ⊥
Met l (child m s) = Memᴰ s (situations l)

-- every child of every entry is entered, and none is too long
abbrev pub Closed : {S M : Type 0} → (S → List (Child S M)) → List (Entry S M) → Type 0
Closed {S} {M} children l = (e : Entry S M) → Memᴰ e l → (k : Child S M) → Memᴰ k (children e.at) → Met l k

-- some entry has a child that is not entered
abbrev pub ChildLeftOut : {S M : Type 0} → (S → List (Child S M)) → List (Entry S M) → Type 0
ChildLeftOut {S} {M} children l =
    (p : Entry S M) × (m : M) × (s : S)
    × Memᴰ p l
    × Memᴰ (child m s) (children p.at)
    × (Memᴰ s (situations l) → ⊥)

-- some entry has a child that is too long
abbrev pub HasLong : {S M : Type 0} → (S → List (Child S M)) → List (Entry S M) → Type 0
HasLong {S} {M} children l = (p : Entry S M) × Memᴰ p l × Memᴰ long (children p.at)

module _ {S M : Type 0} (finished : S → Bool) (children : S → List (Child S M)) (room : ℕ) (s₀ : S) where
  -- what each end says of the entries
  pub data Outcome : End S M → List (Entry S M) → Type 0 where
    found_last : {l : List (Entry S M)} {e : Entry S M} → Grown children room s₀ (l ++ (e ∷ []))
        → Unfinished finished l → finished e.at ≡ true → Outcome (found e) (l ++ (e ∷ []))
    all_taken : {l : List (Entry S M)} → Grown children room s₀ l
        → Unfinished finished l → Closed children l → Outcome used_up l
    no_start : room ≡ 0 → Outcome no_room []
    full : {l : List (Entry S M)} → Grown children room s₀ l
        → Unfinished finished l → length l ≡ room → ChildLeftOut children l → Outcome no_room l
    over : {l : List (Entry S M)} → Grown children room s₀ l
        → Unfinished finished l → HasLong children l → Outcome too_long l

  -- the entries have grown, or there was no room for one
  pub outcome_grown : {x : End S M} {l : List (Entry S M)} → Outcome x l → Grown children room s₀ l ⊎ ((room ≡ 0) × (l ≡ []))
  outcome_grown (found_last g u f) = inl g
  outcome_grown (all_taken g u c) = inl g
  outcome_grown (no_start z) = inr (z, refl)
  outcome_grown (full g u r c) = inl g
  outcome_grown (over g u c) = inl g

  pub outcome_found : {e : Entry S M} {l : List (Entry S M)} → Outcome (found e) l
      → (m : List (Entry S M)) × (l ≡ m ++ (e ∷ [])) × (finished e.at ≡ true) × Unfinished finished m
  outcome_found (found_last {l = m} g u f) = (m, refl, f, u)

  pub outcome_used_up : {l : List (Entry S M)} → Outcome used_up l
      → Grown children room s₀ l × Unfinished finished l × Closed children l
  outcome_used_up (all_taken g u c) = (g, u, c)

  pub outcome_no_room : {l : List (Entry S M)} → Outcome no_room l → (length l ≡ room) × ((room ≡ 0) ⊎ ChildLeftOut children l)
  outcome_no_room (no_start z) = (sym z, inl z)
  outcome_no_room (full g u r c) = (r, inr c)

  pub outcome_too_long : {l : List (Entry S M)} → Outcome too_long l → HasLong children l
  outcome_too_long (over g u c) = c
