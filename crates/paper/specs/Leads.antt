-- The ways of the search (document 01, "The search"), with no word of the search itself: which moves lead from one situation
-- to another through the children. A way has its last move first, as an entry has it.
use mathlib.Core.List.{List, [], ◌∷◌, map, Memᴰ}
use Rattle.paper.specs.Search.{Child, child, Entry}

-- the situations of entries, in their order
abbrev pub situations : {S M : Type 0} → List (Entry S M) → List S
situations {S} {M} l = map (λ (e : Entry S M). e.at) l

module _ {S M : Type 0} (children : S → List (Child S M)) where
  -- the way leads from s to a situation, each move by a child
  pub data Leads (s : S) : List M → S → Type 0 where
    start : Leads s [] s
    step : {way : List M} {t u : S} {m : M} → Leads s way t → Memᴰ (child m u) (children t) → Leads s (m ∷ way) u
