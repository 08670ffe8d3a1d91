-- Runs of single places (request K9): a text is read from one place to the next, over any step from a place by a character to a place. And what
-- ties places to place sets: the set after a character holds a place exactly if some place of the set steps to it.
use Rattle.std.specs.Prelude.{ℕ, ◌≡◌, Bool, true, List, [], ◌∷◌}

module _ {P : Type 0} (step : P → ℕ → P → Bool) where
  pub data Run : P → List ℕ → P → Type 0 where
    stays : {i : P} → Run i [] i
    goes : {i q k : P} {c : ℕ} {w : List ℕ} → step i c q ≡ true → Run q w k → Run i (c ∷ w) k

-- the set that a text leads to
abbrev pub along : {S : Type 0} → (S → ℕ → S) → S → List ℕ → S
along after s [] = s
along after s (c ∷ w) = along after (after s c) w

-- `In i s` says that the set s holds the place i
pub record SteppedBy {P S : Type 0} (step : P → ℕ → P → Bool) (In : P → S → Type 0) (after : S → ℕ → S) : Type 0 where
  pub into : (s : S) (c : ℕ) (q : P) → In q (after s c) → (i : P) × In i s × (step i c q ≡ true)
  pub out : (s : S) (c : ℕ) (i q : P) → In i s → step i c q ≡ true → In q (after s c)
