-- What an acceptor must do for the answers to mean anything: it decides which texts its fields may hold.
-- Every theorem about questions is over any acceptor with these laws.
use Rattle.std.specs.Prelude.{ℕ, ◌<◌, ◌≡◌, true, false, List, [], ◌∷◌}
use Rattle.paper.specs.Equation.{Over}
use Rattle.paper.specs.Situation.{Acceptor}

-- the set that a text leads to
abbrev pub accepted_along : {P : Type 0} → Acceptor P → ℕ → P → List ℕ → P
accepted_along A f s [] = s
accepted_along A f s (c ∷ w) = accepted_along A f (A.set_after f s c) w

pub record Decides {P : Type 0} (A : Acceptor P) (Holds : ℕ → List ℕ → Type 0) : Type 0 where
  -- running the sets over a text ends in a set that may end exactly if the field may hold the text
  pub only_held : (f : ℕ) (w : List ℕ) → f < A.fields → Over A.characters w → A.may_end f (accepted_along A f (A.first_set f) w) ≡ true → Holds f w
  pub all_held : (f : ℕ) (w : List ℕ) → f < A.fields → Over A.characters w → Holds f w → A.may_end f (accepted_along A f (A.first_set f) w) ≡ true
  -- an empty set takes nothing and may not end; a field that is gone has an empty set
  pub empty_ends : (f : ℕ) (s : P) → A.is_empty s ≡ true → A.may_end f s ≡ false
  pub empty_after : (f : ℕ) (s : P) (c : ℕ) → A.is_empty s ≡ true → A.is_empty (A.set_after f s c) ≡ true
  pub gone_empty : A.is_empty A.gone ≡ true
  -- the test of sets is equality
  pub same_equal : (s t : P) → A.same_set s t ≡ true → s ≡ t
  pub equal_same : (s : P) → A.same_set s s ≡ true
