-- Demand 2, no clash: if the search on a question uses all situations up, the question has no solution.
-- A solution of an entry is never the last: the entry is neither finished nor dead, so it has a child with a smaller solution, and every
-- child is entered. Follows from the laws of the search and from the progress of open situations, by recursion on a number
-- above the weight.
use Prim.Native.Nat.{ℕ, zero, suc, ◌<◌}
use native.Mathlib.Nat.{le_refl}
use native.Mathlib.Omega.{arith}
use mathlib.Core.Path.{◌≡◌, refl}
use mathlib.Core.Logic.{⊎_elim}
use mathlib.Core.Bool.{true}
use mathlib.Core.List.{List, ◌++◌, Memᴰ}
use Rattle.paper.proofs.base.Tests.{true_false}
use Rattle.paper.specs.Search.{used_up}
use Rattle.paper.specs.Equation.{Side, Texts, stands_in, Solves}
use Rattle.paper.specs.Situation.{Acceptor, Situation, Kind, is_finished, is_dead, is_open, kind, trimmed, moved, question}
use Rattle.paper.specs.Decides.{Decides}
use Rattle.paper_laws.proofs.equations.Weight.{weight_of, weight_trimmed}
use Rattle.paper_laws.proofs.equations.Solution.{Solution, solution_trimmed}
use Rattle.paper_laws.proofs.equations.Moves.{made_child}
use Rattle.paper_laws.proofs.equations.Question.{asked, solves_asked}
use Rattle.paper_laws.proofs.equations.Progress.{dead_unsolved, Progress, open_progress}
use Rattle.paper_laws.proofs.equations.Answered.{end_of, UsedUp, all_used_up}

-- No texts solve the question, if its fields are the acceptor's, whatever the limit on the sides and the room.
abbrev pub Complete : {P : Type 0} → Acceptor P → (ℕ → List ℕ → Type 0) → Type 0
Complete A Holds =
    (limit room : ℕ) (l r : Side)
    → ((f : ℕ) → stands_in f (l ++ r) ≡ true → f < A.fields)
    → end_of A limit room l r ≡ used_up
    → (texts : Texts) → Solves A.characters Holds l r texts → ⊥

-- a situation that, trimmed, is one of the list, and texts that solve it
record Solved {P : Type 0} (A : Acceptor P) (all : List (Situation P)) : Type 0 where
  situation : Situation P
  texts : Texts
  is_in : Memᴰ (trimmed A situation) all
  solution : Solution A situation texts

abbrev size : {P : Type 0} {A : Acceptor P} {all : List (Situation P)} → Solved A all → ℕ
size x = weight_of x.texts x.situation

-- None of the situations of such a list is solved: each that is has a child with a smaller solution.
module _ {P : Type 0} (A : Acceptor P) {Holds : ℕ → List ℕ → Type 0} (D : Decides A Holds)
    (limit : ℕ) {all : List (Situation P)} (used : UsedUp A limit all) where
  smaller : (x : Solved A all) → (y : Solved A all) × (size y < size x)
  smaller x = of (kind A t) refl
    where
      t : Situation P
      t = trimmed A x.situation

      solves : Solution A t x.texts
      solves = solution_trimmed A x.situation x.texts x.solution

      of : (k : Kind) → kind A t ≡ k → (y : Solved A all) × (size y < size x)
      of is_finished k = absurd (true_false (rw k) (used.unfinished t x.is_in))
      of is_dead k = absurd (dead_unsolved A t x.texts k solves)
      of is_open k =
          let p : Progress A t x.texts = open_progress A D x.situation x.texts k solves in
          let u : Situation P = moved A t p.move in
          let alive : kind A (trimmed A u) ≡ is_dead → ⊥ =
          λ e. dead_unsolved A (trimmed A u) p.after e (solution_trimmed A u p.after p.solution) in
          let entered : Memᴰ (trimmed A u) all =
          ⊎_elim
          (λ i. absurd (used.not_long t x.is_in i))
          (used.has_child t x.is_in p.move (trimmed A u))
          (made_child A p.move limit t k p.is_move alive) in (
            record { situation = u; texts = p.after; is_in = entered; solution = p.solution },
            rw (weight_trimmed A x.texts x.situation) at p.smaller,
          )

  unsolved : (n : ℕ) (x : Solved A all) → size x < n → ⊥
  unsolved zero x h = omega arith
  unsolved (suc n) x h = let (y, k) = smaller x in unsolved n y (omega arith)

pub complete : {P : Type 0} (A : Acceptor P) {Holds : ℕ → List ℕ → Type 0} (D : Decides A Holds) → Complete A Holds
unfolding question
complete A D limit room l r known h texts x =
    let (all, is_in, used) = all_used_up A D limit room l r h in
    let first : Solved A all =
    record { situation = asked A l r; texts = texts; is_in = is_in; solution = solves_asked A D l r texts known x } in
    unsolved A D limit used (suc (size first)) first (le_refl (suc (size first)))
