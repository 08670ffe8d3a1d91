-- Demand 2, the clash: if the search on a question finds a finished situation, the texts that its way spells solve the question.
-- Follows from the laws of the search (a way leads to every entry) and of the texts that a way spells.
use Prim.Native.Nat.{ℕ}
use mathlib.Core.Path.{◌≡◌}
use mathlib.Core.List.{List}
use Rattle.paper.specs.Search.{Entry, found}
use Rattle.paper.specs.Equation.{Side, Solves}
use Rattle.paper.specs.Situation.{Acceptor, Situation, Move, question}
use Rattle.paper.specs.Decides.{Decides}
use Rattle.paper.specs.Way.{texts_of}
use Rattle.paper_laws.proofs.equations.Question.{asked, asked_solves}
use Rattle.paper_laws.proofs.equations.Spelled.{spelled_trimmed, way_spelled}
use Rattle.paper_laws.proofs.equations.Answered.{end_of, found_way}

-- The texts of the entry found solve the question, whatever the limit on the sides and the room.
abbrev pub Sound : {P : Type 0} → Acceptor P → (ℕ → List ℕ → Type 0) → Type 0
Sound {P} A Holds =
    (limit room : ℕ) (l r : Side) (e : Entry (Situation P) Move)
    → end_of A limit room l r ≡ found e
    → Solves A.characters Holds l r (texts_of A l r e)

pub sound : {P : Type 0} (A : Acceptor P) {Holds : ℕ → List ℕ → Type 0} (D : Decides A Holds) → Sound A Holds
unfolding texts_of question
sound A D limit room l r e h =
    let (way, end) = found_way A D limit room l r e h in
    asked_solves A D l r (texts_of A l r e) (spelled_trimmed A (asked A l r) (texts_of A l r e) (way_spelled A D limit way end)).solution
