-- The question as a situation: texts solve it exactly if they solve the equation, where the fields are the acceptor's.
-- Follows from what an acceptor decides (`Decides`).
use Prim.Native.Nat.{ℕ, ◌<◌}
use mathlib.Core.Path.{◌≡◌, ◌∙◌}
use mathlib.Core.Bool.{true, cond}
use mathlib.Core.List.{List, ◌++◌, map}
use lib.ListN.{length, length-map}
use Rattle.paper.specs.Lists.{upto}
use Rattle.paper.proofs.base.Tests.{cond_true}
use Rattle.paper.proofs.base.Lists.{length_from}
use Rattle.paper.specs.Equation.{Side, Texts, stands_in, Solves}
use Rattle.paper.specs.Situation.{Acceptor, Situation, set_of}
use Rattle.paper.specs.Decides.{Decides}
use Rattle.paper.proofs.base.Listed.{get_or_map_upto}
use Rattle.paper_laws.proofs.equations.Solution.{Solution, takes_in_range}

module _ {P : Type 0} (A : Acceptor P) where
  -- the question before it is trimmed
  abbrev first_set_of : Side → Side → ℕ → P
  first_set_of l r f = cond (stands_in f (l ++ r)) (A.first_set f) A.gone

  abbrev pub asked : Side → Side → Situation P
  asked l r = record { left = l; right = r; sets = map (first_set_of l r) (upto A.fields) }

  asked_set : (l r : Side) (f : ℕ) → f < A.fields → stands_in f (l ++ r) ≡ true → set_of A (asked l r) f ≡ A.first_set f
  asked_set l r f h e =
      get_or_map_upto (first_set_of l r) A.gone A.fields f h
      ∙ cond_true (stands_in f (l ++ r)) (A.first_set f) A.gone e

  asked_sets : (l r : Side) → length (asked l r).sets ≡ A.fields
  asked_sets l r = length-map (upto A.fields) (first_set_of l r) ∙ length_from 0 A.fields

module _ {P : Type 0} (A : Acceptor P) {Holds : ℕ → List ℕ → Type 0} (D : Decides A Holds) where
  pub asked_solves : (l r : Side) (texts : Texts) → Solution A (asked A l r) texts → Solves A.characters Holds l r texts
  asked_solves l r texts x =
      record {
        same_label = x.same_label;
        over = λ f e. (x.takes f e).over;
        holds = λ f e. let t = x.takes f e in
            let h : f < A.fields = rw (asked_sets A l r) at (takes_in_range A D f (asked A l r).sets (texts f) t) in
            D.only_held f (texts f) h t.over (rw (asked_set A l r f h e) at t.ends);
      }

  pub solves_asked : (l r : Side) (texts : Texts) → ((f : ℕ) → stands_in f (l ++ r) ≡ true → f < A.fields)
      → Solves A.characters Holds l r texts → Solution A (asked A l r) texts
  solves_asked l r texts known x =
      record {
        same_label = x.same_label;
        takes = λ f e. record {
          over = x.over f e;
          ends = rw (asked_set A l r f (known f e) e) (D.all_held f (texts f) (known f e) (x.over f e) (x.holds f e));
        };
      }
