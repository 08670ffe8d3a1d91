-- The way of texts, step by step:
--   spells_leads  : it is a way of 01's children
--   spells_solved : where the texts solve the question, what is left of them solves each situation on the way
--   spells_texts  : at the finish the texts that the way spells are these
-- Follows, step by step, from the laws of the step that the rule picks.
use Prim.Native.Nat.{ℕ}
use mathlib.Core.Path.{◌≡◌, refl, sym, ap, ◌∙◌, subst}
use mathlib.Core.Bool.{true, false}
use mathlib.Core.List.{List, [], ◌∷◌, ◌++◌, reverse_aux, reverse}
use lib.Dec.{eqb}
use Rattle.paper.specs.Numbers.{longest_side}
use Rattle.paper.specs.Places.{PlaceSet}
use Rattle.paper.specs.Search.{child}
use Rattle.paper.specs.Leads.{start, step}
use Rattle.paper.specs.Equation.{chr, fld, Side, Texts, stands_in}
use Rattle.paper.specs.Situation.{Acceptor, Situation, Move, kind_of, kind_finished, trimmed, moved, finished, question}
use Rattle.paper.specs.Way.{given, text_along, texts_of}
use Rattle.paper.specs.Question.{Question, Solution as Solves-question, hidden, acceptor}
use Rattle.paper.specs.Demands.{texts_spelt}
use Rattle.paper.proofs.base.Tests.{by_bool, true_false}
use Rattle.paper_laws.proofs.places.Accepts.{question_decides}
use Rattle.paper_laws.proofs.equations.Standing.{stands, stands_trimmed}
use Rattle.paper_laws.proofs.equations.Solution.{Solution, solution_trimmed}
use Rattle.paper_laws.proofs.equations.Question.{solves_asked}
use Rattle.paper_laws.proofs.equations.Question as Equations
use Rattle.paper_laws.proofs.equations.Moves.{child_opened, child_made}
use Rattle.paper_laws.proofs.equations.Children.{child_of}
use Rattle.paper_laws.proofs.sheets.Asked.{GoodQuestion}
use Rattle.paper_laws.proofs.sheets.Hidden.{hidden_known}
use Rattle.paper_steps.specs.PlayPromised.{WayTo}
use Rattle.paper_way.specs.TextSteps.{spaced, next, texts_behind}
use Rattle.paper_way.specs.WayPromised.{At, next_at, Spells, begins, goes_on}
use Rattle.paper_way.proofs.Spaced.{spaced_solves}
use Rattle.paper_way.proofs.NextStep.{Picked, picked, given_behind, none_behind, solved_behind}

-- a finished situation has no field
finished_none : (A : Acceptor PlaceSet) (f : ℕ) (l r : Side) → kind_finished A (kind_of l r) ≡ true → stands_in f (l ++ r) ≡ false
finished_none A f [] [] e = refl
finished_none A f [] (chr b ∷ r) e = absurd (true_false e refl)
finished_none A f [] (fld g ∷ r) e = absurd (true_false e refl)
finished_none A f (fld g ∷ l) r e = absurd (true_false e refl)
finished_none A f (chr a ∷ l) [] e = absurd (true_false e refl)
finished_none A f (chr a ∷ l) (fld g ∷ r) e = absurd (true_false e refl)
finished_none A f (chr a ∷ l) (chr b ∷ r) e =
    absurd (by_bool (eqb a b) (λ q. true_false (rw q at e) refl) (λ q. true_false (rw q at e) refl))

module _ (q : Question) where
  abbrev A : Acceptor PlaceSet
  A = acceptor (hidden q)

  abbrev begin : Situation PlaceSet
  begin = question A (hidden q).left (hidden q).right

  pub spells_leads : {texts rest : Texts} {e : At q} → Spells q texts e rest → WayTo q e
  spells_leads begins = start
  spells_leads (goes_on m t s is d) = step (spells_leads s) d

  -- what the step rests on
  picks : {rest : Texts} (e : At q) (m : Move) → next_at q rest e ≡ next m → Picked rest e.at.left e.at.right (next m)
  picks {rest} e m is = subst (Picked rest e.at.left e.at.right) is (picked rest e.at.left e.at.right)

  -- each situation on the way is trimmed
  pub record Trimmed (s : Situation PlaceSet) : Type 0 where
    pub before : Situation PlaceSet
    pub is_trimmed : s ≡ trimmed A before

  pub spells_trimmed : {texts rest : Texts} {e : At q} → Spells q texts e rest → Trimmed e.at
  unfolding question
  spells_trimmed begins = record { before = Equations.asked A (hidden q).left (hidden q).right; is_trimmed = refl }
  spells_trimmed (goes_on {e = e} m t s is d) = record { before = moved A e.at m; is_trimmed = (child_made A longest_side e.at d).1 }

  pub spells_solved : {texts rest : Texts} {e : At q} → Solution A begin (spaced q texts) → Spells q texts e rest → Solution A e.at rest
  spells_solved x begins = x
  spells_solved x (goes_on {e = e} {rest = rest} m t s is d) =
      let c = child_of A longest_side e.at d in
      subst (λ (u : Situation PlaceSet). Solution A u (texts_behind rest e.at m)) (sym c.makes)
      (solution_trimmed A (moved A e.at m) (texts_behind rest e.at m)
      (solved_behind A (question_decides (hidden q)) rest e.at.sets (picks e m is) (child_opened A e.at c) (spells_solved x s)))

  -- texts that solve the sheet's question solve the first situation
  pub begin_solved : GoodQuestion q → (texts : Texts) → Solves-question q texts → Solution A begin (spaced q texts)
  unfolding question acceptor
  begin_solved g texts x =
      let l = (hidden q).left in
      let r = (hidden q).right in
      solution_trimmed A (Equations.asked A l r) (spaced q texts)
      (solves_asked A (question_decides (hidden q)) l r (spaced q texts) (hidden_known q g) (spaced_solves q texts g x))

  -- a field that stands no longer has no text left
  spells_none : {texts rest : Texts} {e : At q} → ((f : ℕ) → stands f begin ≡ false → spaced q texts f ≡ []) → Spells q texts e rest
      → (f : ℕ) → stands f e.at ≡ false → rest f ≡ []
  spells_none none begins f n = none f n
  spells_none none (goes_on {e = e} {rest = rest} m t s is d) f n =
      let c = child_of A longest_side e.at d in
      none_behind A rest e.at.sets (picks e m is) (child_opened A e.at c) (λ g h. spells_none none s g h) f
      (sym (stands_trimmed A f (moved A e.at m)) ∙ ap (stands f) (sym c.makes) ∙ n)

  -- what a way spells, with moves behind it
  spells_along : {texts rest : Texts} {e : At q} → Spells q texts e rest → (f : ℕ) (ms : List Move) → text_along A f e.at ms ≡ rest f
      → text_along A f begin (reverse_aux e.way ms) ≡ spaced q texts f
  spells_along begins f ms h = h
  spells_along (goes_on {e = e} {rest = rest} m t s is d) f ms h =
      let c = child_of A longest_side e.at d in
      spells_along s f (m ∷ ms)
      (ap (λ (u : Situation PlaceSet). given A f e.at m ++ text_along A f u ms) (sym c.makes)
      ∙ ap (λ (w : List ℕ). given A f e.at m ++ w) h
      ∙ given_behind A rest e.at.sets (picks e m is) (child_opened A e.at c) f)

  -- At the finish the texts that the way spells are these.
  pub spells_texts : {texts rest : Texts} {e : At q} → ((f : ℕ) → stands f begin ≡ false → spaced q texts f ≡ []) → Spells q texts e rest
      → finished A e.at ≡ true → (f : ℕ) → texts_spelt (hidden q) e f ≡ spaced q texts f
  unfolding texts_of
  spells_texts {e = e} none s h f =
      spells_along s f [] (sym (spells_none none s f (finished_none A f e.at.left e.at.right h)))
