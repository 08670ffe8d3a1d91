-- The texts that a way spells, built from its end: a finished situation is solved by empty texts, and what solves a child solves
-- its parent with the characters that the move gives in front. So the texts spelled by a way to a finished situation solve its start.
-- Follows from the laws of strikes and puts.
use Prim.Native.Nat.{ℕ, ◌<◌}
use mathlib.Core.Path.{◌≡◌, refl, sym, ◌∙◌, subst}
use mathlib.Core.Bool.{true, false, or-false}
use mathlib.Core.List.{List, [], ◌∷◌, ◌++◌, reverse, reverse_aux, Memᴰ}
use lib.Dec.{eqb}
use Rattle.paper.specs.Lists.{member}
use Rattle.paper.proofs.base.Tests.{by_bool, true_false, not_true, eqb_true}
use Rattle.paper.proofs.base.Lists.{member_true}
use Rattle.paper.specs.Leads.{Leads, start, step}
use Rattle.paper.specs.Equation.{chr, fld, Side, Texts}
use Rattle.paper.specs.Situation.{Acceptor, Situation, Move, put, front_field, front_fields, kind_of, set_of, trimmed, strike_all, put_before, put_before_all, moved, front_may_end, open_moves, children, kind_finished, finished}
use Rattle.paper.specs.Decides.{Decides}
use Rattle.paper.specs.Way.{given, text_along}
use Rattle.paper_laws.proofs.equations.Standing.{stands, stands_trimmed, struck_stands, strike_stands, put_stands}
use Rattle.paper_laws.proofs.equations.Solution.{Solution, trimmed_solution}
use Rattle.paper_laws.proofs.equations.Steps.{with_puts, struck_solution, put_all_solution}
use Rattle.paper_laws.proofs.equations.Moves.{front_fields_stand, front_fields_different, Opened, strikes_left, strikes_right, puts, move_opened, child_made}

module _ {P : Type 0} (A : Acceptor P) where
  -- texts that solve a situation, and are empty for fields that do not stand
  pub record Spelled (s : Situation P) (texts : Texts) : Type 0 where
    pub solution : Solution A s texts
    pub empty : (f : ℕ) → stands f s ≡ false → texts f ≡ []

  -- a finished situation has empty sides
  finished_empty : (l r : Side) → kind_finished A (kind_of l r) ≡ true → (l ≡ []) × (r ≡ [])
  finished_empty [] [] e = (refl, refl)
  finished_empty [] (chr b ∷ r) e = absurd (true_false e refl)
  finished_empty [] (fld g ∷ r) e = absurd (true_false e refl)
  finished_empty (fld f ∷ l) r e = absurd (true_false e refl)
  finished_empty (chr a ∷ l) [] e = absurd (true_false e refl)
  finished_empty (chr a ∷ l) (fld g ∷ r) e = absurd (true_false e refl)
  finished_empty (chr a ∷ l) (chr b ∷ r) e =
      absurd (by_bool (eqb a b) (λ q. true_false (rw q at e) refl) (λ q. true_false (rw q at e) refl))

  -- so any texts solve it
  finished_solved : (s : Situation P) (texts : Texts) → finished A s ≡ true → Solution A s texts
  finished_solved s texts e =
      let (p, q) = finished_empty s.left s.right e in
      record { same_label = rw (p, q); takes = λ f i. absurd (true_false (rw (p, q) at i) refl) }

  pub spelled_trimmed : (s : Situation P) (texts : Texts) → Spelled (trimmed A s) texts → Spelled s texts
  spelled_trimmed s texts x =
      record { solution = trimmed_solution A s texts x.solution; empty = λ f e. x.empty f (stands_trimmed A f s ∙ e) }

  spelled_strike : (side : Side) (s : Situation P) (texts : Texts) → front_may_end A s (front_field side) ≡ true
      → Spelled (strike_all A (front_field side) s) texts → Spelled s texts
  spelled_strike [] s texts m x = x
  spelled_strike (chr a ∷ side) s texts m x = x
  spelled_strike (fld f ∷ side) s texts m x =
      record {
        solution = struck_solution A texts f s (x.empty f (struck_stands A f s)) (sym (or-false (A.may_end f (set_of A s f))) ∙ m) x.solution;
        empty = λ g e.
            x.empty g (by_bool (eqb g f) (λ q. rw (eqb_true g f q) (struck_stands A f s)) (λ q. strike_stands A g f s q ∙ e));
      }

  put_all_stands : (g c : ℕ) (fs : List ℕ) (s : Situation P) → stands g (put_before_all A c fs s) ≡ stands g s
  put_all_stands g c [] s = refl
  put_all_stands g c (f ∷ fs) s = put_all_stands g c fs (put_before A c f s) ∙ put_stands A g c f s

module _ {P : Type 0} (A : Acceptor P) {Holds : ℕ → List ℕ → Type 0} (D : Decides A Holds) where
  spelled_put : (c : ℕ) (s : Situation P) (texts : Texts) → c < A.characters → Spelled A (moved A s (put c)) texts
      → Spelled A s (with_puts c (front_fields s.left s.right) texts)
  spelled_put c s texts h x =
      let fs = front_fields s.left s.right in
      record {
        solution =
            let d = front_fields_different s.left s.right in
            put_all_solution A D (with_puts c fs texts) texts c s d (λ g. refl) h x.solution;
        empty = λ g e.
            let stand : member g fs ≡ true → ⊥ = λ m. true_false (front_fields_stand g s.left s.right (member_true g fs m)) e in
            rw (not_true (member g fs) stand) (x.empty g (put_all_stands A g c fs s ∙ e));
      }

  -- What solves a child solves its parent, with the characters that the move gives in front.
  parent_spelled : (s : Situation P) (m : Move) (texts : Texts) → Memᴰ m (open_moves A s)
      → Spelled A (trimmed A (moved A s m)) texts → Spelled A s (λ (f : ℕ). given A f s m ++ texts f)
  parent_spelled s m texts d x = by (move_opened A s d) (spelled_trimmed A (moved A s m) texts x)
    where
      by : {n : Move} → Opened A s n → Spelled A (moved A s n) texts → Spelled A s (λ (f : ℕ). given A f s n ++ texts f)
      by (strikes_left e) y = spelled_strike A s.left s texts e y
      by (strikes_right e) y = spelled_strike A s.right s texts e y
      by (puts {c = c} h l r) y = spelled_put c s texts h y

  -- the same along a way; a way has its last move first, and the moves `ms` come behind it
  along_spelled : (limit : ℕ) {s t : Situation P} {way : List Move} (ms : List Move) → Leads (children A limit) s way t
      → Spelled A t (λ (f : ℕ). text_along A f t ms) → Spelled A s (λ (f : ℕ). text_along A f s (reverse_aux way ms))
  along_spelled limit ms start x = x
  along_spelled limit ms (step {t = t} {m = m} w d) x =
      let (i, e) = child_made A limit t d in
      along_spelled limit (m ∷ ms) w (parent_spelled t m (λ (f : ℕ). text_along A f (trimmed A (moved A t m)) ms) i
      (subst (λ (v : Situation P). Spelled A v (λ (f : ℕ). text_along A f v ms)) e x))

  -- The texts that a way to a finished situation spells solve the situation where it starts.
  pub way_spelled : (limit : ℕ) {s t : Situation P} {way : List Move} → Leads (children A limit) s way t → finished A t ≡ true
      → Spelled A s (λ (f : ℕ). text_along A f s (reverse way))
  way_spelled limit {t = t} w e = along_spelled limit [] w (record { solution = finished_solved A t (λ (f : ℕ). []) e; empty = λ f i. refl })
