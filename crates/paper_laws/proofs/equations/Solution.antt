-- What it is for texts to solve a situation: the labels are the same, and the acceptor takes each text of a field that stands, from
-- the set that the situation gives the field. With the laws of the sets: an empty set takes nothing, so a field whose text is taken is one of
-- the acceptor's; and trimming keeps the solutions, both ways.
-- Follows from the laws of an acceptor (`Decides`) and from the laws of labels and standing.
use Prim.Native.Nat.{ℕ, ◌<◌}
use mathlib.Core.Path.{◌≡◌, sym, ◌∙◌}
use mathlib.Core.Bool.{true, false}
use mathlib.Core.List.Memᴰ
use mathlib.Core.List.{List, [], ◌∷◌}
use lib.Dec.{ltb}
use lib.ListN.{length, get_or, get_or-eq_default}
use Rattle.paper.proofs.base.Tests.{by_bool, not_true, true_false, ltb_true, ltb_false}
use Rattle.paper.proofs.base.Lists.{mem_cons_by}
use Rattle.paper.specs.Equation.{Texts, Over, label}
use Rattle.paper.specs.Situation.{Acceptor, Situation, set_of, trimmed}
use Rattle.paper.specs.Decides.{Decides, accepted_along}
use Rattle.paper_laws.proofs.equations.Trimming.{trimming}
use Rattle.paper_laws.proofs.equations.Standing.{stands, stands_trimmed}
use Rattle.paper_laws.proofs.equations.Labels.{trim_label, label_trim}

module _ {P : Type 0} (A : Acceptor P) where
  -- from the set p the acceptor takes the text w of the field f, over the characters, to its end
  pub record Takes (f : ℕ) (p : P) (w : List ℕ) : Type 0 where
    pub over : Over A.characters w
    pub ends : A.may_end f (accepted_along A f p w) ≡ true

  pub record Solution (s : Situation P) (texts : Texts) : Type 0 where
    pub same_label : label texts s.left ≡ label texts s.right
    pub takes : (f : ℕ) → stands f s ≡ true → Takes f (set_of A s f) (texts f)

  pub takes_none : (f : ℕ) (p : P) → A.may_end f p ≡ true → Takes f p []
  takes_none f p e = record { over = λ c d. absurd (Memᴰ.not-nil d); ends = e }

  pub takes_more : (f : ℕ) (p : P) (c : ℕ) (w : List ℕ) → c < A.characters → Takes f (A.set_after f p c) w → Takes f p (c ∷ w)
  takes_more f p c w h t =
      record { over = mem_cons_by (λ (x : ℕ). x < A.characters) h t.over; ends = t.ends }

  pub takes_rest : (f : ℕ) (p : P) (c : ℕ) (w : List ℕ) → Takes f p (c ∷ w) → Takes f (A.set_after f p c) w
  takes_rest f p c w t = record { over = λ d m. t.over d (Memᴰ.tail m); ends = t.ends }

  -- Trimming keeps the solutions.
  pub solution_trimmed : (s : Situation P) (texts : Texts) → Solution s texts → Solution (trimmed A s) texts
  unfolding trimmed
  solution_trimmed s texts x =
      record {
        same_label = trim_label texts (trimming s.left s.right) x.same_label;
        takes = λ f e. x.takes f (sym (stands_trimmed A f s) ∙ e);
      }

  pub trimmed_solution : (s : Situation P) (texts : Texts) → Solution (trimmed A s) texts → Solution s texts
  unfolding trimmed
  trimmed_solution s texts x =
      record {
        same_label = label_trim texts (trimming s.left s.right) x.same_label;
        takes = λ f e. x.takes f (stands_trimmed A f s ∙ e);
      }

module _ {P : Type 0} (A : Acceptor P) {Holds : ℕ → List ℕ → Type 0} (D : Decides A Holds) where
  -- an empty set takes no text
  empty_takes : (f : ℕ) (p : P) (w : List ℕ) → A.is_empty p ≡ true → A.may_end f (accepted_along A f p w) ≡ true → ⊥
  empty_takes f p [] e t = true_false t (D.empty_ends f p e)
  empty_takes f p (c ∷ w) e t = empty_takes f (A.set_after f p c) w (D.empty_after f p c e) t

  pub takes_not_empty : (f : ℕ) (p : P) (w : List ℕ) → Takes A f p w → A.is_empty p ≡ false
  takes_not_empty f p w t = not_true (A.is_empty p) (λ e. empty_takes f p w e t.ends)

  -- a field whose text is taken has its set in the list of sets
  pub takes_in_range : (f : ℕ) (sets : List P) (w : List ℕ) → Takes A f (get_or sets f A.gone) w → f < length sets
  takes_in_range f sets w t =
      by_bool (ltb f (length sets)) (ltb_true f (length sets))
      (λ e.
      let q : get_or sets f A.gone ≡ A.gone = get_or-eq_default sets A.gone (ltb_false f (length sets) e) in
      absurd (true_false (rw q D.gone_empty) (takes_not_empty f (get_or sets f A.gone) w t)))
