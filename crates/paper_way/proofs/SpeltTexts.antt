-- A way of texts to the finish:
--   spelt_same     : the texts that it spells are these
--   spelt_solution : they solve the question
--   spelt_accepted : the player accepts it, and gives their records back (`spelt_answer`)
--   solved_goes_on : and where texts solve the question, the rule picks a step that makes a child, up to the finish
-- Of texts from answer records, and a good question. Follows from the laws of the way (`Spelling`) and from what is known of the player.
use Prim.Native.Nat.{ℕ, ◌<◌}
use mathlib.Core.Path.{◌≡◌, refl, sym, ap, ◌∙◌, subst}
use mathlib.Core.Logic.{◌⊎◌, inl, inr, ⊎_elim}
use mathlib.Core.Bool.{true, false}
use mathlib.Core.List.{List, [], ◌∷◌, ◌++◌, Memᴰ}
use lib.Dec.{eqb}
use Rattle.paper.specs.Lists.{upto, each}
use Rattle.paper.specs.Numbers.{fields, hidden_left, hidden_right}
use Rattle.paper.specs.Places.{PlaceSet}
use Rattle.paper.specs.Pattern.{Holds}
use Rattle.paper.specs.Equation.{fld, Side, Texts, Over, stands_in, is_field, label, without_trailing}
use Rattle.paper.specs.Situation.{Acceptor, Situation, Kind, is_finished, is_dead, is_open, Move, kind, kind_finished, trimmed, moved, moves_of, finished, question}
use Rattle.paper.specs.Children.{ChildOf}
use Rattle.paper.specs.Question.{Question, Solution, held_by, hidden, acceptor}
use Rattle.paper.specs.Outcome.{standing, value_record}
use Rattle.paper.specs.Demands.{texts_spelt}
use Rattle.paper.proofs.base.Tests.{by_bool, true_false, eqb_true, eqb_same, left_true, right_true, or_is_true}
use Rattle.paper.proofs.base.Lists.{keep_mem, mem_keep, mem_upto, upto_mem, any_append}
use Rattle.paper.proofs.base.Listed.{each_same}
use Rattle.paper_laws.proofs.places.Accepts.{question_decides}
use Rattle.paper_laws.proofs.equations.Labels.{label_same}
use Rattle.paper_laws.proofs.equations.Standing.{stands, stands_trimmed}
use Rattle.paper_laws.proofs.equations.Solution.{solution_trimmed}
use Rattle.paper_laws.proofs.equations.Solution as Solving
use Rattle.paper_laws.proofs.equations.Progress.{dead_unsolved}
use Rattle.paper_laws.proofs.equations.Moves.{move_opened}
use Rattle.paper_laws.proofs.equations.Question as Equations
use Rattle.paper_laws.proofs.sheets.Asked.{GoodQuestion, fields_known}
use Rattle.paper_steps.specs.StepRecords.{step_records}
use Rattle.paper_steps.specs.PlayPromised.{Accepted, way_answer}
use Rattle.paper_steps.proofs.PlayRight.{own_way_solves}
use Rattle.paper_way.specs.TextSteps.{spaced, next, texts_behind}
use Rattle.paper_way.specs.WayPromised.{Says, At, next_at, Spells, Spelt}
use Rattle.paper_way.proofs.Spaced.{spaced_own}
use Rattle.paper_way.proofs.NextStep.{Wanted, Picked, picked, next_wanted, solved_behind}
use Rattle.paper_way.proofs.Spelling.{spells_leads, spells_trimmed, spells_solved, begin_solved, spells_texts}

module _ (q : Question) (g : GoodQuestion q) where
  abbrev A : Acceptor PlaceSet
  A = acceptor (hidden q)

  abbrev begin : Situation PlaceSet
  begin = question A (hidden q).left (hidden q).right

  stands_own : (f : ℕ) → Memᴰ f (standing q) → (f < fields) × (stands_in f (q.left ++ q.right) ≡ true)
  unfolding standing
  stands_own f d =
      let (i, e) = mem_keep (λ (h : ℕ). stands_in h (q.left ++ q.right)) (upto fields) d in (mem_upto fields i, e)

  own_standing : (f : ℕ) → stands_in f (q.left ++ q.right) ≡ true → Memᴰ f (standing q)
  unfolding standing
  own_standing f e =
      keep_mem (λ (h : ℕ). stands_in h (q.left ++ q.right)) (upto fields) (upto_mem fields (fields_known q g f e)) e

  -- what stands in the first situation
  begin_stands : (f : ℕ) → stands f begin ≡ stands_in f ((hidden q).left ++ (hidden q).right)
  unfolding question
  begin_stands f = stands_trimmed A f (Equations.asked A (hidden q).left (hidden q).right)

  by_sides : (f : ℕ) (l r : Side) → (stands_in f l ≡ true) ⊎ (stands_in f r ≡ true) → stands_in f (l ++ r) ≡ true
  by_sides f l r h =
      any_append (is_field f) l r ∙ ⊎_elim (λ i. left_true (stands_in f l) (stands_in f r) i) (λ i. right_true (stands_in f l) (stands_in f r) i) h

  last_stands : (f : ℕ) (side : Side) → stands_in f (side ++ (fld f ∷ [])) ≡ true
  last_stands f side = by_sides f side (fld f ∷ []) (inr (left_true (eqb f f) false (eqb_same f)))

  own_begin : (f : ℕ) → Memᴰ f (standing q) → stands f begin ≡ true
  own_begin f d =
      begin_stands f
      ∙ ⊎_elim
      (λ h. by_sides f (hidden q).left (hidden q).right (inl (by_sides f q.left (fld hidden_left ∷ []) (inl h))))
      (λ h. by_sides f (hidden q).left (hidden q).right (inr (by_sides f q.right (fld hidden_right ∷ []) (inl h))))
      (or_is_true (stands_in f q.left) (stands_in f q.right) (sym (any_append (is_field f) q.left q.right) ∙ (stands_own f d).1))

  left_begin : stands hidden_left begin ≡ true
  left_begin = begin_stands hidden_left ∙ by_sides hidden_left (hidden q).left (hidden q).right (inl (last_stands hidden_left q.left))

  right_begin : stands hidden_right begin ≡ true
  right_begin = begin_stands hidden_right ∙ by_sides hidden_right (hidden q).left (hidden q).right (inr (last_stands hidden_right q.right))

  module _ (bytes : List ℕ) (texts : Texts) (says : Says q bytes texts) where
    -- a field that doesn't stand has no text
    none_spaced : (f : ℕ) → stands f begin ≡ false → spaced q texts f ≡ []
    none_spaced f n =
        by_bool (eqb f hidden_left)
        (λ e. absurd (true_false left_begin (ap (λ (h : ℕ). stands h begin) (sym (eqb_true f hidden_left e)) ∙ n)))
        (λ e.
        by_bool (eqb f hidden_right)
        (λ i. absurd (true_false right_begin (ap (λ (h : ℕ). stands h begin) (sym (eqb_true f hidden_right i)) ∙ n)))
        (λ i. rw (e, i) (says.none f (λ d. true_false (own_begin f d) n))))

    module _ (e : At q) (x : Spelt q texts e) where
      pub spelt_same : (f : ℕ) → Memᴰ f (standing q) → texts_spelt (hidden q) e f ≡ texts f
      spelt_same f d = spells_texts q none_spaced x.by_rule x.at_finish f ∙ spaced_own q texts f (stands_own f d).0

      pub spelt_accepted : Accepted q (step_records e.way) e
      spelt_accepted = record { said = refl; few = x.few; leads = spells_leads q x.by_rule; at_finish = x.at_finish }

      stands_same : (f : ℕ) → stands_in f (q.left ++ q.right) ≡ true → texts_spelt (hidden q) e f ≡ texts f
      stands_same f h = spelt_same f (own_standing f h)

      pub spelt_solution : Solution q texts
      spelt_solution =
          let y = own_way_solves q e (spells_leads q x.by_rule) x.at_finish g in
          let l = label_same (texts_spelt (hidden q) e) texts q.left (λ f h. stands_same f (by_sides f q.left q.right (inl h))) in
          let r = label_same (texts_spelt (hidden q) e) texts q.right (λ f h. stands_same f (by_sides f q.left q.right (inr h))) in
          record {
            same_label = ap (without_trailing q.alphabet.space) (sym l) ∙ y.same_label ∙ ap (without_trailing q.alphabet.space) r;
            over = λ f h. subst (Over q.alphabet.characters) (stands_same f h) (y.over f h);
            holds = λ f h. subst (Holds (held_by q f)) (stands_same f h) (y.holds f h);
          }

      pub spelt_answer : way_answer q e ≡ bytes
      spelt_answer =
          each_same (λ (f : ℕ). value_record f (texts_spelt (hidden q) e f)) (λ (f : ℕ). value_record f (texts f)) (standing q)
          (λ f d. ap (value_record f) (spelt_same f d))
          ∙ sym says.records

  -- where texts solve the question, the way goes on up to the finish
  pub record GoesOn (e : At q) (rest : Texts) : Type 0 where
    pub move : Move
    pub is_next : next_at q rest e ≡ next move
    pub makes_child : ChildOf A e.at move (trimmed A (moved A e.at move))

  open_kind : (k : Kind) → kind_finished A k ≡ false → (k ≡ is_dead → ⊥) → k ≡ is_open
  open_kind is_finished h n = absurd (true_false refl h)
  open_kind is_dead h n = absurd (n refl)
  open_kind is_open h n = refl

  pub solved_goes_on : (texts : Texts) → Solution q texts → {e : At q} {rest : Texts} → Spells q texts e rest → finished A e.at ≡ false → GoesOn e rest
  solved_goes_on texts x {e} {rest} s h =
      let D = question_decides (hidden q) in
      let y = spells_solved q (begin_solved q g texts x) s in
      let opened : kind A e.at ≡ is_open = open_kind (kind A e.at) h (λ d. dead_unsolved A e.at rest d y) in
      let t = spells_trimmed q s in
      let w : Wanted A D e.at rest =
      subst (λ (u : Situation PlaceSet). kind A u ≡ is_open → Solving.Solution A u rest → Wanted A D u rest) (sym t.is_trimmed)
      (next_wanted A D t.before rest) opened y in
      let m = w.move in
      let p = subst (Picked rest e.at.left e.at.right) w.is_next (picked rest e.at.left e.at.right) in
      let z = solution_trimmed A (moved A e.at m) (texts_behind rest e.at m) (solved_behind A D rest e.at.sets p (move_opened A e.at w.is_move) y) in
      record {
        move = m;
        is_next = w.is_next;
        makes_child = record {
          is_move = subst (λ (k : Kind). Memᴰ m (moves_of A k e.at)) (sym opened) w.is_move;
          makes = refl;
          alive = λ d. dead_unsolved A (trimmed A (moved A e.at m)) (texts_behind rest e.at m) d z;
        };
      }
