-- Spelling texts out ends at the finish of their way, or at the first step that can't be made:
--   spell_told    : which of these it is (`SpellTold`), for all texts
--   spells_on     : along the way of the texts spelling comes to each of its entries
--   spelt_arrives : so a way to the finish is spelt to its end
-- Follows from the making of one step.
use Prim.Native.Nat.{ℕ, zero, suc, ◌+◌, ◌-◌, ◌<◌}
use native.Mathlib.Omega.{arith}
use mathlib.Core.Path.{◌≡◌, refl, sym, ap, ◌∙◌, subst}
use mathlib.Core.Bool.{true, false, cond}
use mathlib.Core.List.Memᴰ
use mathlib.Core.List.{List, [], ◌∷◌, Memᴰ}
use lib.ListN.{length}
use Rattle.paper.specs.Numbers.{longest_side}
use Rattle.paper.specs.Places.{PlaceSet}
use Rattle.paper.specs.Search.{child}
use Rattle.paper.specs.Equation.{Texts}
use Rattle.paper.specs.Situation.{Acceptor, Situation, Kind, is_finished, is_dead, is_open, Move, kind, kind_finished, moves_of, finished}
use Rattle.paper.specs.Children.{ChildOf}
use Rattle.paper.specs.Question.{Question, hidden, acceptor}
use Rattle.paper.proofs.base.Tests.{cond_by}
use Rattle.paper_laws.proofs.equations.Children.{child_of}
use Rattle.paper_steps.specs.Player.{most_steps, Made, step_made, Played, stopped, arrived, made_on, first_entry}
use Rattle.paper_steps.proofs.StepChildren.{StepTold, no_child, long_child, its_child, step_told, told_child, told_long, told_none}
use Rattle.paper_way.specs.TextSteps.{spaced, Next, no_step, next, texts_behind, next_on, spell_from, spelled}
use Rattle.paper_way.specs.WayPromised.{At, next_at, Spells, begins, goes_on, Spelt, Long}

module _ (q : Question) where
  abbrev A : Acceptor PlaceSet
  A = acceptor (hidden q)

  -- what has a child is not finished
  unfinished_kind : {m : Move} (k : Kind) (s : Situation PlaceSet) → Memᴰ m (moves_of A k s) → kind_finished A k ≡ false
  unfinished_kind is_finished s d = absurd (Memᴰ.not-nil d)
  unfinished_kind is_dead s d = refl
  unfinished_kind is_open s d = refl

  pub child_unfinished : {m : Move} {t : Situation PlaceSet} (s : Situation PlaceSet) → ChildOf A s m t → finished A s ≡ false
  child_unfinished s c = unfinished_kind (kind A s) s c.is_move

  abbrev behind : At q → Move → Situation PlaceSet → At q
  behind e m t = record { at = t; way = m ∷ e.way }

  abbrev go_on : ℕ → Texts → At q → Move → At q → List ℕ → Played
  go_on left rest e m b later = spell_from (hidden q) left b (texts_behind rest e.at m)

  -- Every spelling ends in one of these.
  pub data SpellTold (texts : Texts) : Played → Type 0 where
    arrives : {e : At q} → Spelt q texts e → SpellTold texts (arrived e)
    is_past : {e : At q} {rest : Texts} → Spells q texts e rest → length e.way ≡ most_steps → finished A e.at ≡ false → SpellTold texts (stopped 50)
    is_apart : {e : At q} {rest : Texts} → Spells q texts e rest → length e.way < most_steps → finished A e.at ≡ false
        → next_at q rest e ≡ no_step → SpellTold texts (stopped 48)
    has_no_child : {e : At q} {rest : Texts} {m : Move} → Spells q texts e rest → length e.way < most_steps → finished A e.at ≡ false
        → next_at q rest e ≡ next m → ((t : Situation PlaceSet) → ChildOf A e.at m t → ⊥) → SpellTold texts (stopped 48)
    has_long : {e : At q} {rest : Texts} {m : Move} {t : Situation PlaceSet} → Spells q texts e rest → length e.way < most_steps
        → next_at q rest e ≡ next m → ChildOf A e.at m t → Long q t → SpellTold texts (stopped 19)

  module _ (texts : Texts) where
    made_told : (left : ℕ) (e : At q) (rest : Texts) (m : Move) {x : Made} → StepTold (hidden q) e.at m x → Spells q texts e rest
        → length e.way < most_steps → finished A e.at ≡ false → next_at q rest e ≡ next m
        → ((t : Situation PlaceSet) → Spells q texts (behind e m t) (texts_behind rest e.at m)
        → SpellTold texts (spell_from (hidden q) left (behind e m t) (texts_behind rest e.at m)))
        → SpellTold texts (made_on (go_on left rest e m) e m [] x)
    made_told left e rest m (no_child c) s few n is on = has_no_child s few n is c
    made_told left e rest m (long_child c l) s few n is on = has_long s few is c l
    made_told left e rest m (its_child {t = t} d) s few n is on = on t (goes_on m t s is d)

    next_told : (left : ℕ) (e : At q) (rest : Texts) (x : Next) → next_at q rest e ≡ x → Spells q texts e rest
        → length e.way < most_steps → finished A e.at ≡ false
        → ((m : Move) (t : Situation PlaceSet) → Spells q texts (behind e m t) (texts_behind rest e.at m)
        → SpellTold texts (spell_from (hidden q) left (behind e m t) (texts_behind rest e.at m)))
        → SpellTold texts (next_on (λ (d : At q) (m : Move). made_on (go_on left rest e m) d m [] (step_made (hidden q) d.at m)) e x)
    next_told left e rest no_step is s few n on = is_apart s few n is
    next_told left e rest (next m) is s few n on = made_told left e rest m (step_told (hidden q) e.at m) s few n is (on m)

    told_from : (left : ℕ) (e : At q) (rest : Texts) → Spells q texts e rest → length e.way + left ≡ most_steps
        → SpellTold texts (spell_from (hidden q) left e rest)
    told_from zero e rest s l =
        cond_by (SpellTold texts) (finished A e.at)
        (λ h. arrives (record { rest = rest; by_rule = s; few = omega arith; at_finish = h }))
        (λ h. is_past s (omega arith) h)
    told_from (suc left) e rest s l =
        cond_by (SpellTold texts) (finished A e.at)
        (λ h. arrives (record { rest = rest; by_rule = s; few = omega arith; at_finish = h }))
        (λ h.
        next_told left e rest (next_at q rest e) refl s (omega arith) h
        (λ m t c. told_from left (behind e m t) (texts_behind rest e.at m) c (omega arith)))

    -- from the first entry on, by how many steps may come
    pub opened : (n : ℕ) → n ≡ most_steps → spelled q texts ≡ spell_from (hidden q) n (first_entry (hidden q)) (spaced q texts)
    unfolding spelled
    opened n e = ap (λ (k : ℕ). spell_from (hidden q) k (first_entry (hidden q)) (spaced q texts)) (sym e)

    told_first : (n : ℕ) → n ≡ most_steps → SpellTold texts (spelled q texts)
    told_first n e =
        subst (SpellTold texts) (sym (opened n e)) (told_from n (first_entry (hidden q)) (spaced q texts) begins (omega arith))

    pub spell_told : SpellTold texts (spelled q texts)
    spell_told = told_first most_steps refl

    -- one step
    one_step : (left : ℕ) (e : At q) (rest : Texts) (m : Move) → finished A e.at ≡ false → next_at q rest e ≡ next m
        → spell_from (hidden q) (suc left) e rest ≡ made_on (go_on left rest e m) e m [] (step_made (hidden q) e.at m)
    one_step left e rest m h is = rw (h, is)

    -- Along the way spelling comes to its entry.
    pub spells_on : (left : ℕ) {e : At q} {rest : Texts} → Spells q texts e rest → length e.way + left ≡ most_steps
        → spelled q texts ≡ spell_from (hidden q) left e rest
    spells_on left begins l = opened left (omega (arith, l))
    spells_on left (goes_on {e = e} {rest = rest} m t s is d) l =
        spells_on (suc left) s (omega arith)
        ∙ one_step left e rest m (child_unfinished e.at (child_of A longest_side e.at d)) is
        ∙ ap (made_on (go_on left rest e m) e m []) (told_child (hidden q) (step_told (hidden q) e.at m) d)

    at_end : (left : ℕ) (e : At q) (rest : Texts) → finished A e.at ≡ true → spell_from (hidden q) left e rest ≡ arrived e
    at_end zero e rest h = rw h
    at_end (suc left) e rest h = rw h

    pub spelt_arrives : (e : At q) → Spelt q texts e → spelled q texts ≡ arrived e
    spelt_arrives e x =
        let left = most_steps - length e.way in
        let few = x.few in
        spells_on left x.by_rule (omega arith) ∙ at_end left e x.rest x.at_finish

    -- and each refusal comes where it is said to come
    pub past_stops : {e : At q} {rest : Texts} → Spells q texts e rest → length e.way ≡ most_steps → finished A e.at ≡ false
        → spelled q texts ≡ stopped 50
    past_stops s l h = spells_on 0 s (omega arith) ∙ rw h

    module _ {e : At q} {rest : Texts} (s : Spells q texts e rest) (few : length e.way < most_steps) where
      abbrev left : ℕ
      left = most_steps - suc (length e.way)

      come : spelled q texts ≡ spell_from (hidden q) (suc left) e rest
      come = spells_on (suc left) s (omega arith)

      pub apart_stops : finished A e.at ≡ false → next_at q rest e ≡ no_step → spelled q texts ≡ stopped 48
      apart_stops h is = come ∙ rw (h, is)

      module _ (m : Move) (is : next_at q rest e ≡ next m) where
        pub none_stops : finished A e.at ≡ false → ((t : Situation PlaceSet) → ChildOf A e.at m t → ⊥) → spelled q texts ≡ stopped 48
        none_stops h none =
            come ∙ one_step left e rest m h is
            ∙ ap (made_on (go_on left rest e m) e m []) (told_none (hidden q) (step_told (hidden q) e.at m) none)

        pub long_stops : (t : Situation PlaceSet) → ChildOf A e.at m t → Long q t → spelled q texts ≡ stopped 19
        long_stops t c l =
            come ∙ one_step left e rest m (child_unfinished e.at c) is
            ∙ ap (made_on (go_on left rest e m) e m []) (told_long (hidden q) (step_told (hidden q) e.at m) c l)
