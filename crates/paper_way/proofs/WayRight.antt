-- The way of given texts keeps what is promised of it, for all sheets, all bytes of texts and all steps buffers.
--   sheet_way_promised : (sheet texts steps : List ℕ) → WayPromised (read_sheet sheet) texts steps (way sheet texts steps)
-- What is said of a sheet holds of every reading whose question is good (`way_promised`). Follows from reading the records (`TextsSaid`), from spelling
-- texts out (`SpelledOut`), from the laws of a way to the finish (`SpeltTexts`), and from what is promised of the player.
use Prim.Native.Nat.{ℕ, ◌-◌, ◌≤◌, ◌<◌}
use native.Mathlib.Omega.{arith}
use mathlib.Core.Path.{◌≡◌, refl, sym, ap, ◌∙◌, subst}
use mathlib.Core.Logic.{◌⊎◌, inl, inr, ⊎_elim}
use mathlib.Core.Bool.{false, not}
use mathlib.Core.List.{List, ◌∷◌}
use lib.Dec.{leb, ltb}
use lib.ListN.{length, take, drop}
use lib.Seq.{take-append_seam}
use Rattle.paper.specs.Numbers.{longest_side}
use Rattle.paper.specs.Places.{PlaceSet}
use Rattle.paper.specs.Equation.{Texts}
use Rattle.paper.specs.Situation.{Acceptor, Move, trimmed, moved, finished}
use Rattle.paper.specs.Children.{ChildOf}
use Rattle.paper.specs.Question.{Question, Solution, hidden, acceptor}
use Rattle.paper.specs.Sheet.{Reading, refused, asked, read_sheet}
use Rattle.paper.proofs.base.Tests.{never, by_bool, cond_by, ltb_true, ltb_false, le_leb, lt_leb}
use Rattle.paper_laws.proofs.equations.Children.{child_of}
use Rattle.paper_laws.proofs.sheets.Asked.{GoodQuestion, AsksGood, sheet_good}
use Rattle.paper_laws.proofs.sheets.Rows.{fault_above}
use Rattle.paper_steps.specs.StepRecords.{step_records}
use Rattle.paper_steps.specs.Player.{most_steps, Made, Played, stopped, arrived, play_told, play_of}
use Rattle.paper_steps.proofs.StepChildren.{StepTold, no_child, long_child, its_child, step_told}
use Rattle.paper_steps.proofs.PlayRight.{accepted_told}
use Rattle.paper_way.specs.TextRecords.{TextsRead, no_texts, texts_read, read_texts}
use Rattle.paper_way.specs.TextSteps.{next, texts_behind, spelled}
use Rattle.paper_way.specs.WayOutcome.{Way, way_refused, way_told, way_ended, way_read, way_of, way}
use Rattle.paper_way.specs.WayPromised.{Says, At, Spells, begins, goes_on, Spelt, SidesShort, FewSteps, WayStops, no_records, past_most, go_apart, makes_no_child, makes_long, Solving, Wrote, WayPromised}
use Rattle.paper_way.proofs.TextsSaid.{read_says, says_read}
use Rattle.paper_way.proofs.SpeltTexts.{spelt_same, spelt_accepted, spelt_solution, spelt_answer, GoesOn, solved_goes_on}
use Rattle.paper_way.proofs.SpelledOut.{child_unfinished, SpellTold, arrives, is_past, is_apart, has_no_child, has_long, spell_told, spelt_arrives, past_stops, apart_stops, none_stops, long_stops}

-- the records of steps and the steps buffer
module _ (bytes steps : List ℕ) where
  told_fits : length bytes ≤ length steps → Wrote bytes steps (way_told bytes steps)
  unfolding way_told
  told_fits h = rw (le_leb (length bytes) (length steps) h) (record { number = refl; written = refl; steps_after = refl })

  told_short : length steps < length bytes → (way_told bytes steps).number ≡ 51
  unfolding way_told
  told_short h = rw (lt_leb (length bytes) (length steps) h)

  told_number : ((way_told bytes steps).number ≡ 0) ⊎ ((way_told bytes steps).number ≡ 51)
  unfolding way_told
  told_number = cond_by (λ (o : Way). (o.number ≡ 0) ⊎ (o.number ≡ 51)) (not (leb (length bytes) (length steps))) (λ _. inr refl) (λ _. inl refl)

  told_unchanged : ((way_told bytes steps).number ≡ 0 → ⊥) → ((way_told bytes steps).written ≡ 0) × ((way_told bytes steps).steps ≡ steps)
  unfolding way_told
  told_unchanged =
      cond_by (λ (o : Way). (o.number ≡ 0 → ⊥) → (o.written ≡ 0) × (o.steps ≡ steps)) (not (leb (length bytes) (length steps)))
      (λ _ n. (refl, refl)) (λ _ n. absurd (n refl))

  told_bytes : (way_told bytes steps).number ≡ 0 → take (way_told bytes steps).written (way_told bytes steps).steps ≡ bytes
  unfolding way_told
  told_bytes =
      cond_by (λ (o : Way). o.number ≡ 0 → take o.written o.steps ≡ bytes) (not (leb (length bytes) (length steps)))
      (λ _ e. absurd (let z : 51 ≡ 0 = e in omega arith)) (λ _ e. take-append_seam bytes (drop (length bytes) steps))

  told_none : ((way_told bytes steps).count ≡ 0) × ((way_told bytes steps).place ≡ 0)
  unfolding way_told
  told_none = cond_by (λ (o : Way). (o.count ≡ 0) × (o.place ≡ 0)) (not (leb (length bytes) (length steps))) (λ _. (refl, refl)) (λ _. (refl, refl))

module _ (q : Question) (bytes : List ℕ) where
  abbrev A : Acceptor PlaceSet
  A = acceptor (hidden q)

  -- a refusal of spelling is one of the records
  pub spell_stops : {texts : Texts} → Says q bytes texts → {k : ℕ} → SpellTold q texts (stopped k) → WayStops q bytes k
  spell_stops {texts} s (is_past {e = e} {rest = rest} w l h) = past_most texts e rest s w l h
  spell_stops {texts} s (is_apart {e = e} {rest = rest} w l h is) = go_apart texts e rest s w l h is
  spell_stops {texts} s (has_no_child {e = e} {rest = rest} {m = m} w l h is n) = makes_no_child texts e rest m s w l h is n
  spell_stops {texts} s (has_long {e = e} {rest = rest} {m = m} {t = t} w l is c x) = makes_long texts e rest m t s w l is c x

  -- none of them is 0 or 51
  pub stops_apart : {k : ℕ} → WayStops q bytes k → (k ≡ 0) ⊎ (k ≡ 51) → ⊥
  stops_apart (no_records n) h = ⊎_elim (λ i. omega (arith, i)) (λ i. omega (arith, i)) h
  stops_apart (past_most texts e rest s w l n) h = ⊎_elim (λ i. omega (arith, i)) (λ i. omega (arith, i)) h
  stops_apart (go_apart texts e rest s w l n is) h = ⊎_elim (λ i. omega (arith, i)) (λ i. omega (arith, i)) h
  stops_apart (makes_no_child texts e rest m s w l n is c) h = ⊎_elim (λ i. omega (arith, i)) (λ i. omega (arith, i)) h
  stops_apart (makes_long texts e rest m t s w l is c x) h = ⊎_elim (λ i. omega (arith, i)) (λ i. omega (arith, i)) h

  -- a way that arrives has no long side and no step too many
  module _ (texts : Texts) (e : At q) (x : spelled q texts ≡ arrived e) where
    apart_from : {k : ℕ} → spelled q texts ≡ stopped k → ⊥
    apart_from y = never (let z = sym x ∙ y in cc)

    arrived_few : FewSteps q texts
    arrived_few _ _ s = by s
      where
        by : {d : At q} {rest : Texts} → Spells q texts d rest → length d.way ≤ most_steps
        by begins = omega arith
        by (goes_on {e = d} m t s is c) =
            let few = by s in
            by_bool (ltb (length d.way) most_steps)
            (λ h. let lt = ltb_true (length d.way) most_steps h in omega arith)
            (λ h.
            let ge = ltb_false (length d.way) most_steps h in
            absurd (apart_from (past_stops q texts s (omega arith) (child_unfinished q d.at (child_of A longest_side d.at c)))))

    arrived_short : SidesShort q texts
    arrived_short d rest m t s is c l =
        by_bool (ltb (length d.way) most_steps)
        (λ h. apart_from (long_stops q texts s (ltb_true (length d.way) most_steps h) m is t c l))
        (λ h.
        let ge = ltb_false (length d.way) most_steps h in
        let few = arrived_few d rest s in
        apart_from (past_stops q texts s (omega arith) (child_unfinished q d.at c)))

  module _ (g : GoodQuestion q) where
    -- what a way that is written says of the records
    arrived_solving : {texts : Texts} → Says q bytes texts → {e : At q} → spelled q texts ≡ arrived e → Spelt q texts e → Solving q bytes
    arrived_solving {texts} s {e} x w =
        record {
          texts = texts;
          says = s;
          solution = spelt_solution q g bytes texts s e w;
          sides_short = arrived_short texts e x;
          few_steps = arrived_few texts e x;
          entry = e;
          spelt = w;
          accepted = spelt_accepted q g bytes texts s e w;
          same_texts = spelt_same q g bytes texts s e w;
        }

    -- texts that solve the question are not stopped by 48
    solved_on : {texts : Texts} → Solution q texts → SpellTold q texts (stopped 48) → ⊥
    solved_on {texts} x (is_apart s l h is) = let w = solved_goes_on q g texts x s h in never (let y = sym is ∙ w.is_next in cc)
    solved_on {texts} x (has_no_child {e = e} {m = m} s l h is none) =
        let w = solved_goes_on q g texts x s h in
        let same : w.move ≡ m = let y = sym w.is_next ∙ is in cc in
        none _ (subst (λ (n : Move). ChildOf A e.at n (trimmed A (moved A e.at n))) same w.makes_child)

  -- Every spelling arrives or stops.
  data SpellEnds (texts : Texts) : Played → Type 0 where
    goes : {e : At q} → Spelt q texts e → SpellEnds texts (arrived e)
    halts : {k : ℕ} → SpellTold q texts (stopped k) → SpellEnds texts (stopped k)

  spell_ends : {texts : Texts} {p : Played} → SpellTold q texts p → SpellEnds texts p
  spell_ends (arrives w) = goes w
  spell_ends (is_past s l h) = halts (is_past s l h)
  spell_ends (is_apart s l h is) = halts (is_apart s l h is)
  spell_ends (has_no_child s l h is n) = halts (has_no_child s l h is n)
  spell_ends (has_long s l is c x) = halts (has_long s l is c x)

  -- Every outcome is one of these.
  pub data WayTold (steps : List ℕ) : Way → Type 0 where
    is_stopped : {k : ℕ} → WayStops q bytes k → WayTold steps (way_refused k 0 steps)
    is_written : (texts : Texts) (e : At q) → Says q bytes texts → Spelt q texts e → WayTold steps (way_told (step_records e.way) steps)

  module _ (steps : List ℕ) where
    ended_told : (texts : Texts) → Says q bytes texts → {p : Played} → SpellEnds texts p → WayTold steps (way_ended steps p)
    ended_told texts s (goes {e = e} w) = is_written texts e s w
    ended_told texts s (halts t) = is_stopped (spell_stops s t)

    pub way_tells : WayTold steps (way_read q steps (read_texts q bytes))
    way_tells = by (read_texts q bytes) refl
      where
        by : (x : TextsRead) → read_texts q bytes ≡ x → WayTold steps (way_read q steps x)
        by no_texts e = is_stopped (no_records (λ texts s. never (let r = says_read q bytes texts s in cc)))
        by (texts_read texts) e = ended_told texts (read_says q bytes texts e) (spell_ends (spell_told q texts))

    -- what the texts of the records give
    says_way : (texts : Texts) → Says q bytes texts → (p : Played) → spelled q texts ≡ p → way_read q steps (read_texts q bytes) ≡ way_ended steps p
    says_way texts s p e = ap (way_read q steps) (says_read q bytes texts s) ∙ ap (way_ended steps) e

    pub spelt_way : (texts : Texts) (e : At q) → Says q bytes texts → Spelt q texts e → way_read q steps (read_texts q bytes) ≡ way_told (step_records e.way) steps
    spelt_way texts e s w = says_way texts s (arrived e) (spelt_arrives q texts e w)

    no_texts_read : ((texts : Texts) → Says q bytes texts → ⊥) → read_texts q bytes ≡ no_texts
    no_texts_read n = by (read_texts q bytes) refl
      where
        by : (x : TextsRead) → read_texts q bytes ≡ x → x ≡ no_texts
        by no_texts e = refl
        by (texts_read texts) e = absurd (n texts (read_says q bytes texts e))

    -- each refusal comes where it is said to come
    pub stops_way : {k : ℕ} → WayStops q bytes k → way_read q steps (read_texts q bytes) ≡ way_refused k 0 steps
    stops_way (no_records n) = ap (way_read q steps) (no_texts_read n)
    stops_way (past_most texts e rest s w l h) = says_way texts s (stopped 50) (past_stops q texts w l h)
    stops_way (go_apart texts e rest s w l h is) = says_way texts s (stopped 48) (apart_stops q texts w l h is)
    stops_way (makes_no_child texts e rest m s w l h is n) = says_way texts s (stopped 48) (none_stops q texts w l m is h n)
    stops_way (makes_long texts e rest m t s w l is c x) = says_way texts s (stopped 19) (long_stops q texts w l m is t c x)

    module _ (g : GoodQuestion q) where
      told_solved : {o : Way} → WayTold steps o → (o.number ≡ 0) ⊎ (o.number ≡ 51) → Solving q bytes
      told_solved (is_stopped x) h = absurd (stops_apart x h)
      told_solved (is_written texts e s w) h = arrived_solving g s (spelt_arrives q texts e w) w

      -- where the texts solve the question, only a long side or a step too many stops
      only_long : {texts : Texts} → Solution q texts → SidesShort q texts → FewSteps q texts → {k : ℕ} → SpellTold q texts (stopped k) → ⊥
      only_long {texts} x short few (is_past {e = e} {rest = rest} s l h) =
          let w = solved_goes_on q g texts x s h in by w (step_told (hidden q) e.at w.move)
        where
          by : (w : GoesOn q g e rest) {y : Made} → StepTold (hidden q) e.at w.move y → ⊥
          by w (no_child n) = n _ w.makes_child
          by w (long_child {t = t} c y) = short e rest w.move t s w.is_next c y
          by w (its_child {t = t} d) =
              let more = few (record { at = t; way = w.move ∷ e.way }) (texts_behind rest e.at w.move) (goes_on w.move t s w.is_next d) in omega arith
      only_long {texts} x short few (is_apart s l h is) = solved_on g x (is_apart s l h is)
      only_long {texts} x short few (has_no_child s l h is n) = solved_on g x (has_no_child s l h is n)
      only_long {texts} x short few (has_long {e = e} {rest = rest} {m = m} {t = t} s l is c y) = short e rest m t s is c y

      ends_solved : {texts : Texts} → Solution q texts → SidesShort q texts → FewSteps q texts → {p : Played} → SpellEnds texts p
          → ((way_ended steps p).number ≡ 0) ⊎ ((way_ended steps p).number ≡ 51)
      ends_solved x short few (goes {e = e} w) = told_number (step_records e.way) steps
      ends_solved x short few (halts t) = absurd (only_long x short few t)

      way_solves : (texts : Texts) → Says q bytes texts → Solution q texts → SidesShort q texts → FewSteps q texts
          → ((way_read q steps (read_texts q bytes)).number ≡ 0) ⊎ ((way_read q steps (read_texts q bytes)).number ≡ 51)
      way_solves texts s x short few =
          subst (λ (o : Way). (o.number ≡ 0) ⊎ (o.number ≡ 51)) (sym (says_way texts s (spelled q texts) refl)) (ends_solved x short few (spell_ends (spell_told q texts)))

      ends_48 : {texts : Texts} → Solution q texts → {p : Played} → SpellEnds texts p → (way_ended steps p).number ≡ 48 → ⊥
      ends_48 x (goes {e = e} w) h = ⊎_elim (λ i. omega (arith, i, h)) (λ i. omega (arith, i, h)) (told_number (step_records e.way) steps)
      ends_48 {texts} x (halts t) h = solved_on g x (subst (λ (k : ℕ). SpellTold q texts (stopped k)) h t)

      way_no_solution : (way_read q steps (read_texts q bytes)).number ≡ 48 → (texts : Texts) → Says q bytes texts → Solution q texts → ⊥
      way_no_solution h texts s x =
          ends_48 x (spell_ends (spell_told q texts)) (ap (λ (o : Way). o.number) (sym (says_way texts s (spelled q texts) refl)) ∙ h)

      -- the player accepts what is written, and gives back the texts
      told_played : {o : Way} → WayTold steps o → o.number ≡ 0 → (answer : List ℕ)
          → play_of (asked q) (take o.written o.steps) answer ≡ play_told bytes answer
      told_played (is_stopped x) h answer = absurd (stops_apart x (inl h))
      told_played (is_written texts e s w) h answer =
          ap (λ (b : List ℕ). play_of (asked q) b answer) (told_bytes (step_records e.way) steps h)
          ∙ accepted_told q (step_records e.way) answer e (spelt_accepted q g bytes texts s e w)
          ∙ ap (λ (b : List ℕ). play_told b answer) (spelt_answer q g bytes texts s e w)

    way_stopped : {o : Way} → WayTold steps o → (o.number ≡ 0 → ⊥) → (o.number ≡ 51 → ⊥) → WayStops q bytes o.number
    way_stopped (is_stopped x) n k = x
    way_stopped (is_written texts e s w) n k = absurd (⊎_elim n k (told_number (step_records e.way) steps))

    way_unchanged : {o : Way} → WayTold steps o → (o.number ≡ 0 → ⊥) → (o.written ≡ 0) × (o.steps ≡ steps)
    way_unchanged (is_stopped x) n = (refl, refl)
    way_unchanged (is_written texts e s w) n = told_unchanged (step_records e.way) steps n

    way_none : {o : Way} → WayTold steps o → (o.count ≡ 0) × (o.place ≡ 0)
    way_none (is_stopped x) = (refl, refl)
    way_none (is_written texts e s w) = told_none (step_records e.way) steps

-- For every reading whose question is good.
pub way_promised : (r : Reading) → AsksGood r → (texts steps : List ℕ) → WayPromised r texts steps (way_of r texts steps)
way_promised r good texts steps =
    record {
      solved = λ q h. rw h (told_solved q texts steps (good q h) (way_tells q texts steps));
      solves = λ q h. rw h (way_solves q texts steps (good q h));
      wrote = λ q h t e s w fits.
          rw h (subst (Wrote (step_records e.way) steps) (sym (spelt_way q texts steps t e s w)) (told_fits (step_records e.way) steps fits));
      too_short = λ q h t e s w short.
          rw h (ap (λ (o : Way). o.number) (spelt_way q texts steps t e s w) ∙ told_short (step_records e.way) steps short);
      played = played r good;
      stops = λ q h n x. rw h (ap (λ (o : Way). o.number) (stops_way q texts steps x));
      stopped = λ q h. rw h (way_stopped q texts steps (way_tells q texts steps));
      no_solution = λ q h. rw h (way_no_solution q texts steps (good q h));
      refuses = λ x at h. rw h (refl, refl);
      unchanged = unchanged r;
      no_count = no_count r;
      no_place = λ q h. rw h (way_none q texts steps (way_tells q texts steps)).1;
    }
  where
    played : (r : Reading) → AsksGood r → (way_of r texts steps).number ≡ 0 → (answer : List ℕ)
        → play_of r (take (way_of r texts steps).written (way_of r texts steps).steps) answer ≡ play_told texts answer
    played (refused x at) good h answer = absurd (let low = fault_above x in omega (arith, h))
    played (asked q) good h answer = told_played q texts steps (good q refl) (way_tells q texts steps) h answer

    unchanged : (r : Reading) → ((way_of r texts steps).number ≡ 0 → ⊥) → ((way_of r texts steps).written ≡ 0) × ((way_of r texts steps).steps ≡ steps)
    unchanged (refused x at) n = (refl, refl)
    unchanged (asked q) n = way_unchanged q texts steps (way_tells q texts steps) n

    no_count : (r : Reading) → (way_of r texts steps).count ≡ 0
    no_count (refused x at) = refl
    no_count (asked q) = (way_none q texts steps (way_tells q texts steps)).0

-- For all sheets.
pub sheet_way_promised : (sheet texts steps : List ℕ) → WayPromised (read_sheet sheet) texts steps (way sheet texts steps)
unfolding way
sheet_way_promised sheet = way_promised (read_sheet sheet) (sheet_good sheet)
