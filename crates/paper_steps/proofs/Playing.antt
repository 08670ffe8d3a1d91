-- Playing, record by record: it ends at the finish of an accepted way, or at the first refusal.
--   play_told : which of the two it is, for all bytes (`Accepted`, `Stops` of specs/PlayPromised)
--   plays_way : along a way the player comes to the way's entry; so an accepted way is played to its end (`plays_accepted`), and every refusal
--               comes where it is said to come (`plays_stops`)
-- Follows from the reading of one record and from the making of one step.
use Prim.Native.Nat.{ℕ, zero, suc, ◌+◌, ◌-◌, ◌<◌, ◌≤◌}
use native.Mathlib.Omega.{arith}
use mathlib.Core.Path.{◌≡◌, refl, sym, ap, ◌∙◌}
use mathlib.Core.List.{List, [], ◌∷◌, ◌++◌, append_assoc, append-nil, Memᴰ}
use lib.ListN.{length}
use Rattle.paper.specs.Numbers.{longest_side}
use Rattle.paper.specs.Places.{PlaceSet}
use Rattle.paper.specs.Search.{Entry, child}
use Rattle.paper.specs.Leads.{start, step}
use Rattle.paper.specs.Situation.{Situation, Move, strike_left, strike_right, put, finished, children}
use Rattle.paper.specs.Question.{Question, hidden, acceptor}
use Rattle.paper.proofs.base.Tests.{never, cond_by, lt_ltb}
use Rattle.paper_laws.proofs.equations.Children.{child_of}
use Rattle.paper_steps.specs.StepRecords.{step_record, step_records, IsStep, Front, no_record, front, front_of}
use Rattle.paper_steps.specs.Player.{most_steps, Made, step_made, Played, stopped, arrived, ended, made_on, front_on, play_from, first_entry}
use Rattle.paper_steps.specs.PlayPromised.{WayTo, Begins, Accepted, Stops, past_most, is_no_record, makes_no_child, makes_long, ends_early}
use Rattle.paper_steps.proofs.RecordsRead.{front_record, FrontSays, front_says}
use Rattle.paper_steps.proofs.StepChildren.{StepTold, no_child, long_child, its_child, step_told, told_child, told_long, told_none, child_steps}

module _ (q : Question) where
  abbrev n : ℕ
  n = q.alphabet.characters

  abbrev At : Type 0
  At = Entry (Situation PlaceSet) Move

  -- the entry behind a move
  abbrev behind : At → Move → Situation PlaceSet → At
  behind e m t = record { at = t; way = m ∷ e.way }

  begins_on : {bytes later : List ℕ} (e : At) (m : Move) (t : Situation PlaceSet) → Begins q bytes e (step_record m ++ later)
      → Memᴰ (child m t) (children (acceptor (hidden q)) longest_side e.at) → Begins q bytes (behind e m t) later
  begins_on {later = later} e m t b d =
      record { said = b.said ∙ sym (append_assoc (step_records e.way) (step_record m) later); leads = step b.leads d }

  -- Every play ends in one of these.
  pub data PlayTold (bytes : List ℕ) : Played → Type 0 where
    is_accepted : {e : At} → Accepted q bytes e → PlayTold bytes (arrived e)
    is_stopped : {k : ℕ} → Stops q bytes k → PlayTold bytes (stopped k)

  module _ (bytes : List ℕ) where
    ended_told : (e : At) → Begins q bytes e [] → length e.way ≤ most_steps → PlayTold bytes (ended (hidden q) e)
    ended_told e b few =
        cond_by (PlayTold bytes) (finished (acceptor (hidden q)) e.at)
        (λ h. is_accepted (record { said = b.said ∙ append-nil (step_records e.way); few = few; leads = b.leads; at_finish = h }))
        (λ h. is_stopped (ends_early e b few h))

    made_told : (go_on : At → List ℕ → Played) (e : At) (m : Move) (later : List ℕ) {x : Made} → StepTold (hidden q) e.at m x
        → Begins q bytes e (step_record m ++ later) → length e.way < most_steps → IsStep n m
        → ((t : Situation PlaceSet) → Begins q bytes (behind e m t) later → PlayTold bytes (go_on (behind e m t) later))
        → PlayTold bytes (made_on go_on e m later x)
    made_told go_on e m later (no_child c) b few i on = is_stopped (makes_no_child e m later b few i c)
    made_told go_on e m later (long_child {t = t} c l) b few i on = is_stopped (makes_long e m later t b few c l)
    made_told go_on e m later (its_child {t = t} d) b few i on = on t (begins_on e m t b d)

    front_told : (go_on : At → List ℕ → Played) (e : At) (rest : List ℕ) (x : Front) → front_of n rest ≡ x → FrontSays n rest x
        → Begins q bytes e rest → length e.way < most_steps → (rest ≡ [] → ⊥)
        → ((m : Move) (t : Situation PlaceSet) (later : List ℕ) → Begins q bytes (behind e m t) later → PlayTold bytes (go_on (behind e m t) later))
        → PlayTold bytes (front_on (hidden q) go_on e x)
    front_told go_on e rest no_record k says b few some on =
        is_stopped (is_no_record e rest b few some (λ m later i h. never (let same = front_record n m later i in let none = rw h at k in cc)))
    front_told go_on e rest (front m later) k says b few some on =
        made_told go_on e m later (step_told (hidden q) e.at m) (rw says.1 at b) few says.0 (λ t. on m t later)

    told_from : (left : ℕ) (e : At) (rest : List ℕ) → Begins q bytes e rest → length e.way + left ≡ most_steps
        → PlayTold bytes (play_from (hidden q) left e rest)
    told_from zero e [] b l = ended_told e b (omega arith)
    told_from zero e (x ∷ rest) b l = is_stopped (past_most e (x ∷ rest) b (omega arith) (λ h. never (cc)))
    told_from (suc left) e [] b l = ended_told e b (omega arith)
    told_from (suc left) e (x ∷ rest) b l =
        front_told (λ (f : At) (later : List ℕ). play_from (hidden q) left f later) e (x ∷ rest) (front_of n (x ∷ rest)) refl (front_says n (x ∷ rest))
        b (omega arith) (λ h. never (cc)) (λ m t later c. told_from left (behind e m t) later c (omega arith))

    pub play_told : PlayTold bytes (play_from (hidden q) most_steps (first_entry (hidden q)) bytes)
    play_told = told_from most_steps (first_entry (hidden q)) bytes (record { said = refl; leads = start }) refl

  -- one record with its step in front
  plays_record : (left : ℕ) (e : At) (m : Move) (later : List ℕ) → IsStep n m
      → play_from (hidden q) (suc left) e (step_record m ++ later)
      ≡ made_on (λ (f : At) (rest : List ℕ). play_from (hidden q) left f rest) e m later (step_made (hidden q) e.at m)
  plays_record left e strike_left later i = refl
  plays_record left e strike_right later i = refl
  plays_record left e (put c) later i = rw (lt_ltb c n i)

  -- Along a way the player comes to its entry, whatever stands behind the way's records.
  plays_way : (left : ℕ) {way : List Move} {t : Situation PlaceSet} (rest : List ℕ) → WayTo q (record { at = t; way = way }) → length way + left ≡ most_steps
      → play_from (hidden q) most_steps (first_entry (hidden q)) (step_records way ++ rest) ≡ play_from (hidden q) left (record { at = t; way = way }) rest
  plays_way left rest start l =
      let all : most_steps ≡ left = omega (arith, l) in ap (λ (k : ℕ). play_from (hidden q) k (first_entry (hidden q)) rest) all
  plays_way left rest (step {way = way} {t = s} {u = t} {m = m} w d) l =
      let go_on : At → List ℕ → Played = λ (f : At) (later : List ℕ). play_from (hidden q) left f later in
      let e : At = record { at = s; way = way } in
      ap (play_from (hidden q) most_steps (first_entry (hidden q))) (append_assoc (step_records way) (step_record m) rest)
      ∙ plays_way (suc left) (step_record m ++ rest) w (omega arith)
      ∙ plays_record left e m rest (child_steps (hidden q) (child_of (acceptor (hidden q)) longest_side s d))
      ∙ ap (made_on go_on e m rest) (told_child (hidden q) (step_told (hidden q) s m) d)

  -- no byte left, a byte past the most records, a byte that begins no record
  plays_end : (left : ℕ) (e : At) → play_from (hidden q) left e [] ≡ ended (hidden q) e
  plays_end zero e = refl
  plays_end (suc left) e = refl

  plays_past : (e : At) (rest : List ℕ) → (rest ≡ [] → ⊥) → play_from (hidden q) zero e rest ≡ stopped 50
  plays_past e [] some = absurd (some refl)
  plays_past e (x ∷ rest) some = refl

  no_front : (rest : List ℕ) → ((m : Move) (later : List ℕ) → IsStep n m → rest ≡ step_record m ++ later → ⊥) → front_of n rest ≡ no_record
  no_front rest none = by (front_of n rest) (front_says n rest)
    where
      by : (x : Front) → FrontSays n rest x → x ≡ no_record
      by no_record says = refl
      by (front m later) says = absurd (none m later says.0 says.1)

  plays_none : (left : ℕ) (e : At) (rest : List ℕ) → (rest ≡ [] → ⊥)
      → ((m : Move) (later : List ℕ) → IsStep n m → rest ≡ step_record m ++ later → ⊥) → play_from (hidden q) (suc left) e rest ≡ stopped 47
  plays_none left e [] some none = absurd (some refl)
  plays_none left e (x ∷ rest) some none =
      ap (front_on (hidden q) (λ (f : At) (later : List ℕ). play_from (hidden q) left f later) e) (no_front (x ∷ rest) none)

  module _ (bytes : List ℕ) where
    abbrev the_play : Played
    the_play = play_from (hidden q) most_steps (first_entry (hidden q)) bytes

    comes_to : (left : ℕ) (e : At) (rest : List ℕ) → Begins q bytes e rest → length e.way + left ≡ most_steps
        → the_play ≡ play_from (hidden q) left e rest
    comes_to left e rest b l = ap (play_from (hidden q) most_steps (first_entry (hidden q))) b.said ∙ plays_way left rest b.leads l

    -- the next record has a step in front
    comes_to_step : (e : At) (m : Move) (later : List ℕ) {x : Made} → Begins q bytes e (step_record m ++ later) → length e.way < most_steps → IsStep n m
        → step_made (hidden q) e.at m ≡ x → (k : ℕ) → ((go_on : At → List ℕ → Played) → made_on go_on e m later x ≡ stopped k)
        → the_play ≡ stopped k
    comes_to_step e m later b few i told k stop =
        let left = most_steps - suc (length e.way) in
        let go_on : At → List ℕ → Played = λ (f : At) (rest : List ℕ). play_from (hidden q) left f rest in
        comes_to (suc left) e (step_record m ++ later) b (omega arith)
        ∙ plays_record left e m later i
        ∙ ap (made_on go_on e m later) told
        ∙ stop go_on

    -- Every refusal comes where it is said to come.
    pub plays_stops : {k : ℕ} → Stops q bytes k → the_play ≡ stopped k
    plays_stops (past_most e rest b l some) = comes_to 0 e rest b (omega arith) ∙ plays_past e rest some
    plays_stops (is_no_record e rest b few some none) =
        let left = most_steps - suc (length e.way) in comes_to (suc left) e rest b (omega arith) ∙ plays_none left e rest some none
    plays_stops (makes_no_child e m later b few i none) =
        comes_to_step e m later b few i (told_none (hidden q) (step_told (hidden q) e.at m) none) 48 (λ go_on. refl)
    plays_stops (makes_long e m later t b few c l) =
        comes_to_step e m later b few (child_steps (hidden q) c) (told_long (hidden q) (step_told (hidden q) e.at m) c l) 19 (λ go_on. refl)
    plays_stops (ends_early e b few h) =
        let left = most_steps - length e.way in comes_to left e [] b (omega arith) ∙ plays_end left e ∙ rw h

    -- An accepted way is played to its end.
    pub plays_accepted : (e : At) → Accepted q bytes e → the_play ≡ arrived e
    plays_accepted e a =
        let left = most_steps - length e.way in
        let few = a.few in
        comes_to left e [] (record { said = a.said ∙ sym (append-nil (step_records e.way)); leads = a.leads }) (omega arith)
        ∙ plays_end left e
        ∙ rw a.at_finish
