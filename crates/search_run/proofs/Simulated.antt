-- The search over slots is the paper's search of the question over the characters that pass a test, to its end: it ends alike, with as
-- many slots as entries, and the text spelt back from the last slot is the text of the entry found, the steps written back those of its way.
--   status_agrees : run.status ≡ status_of (how_of (searched_over among q room))
--   count_agrees  : length run.slots ≡ count_of (searched_over among q room)
--   text_agrees   : text_back n run.slots f last ≡ texts_of (acceptor_over among q) q.left q.right e f, where e is found
--   steps_agree   : steps_at run.slots last ≡ step_records e.way, where e is found
-- Holds of good questions. Follows from the children and tests agreeing (`CodedChildren`), from the law of two searches side by
-- side (`Mapped`), and from the slots standing for entries (`Numbered`).
use Prim.Native.Nat.{ℕ, zero, suc, ◌-◌, ◌≤◌, ◌<◌}
use native.Mathlib.Omega.{arith}
use mathlib.Core.Path.{◌≡◌, refl, sym, ap, ap₂, ◌∙◌}
use mathlib.Core.Bool.{Bool, true, ◌&&◌}
use mathlib.Core.List.{List, [], ◌∷◌, ◌++◌, map, reverse, Memᴰ}
use lib.ListN.{length, get_or, length-append, get_or-map}
use lib.Seq.{get_or_at}
use borrow.Author.Tests.{ne_eqb}
use Rattle.paper.specs.Numbers.{set_fields, longest_side}
use Rattle.paper.specs.Pattern.{Held, some_text, pattern}
use Rattle.paper.specs.Places.{PlaceSet}
use Rattle.paper.specs.Search.{Entry, End, found, used_up, no_room, too_long, search, entries}
use Rattle.paper.specs.Leads.{Leads}
use Rattle.paper.specs.Situation.{Situation, Move, strike_left, strike_right, put, same_situation, finished, children, question}
use Rattle.paper.specs.Way.{text_along, texts_of, search_from}
use Rattle.paper.specs.Question.{Question, held_by}
use Rattle.paper.specs.Outcome.{count_of, how_of}
use Rattle.paper.proofs.base.Listed.{get_or_mem}
use Rattle.paper_laws.proofs.sheets.Asked.{GoodHeld}
use Rattle.paper_laws.proofs.sheets.Hidden.{Searchable}
use Rattle.paper_laws.proofs.equations.Same.{situation_equal, situation_same}
use Rattle.paper_laws.proofs.places.PlaceSets.{same_equal, equal_same}
use Rattle.paper_laws.proofs.search.Searched as Searched
use Rattle.paper_laws.proofs.search.Mapped.{code_entry, code_end, Simulates, search_how, search_entries, search_count}
use Rattle.paper_chosen.specs.Chosen.{acceptor_over, searched_over}
use Rattle.base_places.proofs.Masks.{Few}
use Rattle.base_codes.specs.Inner.{side_code, move_code, left_struck, right_struck}
use Rattle.base_codes.specs.Coded.{Coded, finished_coded, same_coded}
use Rattle.search_children.specs.Children.{children_coded, given_coded}
use Rattle.search_trim.specs.Trimming.{question_coded}
use Rattle.search_children.specs.Coding.{situation_code, tables_over}
use Rattle.search_children.proofs.CodedSides.{KnownSide, known_side, same_sides, finished_sides}
use Rattle.search_children.proofs.CodedSets.{Codable, same_sets}
use Rattle.search_children.proofs.CodedChildren.{children_agree}
use Rattle.search_children.proofs.CodedQuestion.{question_agrees}
use Rattle.search_children.proofs.KeptCodable.{child_codable, question_codable}
use Rattle.search_children.proofs.Ways.{KnownMove, LastStep, way_last, way_known, text_last, given_agrees}
use Rattle.paper_steps.specs.StepRecords.{step_record, step_records}
use Rattle.search_steps.specs.WaySteps.{step_bytes}
use Rattle.search_run.specs.Run.{Running, status_of, slot_search, text_back}
use Rattle.search_run.specs.StepsEnded.{slots_steps, steps_at}
use Rattle.search_slots.specs.Slots.{slot_at}
use Rattle.search_run.proofs.RunNumbers.{entry_at, Numbered, numbered_length, numbered_at, slots_status, slots_numbered}
use Rattle.search_run.proofs.TextBack.{text_back_is}

-- the first situation of a question, from the codes of its sides
abbrev pub start : Question → Coded
start q = question_coded (side_code q.left) (side_code q.right)

abbrev PaperEntry : Type 0
PaperEntry = Entry (Situation PlaceSet) Move

abbrev coded_entry : PaperEntry → Entry Coded ℕ
coded_entry = code_entry situation_code move_code

abbrev nothing : PaperEntry
nothing = record { at = record { left = []; right = []; sets = [] }; way = [] }

status_coded : (x : End (Situation PlaceSet) Move) → status_of (code_end situation_code move_code x) ≡ status_of x
status_coded (found e) = refl
status_coded used_up = refl
status_coded no_room = refl
status_coded too_long = refl

no_moves : (way : List Move) → map move_code way ≡ [] → way ≡ []
no_moves [] e = refl
no_moves (m ∷ way) e = absurd (let z : ◌≡◌ {A = ℕ} 0 1 = cc in omega arith)

-- the record of a move, by its code
step_known : (m : Move) → KnownMove m → step_bytes (move_code m) ≡ step_record m
unfolding step_bytes
step_known strike_left h = refl
step_known strike_right h = refl
step_known (put c) h =
    rw (ne_eqb c left_struck (λ (e : c ≡ left_struck). omega arith), ne_eqb c right_struck (λ (e : c ≡ right_struck). omega arith))

few_leaves : (n : ℕ) (h : Held) → GoodHeld n h → Few h
few_leaves n some_text g = tt
few_leaves n (pattern p) g = g.1

module _ (among : ℕ → Bool) (q : Question) (good : Searchable q) where
  few : (f : ℕ) → Few (held_by q f)
  few f = few_leaves q.alphabet.characters (held_by q f) (good.held f)

  same_agrees : (s t : Situation PlaceSet) → Codable s → Codable t
      → same_coded (situation_code s) (situation_code t) ≡ same_situation (acceptor_over among q) s t
  unfolding acceptor_over
  same_agrees s t g h =
      ap₂ ◌&&◌ (same_sides s.left t.left g.left h.left)
      (ap₂ ◌&&◌ (same_sides s.right t.right g.right h.right) (same_sets s.sets t.sets g.masked h.masked))

  simulates :
      Simulates situation_code move_code
      (same_situation (acceptor_over among q)) (finished (acceptor_over among q)) (children (acceptor_over among q) longest_side)
      same_coded finished_coded (children_coded (tables_over among q)) Codable
  simulates =
      record {
        same_alike = same_agrees;
        finished_alike = λ s g. finished_sides (acceptor_over among q) s.left s.right;
        children_alike = λ s g. children_agree among q good.most few s g;
        child_good = child_codable among q few good.most;
      }

  -- the trimmed question
  abbrev first : Situation PlaceSet
  first = question (acceptor_over among q) q.left q.right

  left_known : KnownSide q.left
  left_known = known_side q.left good.left

  right_known : KnownSide q.right
  right_known = known_side q.right good.right

  first_codable : Codable first
  first_codable = question_codable among q few q.left q.right left_known right_known

  first_coded : situation_code first ≡ start q
  first_coded = question_agrees among q q.left q.right left_known right_known

  equal : (s t : Situation PlaceSet) → same_situation (acceptor_over among q) s t ≡ true → s ≡ t
  unfolding acceptor_over
  equal = situation_equal (acceptor_over among q) same_equal

  same : (s : Situation PlaceSet) → same_situation (acceptor_over among q) s s ≡ true
  unfolding acceptor_over
  same = situation_same (acceptor_over among q) equal_same

  module _ (room : ℕ) where
    abbrev the_entries : List PaperEntry
    the_entries =
        entries
        (search (same_situation (acceptor_over among q)) (finished (acceptor_over among q)) (children (acceptor_over among q) longest_side) room first)

    -- the search over slots
    abbrev pub run : Running
    run = slot_search (tables_over among q) room (start q)

    -- It ends as the paper's.
    pub status_agrees : run.status ≡ status_of (how_of (searched_over among q room))
    unfolding how_of searched_over search_from
    status_agrees =
        rw (← first_coded)
        (slots_status (tables_over among q) room (situation_code first)
        ∙ ap status_of (search_how simulates room first first_codable)
        ∙ status_coded (how_of (searched_over among q room)))

    as_many : length run.slots ≡ length the_entries
    as_many =
        rw (← first_coded)
        (numbered_length (slots_numbered (tables_over among q) room (situation_code first)) ∙ search_count simulates room first first_codable)

    -- It enters as many.
    pub count_agrees : length run.slots ≡ count_of (searched_over among q room)
    unfolding count_of searched_over search_from
    count_agrees = as_many

    -- Its slots hold the paper's entries.
    numbered : Numbered run.slots (map coded_entry the_entries)
    numbered =
        rw (← first_coded)
        (rw (search_entries simulates room first first_codable) at (slots_numbered (tables_over among q) room (situation_code first)))

    -- the paper's entry with the number i
    abbrev paper_at : ℕ → PaperEntry
    paper_at i = get_or the_entries i nothing

    coded_at : (i : ℕ) → entry_at (map coded_entry the_entries) i ≡ coded_entry (paper_at i)
    coded_at i = get_or-map coded_entry the_entries i nothing

    module _ (i : ℕ) (h : i < length run.slots) where
      at_mem : Memᴰ (paper_at i) the_entries
      at_mem = get_or_mem the_entries nothing i (omega (arith, as_many))

      at_leads : Leads (children (acceptor_over among q) longest_side) first (paper_at i).way (paper_at i).at
      at_leads = Searched.way_leads _ _ _ equal same room first (paper_at i) at_mem

      at_codable : Codable (paper_at i).at
      at_codable = Searched.every_entry _ _ _ equal same room first Codable first_codable (child_codable among q few good.most) (paper_at i) at_mem

    -- the last move on the way of a slot, and the way of its parent
    last_step : (i : ℕ) → suc i < length run.slots
        → LastStep (paper_at (suc i)).way (slot_at run.slots (suc i)).step (paper_at (slot_at run.slots (suc i)).parent).way
    last_step i h =
        let parent = (slot_at run.slots (suc i)).parent in
        let below : parent < length run.slots = omega (arith, numbered.earlier i h) in
        way_last (paper_at (suc i)).way (slot_at run.slots (suc i)).step (paper_at parent).way
        (way_known among q good.most (at_leads (suc i) h)) (way_known among q good.most (at_leads parent below))
        (rw (coded_at (suc i), coded_at parent) at (numbered.its_way i h))

    first_way : (paper_at 0).way ≡ []
    first_way = no_moves (paper_at 0).way (ap (λ (e : Entry Coded ℕ). e.way) (sym (coded_at 0)) ∙ numbered.first_way)

    -- the records of the way to a slot
    steps_back_is : (n i : ℕ) → i ≤ n → i < length run.slots → slots_steps n run.slots i ≡ step_records (paper_at i).way
    steps_back_is zero i h b =
        let z : i ≡ 0 = omega arith in sym (ap (λ (j : ℕ). step_records (paper_at j).way) z ∙ ap step_records first_way)
    steps_back_is (suc n) zero h b = sym (ap step_records first_way)
    steps_back_is (suc n) (suc i) h b =
        let parent = (slot_at run.slots (suc i)).parent in
        let e = numbered.earlier i b in
        let last = last_step i b in
        rw (steps_back_is n parent (omega arith) (omega arith))
        (ap (λ (s : List ℕ). step_records (paper_at parent).way ++ s) (ap step_bytes (sym last.code) ∙ step_known last.move last.known)
        ∙ sym (ap step_records last.is))

    module _ (f : ℕ) (b : f < set_fields) where
      -- the text of the paper's entry with the number i
      abbrev text : ℕ → List ℕ
      text i = text_along (acceptor_over among q) f first (reverse (paper_at i).way)

      text_first : text 0 ≡ []
      text_first = rw first_way

      text_grows : (i : ℕ) → suc i < length run.slots
          → text (suc i)
          ≡ text (slot_at run.slots (suc i)).parent
          ++ given_coded f (slot_at run.slots (slot_at run.slots (suc i)).parent).at (slot_at run.slots (suc i)).step
      text_grows i h =
          let parent = (slot_at run.slots (suc i)).parent in
          let below : parent < length run.slots = omega (arith, numbered.earlier i h) in
          let last = last_step i h in
          let at-parent : (slot_at run.slots parent).at ≡ situation_code (paper_at parent).at =
          numbered_at numbered parent ∙ ap (λ (e : Entry Coded ℕ). e.at) (coded_at parent) in
          ap (λ (w : List Move). text_along (acceptor_over among q) f first (reverse w)) last.is
          ∙ text_last (acceptor_over among q) f longest_side last.move (at_leads parent below)
          ∙ ap (λ (w : List ℕ). text parent ++ w)
          (sym (given_agrees among q f (paper_at parent).at last.move b (at_codable parent below) last.known)
          ∙ ap₂ (given_coded f) (sym at-parent) last.code)

    module _ (e : PaperEntry) (h : how_of (searched_over among q room) ≡ found e) where
      -- The entry found is in the last slot.
      pub found_last : (0 < length run.slots) × (paper_at (length run.slots - 1) ≡ e)
      unfolding how_of searched_over search_from
      found_last =
          let r = Searched.found_is_last _ _ _ equal same room first e h in
          let n : length run.slots ≡ suc (length r.0) = omega (arith, as_many, ap length r.1, length-append r.0 (e ∷ [])) in
          (omega arith, rw r.1 (get_or_at r.0 e [] nothing (length run.slots - 1) (omega arith)))

      -- The text spelt back from there is the text of the entry found.
      pub text_agrees : (f : ℕ) → f < set_fields → (n : ℕ) → length run.slots - 1 ≤ n
          → text_back n run.slots f (length run.slots - 1) ≡ texts_of (acceptor_over among q) q.left q.right e f
      unfolding texts_of
      text_agrees f b n m =
          text_back_is run.slots f (text f b) numbered.earlier (text_first f b) (text_grows f b) n (length run.slots - 1) m
          (omega (arith, found_last.0))
          ∙ ap (λ (x : PaperEntry). text_along (acceptor_over among q) f first (reverse x.way)) found_last.1

      -- The records of the way back from there are those of its way.
      pub steps_agree : steps_at run.slots (length run.slots - 1) ≡ step_records e.way
      steps_agree =
          steps_back_is (length run.slots - 1) (length run.slots - 1) (omega arith) (omega (arith, found_last.0))
          ∙ ap (λ (x : PaperEntry). step_records x.way) found_last.1
