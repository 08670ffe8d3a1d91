-- Spelling by inner codes is the paper's spelling:
--   spelled_told : where it ends, by its number; and where it arrives, the records are those of the way
-- For a searchable question, and texts that stand in the bytes. Follows from one step (`StepAgrees` of play_step) and from the texts (`TextsCoded`), by
-- induction on how many steps may still come.
use Prim.Native.Nat.{ℕ, zero, suc, ◌≤◌}
use native.Mathlib.Omega.{arith}
use mathlib.Core.Path.{◌≡◌, refl, sym, ap, ◌∙◌, subst}
use mathlib.Core.List.{List, [], ◌∷◌, ◌++◌, append_assoc, append-nil}
use Rattle.paper.specs.Numbers.{most_characters}
use Rattle.paper.specs.Pattern.{Held, some_text, pattern}
use Rattle.paper.specs.Places.{PlaceSet}
use Rattle.paper.specs.Search.{Entry}
use Rattle.paper.specs.Equation.{Texts}
use Rattle.paper.specs.Situation.{Situation, Move, strike_left, strike_right, put, finished, question}
use Rattle.paper.specs.Question.{Question, held_by, acceptor}
use Rattle.paper.proofs.base.Tests.{by_bool, neq_eqb}
use Rattle.paper_laws.proofs.sheets.Asked.{GoodHeld}
use Rattle.paper_laws.proofs.sheets.Hidden.{Searchable}
use Rattle.paper_chosen.specs.Chosen.{every}
use Rattle.paper_steps.specs.StepRecords.{IsStep, step_record, step_records}
use Rattle.paper_steps.specs.Player.{most_steps, Made, not_allowed, long_side, made, step_made, Played, stopped, arrived, made_on, first_entry}
use Rattle.paper_steps.proofs.StepChildren.{step_told, told_none, child_steps}
use Rattle.paper_way.specs.TextSteps.{Next, next_step, texts_behind, next_on, spell_from}
use Rattle.base_places.proofs.Masks.{Few}
use Rattle.base_codes.specs.Inner.{left_struck, right_struck, move_code}
use Rattle.base_codes.specs.Coded.{Coded, finished_coded}
use Rattle.search_children.specs.Children.{Tables}
use Rattle.search_children.specs.Children as Children
use Rattle.search_children.specs.Coding.{situation_code, tables_of}
use Rattle.search_children.proofs.CodedSides.{known_side, finished_sides}
use Rattle.search_children.proofs.CodedSets.{Codable}
use Rattle.search_children.proofs.CodedQuestion.{question_agrees}
use Rattle.search_children.proofs.KeptCodable.{question_codable}
use Rattle.play_step.specs.StepCoded.{step_coded, settled_as}
use Rattle.play_step.proofs.StepShort.{put_none, step_put}
use Rattle.play_step.proofs.StepAgrees.{over_every, step_agrees, step_codable}
use Rattle.play_walk.specs.WalkCoded.{stop_number}
use Rattle.play_walk.specs.declared.Stop.{Stop}
use Rattle.play_walk.specs.declared.Stop.TheVariants.{PastMost, NotAllowed, SideTooLong}
use Rattle.std.specs.Prelude.{Ok, Err}
use Rattle.play_walk.proofs.WalkAgrees.{first_coded}
use Rattle.way_records.specs.Spans.{text_at, Within}
use Rattle.way_step.specs.NextCoded.{no_step_code, next_code, left_behind}
use Rattle.way_walk.specs.SpellCoded.{code_bytes, Spelling, spells_on, spell_coded, spelled_coded}
use Rattle.way_walk.proofs.TextsCoded.{Agrees, same_step, no_put, none, next_agrees, behind_agrees, behind_within}

-- the record of a step, by its code
code_record : (n : ℕ) → n ≤ most_characters → (m : Move) → IsStep n m → code_bytes (move_code m) ≡ step_record m
unfolding code_bytes
code_record n most strike_left i = refl
code_record n most strike_right i = refl
code_record n most (put c) i = rw (neq_eqb c left_struck (λ (e : c ≡ left_struck). omega arith), neq_eqb c right_struck (λ (e : c ≡ right_struck). omega arith))

-- no step is never made
no_step_dropped : (T : Tables) (s : Coded) → step_coded T s no_step_code ≡ Children.dropped
no_step_dropped T s =
    step_put T s no_step_code (λ (e : no_step_code ≡ left_struck). omega arith) (λ (e : no_step_code ≡ right_struck). omega arith)
    ∙ put_none T.follow T.taking s no_step_code (omega arith)

few_leaves : (n : ℕ) (h : Held) → GoodHeld n h → Few h
few_leaves n some_text g = tt
few_leaves n (pattern p) g = g.1

module _ (q : Question) (good : Searchable q) where
  few : (f : ℕ) → Few (held_by q f)
  few f = few_leaves q.alphabet.characters (held_by q f) (good.held f)

  abbrev T : Tables
  T = tables_of q

  abbrev n : ℕ
  n = q.alphabet.characters

  characters_are : T.characters ≡ n
  unfolding tables_of
  characters_are = refl

  abbrev At : Type 0
  At = Entry (Situation PlaceSet) Move

  abbrev behind : At → Move → Situation PlaceSet → At
  behind e m t = record { at = t; way = m ∷ e.way }

  -- What spelling by inner codes tells of the paper's, from an entry on.
  pub data SpellTells (before : List ℕ) : Spelling → Played → Type 0 where
    arrives : (d : At) {bytes : List ℕ} → step_records d.way ≡ before ++ bytes → SpellTells before (record { ending = Ok tt; bytes = bytes }) (arrived d)
    stops : (why : Stop) {bytes : List ℕ} → SpellTells before (record { ending = Err why; bytes = bytes }) (stopped (stop_number why))

  -- one record more in front
  one_more : (before its : List ℕ) {y : Spelling} {p : Played} → SpellTells (before ++ its) y p
      → SpellTells before (record { ending = y.ending; bytes = its ++ y.bytes }) p
  one_more before its (arrives d {bytes = b} e) = arrives d (e ∙ append_assoc before its b)
  one_more before its (stops why) = stops why

  -- a character that is none is not put
  not_put : (s : Situation PlaceSet) (c : ℕ) → n ≤ c → step_made q s (put c) ≡ not_allowed
  not_put s c h = told_none q (step_told q s (put c)) (λ t k. let i = child_steps q k in omega arith)

  finished_agrees : (s : Situation PlaceSet) → finished_coded (situation_code s) ≡ finished (acceptor q) s
  finished_agrees s = finished_sides (acceptor q) s.left s.right

  module _ (x : ℕ) (bytes ends : List ℕ) where
    abbrev coded : ℕ → Situation PlaceSet → List ℕ → Spelling
    coded k s left = spell_coded T x bytes ends k (situation_code s) left

    abbrev on_paper : ℕ → At → List ℕ → Played
    on_paper k e left = spell_from q k e (text_at x bytes ends left)

    -- what is known of one step less
    abbrev GoesOn : ℕ → Type 0
    GoesOn k = (e : At) (left : List ℕ) → Codable e.at → Within bytes ends left → SpellTells (step_records e.way) (coded k e.at left) (on_paper k e left)

    module _ (k : ℕ) (on : GoesOn k) (e : At) (left : List ℕ) (c : Codable e.at) (w : Within bytes ends left) where
      abbrev go_on : Move → At → List ℕ → Played
      go_on m b later = spell_from q k b (texts_behind (text_at x bytes ends left) e.at m)

      made_told : (m : Move) → IsStep n m → (y : Made) → step_made q e.at m ≡ y
          → SpellTells (step_records e.way)
          (spells_on (code_bytes (move_code m)) (λ (t : Coded). spell_coded T x bytes ends k t (left_behind left (situation_code e.at) (move_code m))) (settled_as y))
          (made_on (go_on m) e m [] y)
      made_told m i not_allowed h = stops NotAllowed
      made_told m i long_side h = stops SideTooLong
      made_told m i (made t) h =
          let after = left_behind left (situation_code e.at) (move_code m) in
          let it = on (behind e m t) after (step_codable q good.most few e.at c m t h) (behind_within x bytes ends left w e.at c n good.most m i) in
          one_more (step_records e.way) (code_bytes (move_code m))
          (subst (λ (l : List ℕ). SpellTells (step_records e.way ++ l) (coded k t after) (go_on m (behind e m t) [])) (sym (code_record n good.most m i))
          (subst (λ (u : Texts). SpellTells (step_records e.way ++ step_record m) (coded k t after) (spell_from q k (behind e m t) u))
          (sym (behind_agrees x bytes ends left w e.at c n good.most m i)) it))

      next_told : {y : Next} {step : ℕ} → Agrees n y step
          → SpellTells (step_records e.way)
          (spells_on (code_bytes step) (λ (t : Coded). spell_coded T x bytes ends k t (left_behind left (situation_code e.at) step)) (step_coded T (situation_code e.at) step))
          (next_on (λ (d : At) (m : Move). made_on (go_on m) d m [] (step_made q d.at m)) e y)
      next_told (same_step m i) =
          rw (step_agrees q good.most few e.at c m i) (made_told m i (step_made q e.at m) refl)
      next_told (no_put a h) = rw (no_step_dropped T (situation_code e.at), not_put e.at a h) (stops NotAllowed)
      next_told none = rw (no_step_dropped T (situation_code e.at)) (stops NotAllowed)

      its_next : Agrees n (next_step (text_at x bytes ends left) e.at.left e.at.right) (next_code x bytes ends left T.characters (situation_code e.at))
      its_next =
          subst (λ (i : ℕ). Agrees n (next_step (text_at x bytes ends left) e.at.left e.at.right) (next_code x bytes ends left i (situation_code e.at)))
          (sym characters_are) (next_agrees x bytes ends left w n good.most e.at c)

    told_from : (k : ℕ) → GoesOn k
    told_from zero e left c w =
        rw (finished_agrees e.at)
        (by_bool (finished (acceptor q) e.at) (λ b. rw b (arrives e (sym (append-nil (step_records e.way))))) (λ b. rw b (stops PastMost)))
    told_from (suc k) e left c w =
        rw (finished_agrees e.at)
        (by_bool (finished (acceptor q) e.at) (λ b. rw b (arrives e (sym (append-nil (step_records e.way))))) (λ b. rw b (next_told k (told_from k) e left c w (its_next k (told_from k) e left c w))))

    first_is : situation_code (question (acceptor q) q.left q.right) ≡ first_coded q
    first_is = rw (over_every q) at (question_agrees every q q.left q.right (known_side q.left good.left) (known_side q.right good.right))

    first_codable : Codable (question (acceptor q) q.left q.right)
    first_codable =
        rw (over_every q) at (question_codable every q few q.left q.right (known_side q.left good.left) (known_side q.right good.right))

    first_told : (k : ℕ) (left : List ℕ) → Within bytes ends left
        → SpellTells [] (spell_coded T x bytes ends k (first_coded q) left) (spell_from q k (first_entry q) (text_at x bytes ends left))
    first_told k left w =
        subst (λ (s : Coded). SpellTells [] (spell_coded T x bytes ends k s left) (spell_from q k (first_entry q) (text_at x bytes ends left)))
        first_is (told_from k (first_entry q) left first_codable w)

    opened : (k : ℕ) → k ≡ most_steps → (s : Coded) (left : List ℕ) → spelled_coded T x bytes ends s left ≡ spell_coded T x bytes ends k s left
    unfolding spelled_coded
    opened k e s left = ap (λ (i : ℕ). spell_coded T x bytes ends i s left) (sym e)

    -- All of it.
    pub spelled_told : (left : List ℕ) → Within bytes ends left → (p : Played) → ((k : ℕ) → k ≡ most_steps → p ≡ spell_from q k (first_entry q) (text_at x bytes ends left))
        → SpellTells [] (spelled_coded T x bytes ends (first_coded q) left) p
    spelled_told left w p h = by most_steps refl
      where
        by : (k : ℕ) → k ≡ most_steps → SpellTells [] (spelled_coded T x bytes ends (first_coded q) left) p
        by k e = subst (λ (y : Spelling). SpellTells [] y p) (sym (opened k e (first_coded q) left)) (subst (SpellTells [] (spell_coded T x bytes ends k (first_coded q) left)) (sym (h k e)) (first_told k left w))
