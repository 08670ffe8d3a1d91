-- Playing by inner codes is the paper's playing, from an entry that the way so far leads to:
--   walk_told  : where it ends, by its number; and where it arrives, what the records put before each field is the text that the way spells
--   text_short : a text has no more characters than there are steps
-- For a searchable question. Follows from one step (`StepAgrees`), by induction on how many records may still come.
use Prim.Native.Nat.{ℕ, zero, suc, ◌+◌, ◌≤◌, ◌<◌}
use native.Mathlib.Omega.{arith}
use mathlib.Core.Path.{◌≡◌, refl, sym, ap, ◌∙◌, subst}
use mathlib.Core.Bool.{Bool, true, false, ◌&&◌, ◌||◌}
use mathlib.Core.List.{List, [], ◌∷◌, ◌++◌, append-nil, append_assoc, reverse, Memᴰ}
use Rattle.std.specs.Prelude.{Ok, Err}
use lib.Dec.{ltb, eqb}
use lib.ListN.{length, length-append}
use Rattle.paper.specs.Lists.{only}
use Rattle.paper.specs.Numbers.{most_characters, set_fields, longest_side}
use Rattle.paper.specs.Pattern.{Held, some_text, pattern}
use Rattle.paper.specs.Places.{PlaceSet}
use Rattle.paper.specs.Search.{Entry, child}
use Rattle.paper.specs.Leads.{Leads, start, step}
use Rattle.paper.specs.Situation.{Situation, Move, strike_left, strike_right, put, finished, children, question}
use Rattle.paper.specs.Way.{given, text_along}
use Rattle.paper.specs.Question.{Question, held_by, acceptor}
use Rattle.paper.proofs.base.Tests.{by_bool}
use Rattle.paper_laws.proofs.sheets.Asked.{GoodHeld}
use Rattle.paper_laws.proofs.sheets.Hidden.{Searchable}
use Rattle.paper_chosen.specs.Chosen.{every}
use Rattle.paper_steps.specs.StepRecords.{IsStep, Front, no_record, front, front_of}
use Rattle.paper_steps.specs.Player.{most_steps, Made, not_allowed, long_side, made, step_made, Played, stopped, arrived, ended, made_on, front_on, play_from, first_entry}
use Rattle.paper_steps.proofs.RecordsRead.{FrontSays, front_says}
use Rattle.paper_steps.proofs.StepChildren.{StepTold, no_child, long_child, its_child, step_told}
use Rattle.base_places.proofs.Masks.{Few}
use Rattle.base_codes.specs.Inner as Inner
use Rattle.base_codes.specs.Inner.{field_code, side_code, move_code}
use Rattle.base_codes.specs.Coded.{Coded, finished_coded}
use Rattle.search_trim.specs.Trimming.{question_coded}
use Rattle.search_children.specs.Children.{Tables, Settled, given_coded}
use Rattle.search_children.specs.Children as Children
use Rattle.search_children.specs.Coding.{situation_code, tables_of}
use Rattle.search_children.proofs.CodedSides.{known_side, finished_sides}
use Rattle.search_children.proofs.CodedSets.{Codable}
use Rattle.search_children.proofs.CodedQuestion.{question_agrees}
use Rattle.search_children.proofs.KeptCodable.{question_codable}
use Rattle.search_children.proofs.Ways.{KnownMove, text_last, given_agrees}
use Rattle.play_step.specs.StepCoded.{step_coded, settled_as}
use Rattle.play_step.proofs.StepAgrees.{over_every, step_agrees, step_codable}
use Rattle.play_walk.specs.WalkCoded.{Ending, stop_number, ended_coded, walk_on, walk_front, walk_from, walked, text_on, text_front, text_from, text_walked}
use Rattle.play_walk.specs.declared.Stop.{Stop}
use Rattle.play_walk.specs.declared.Stop.TheVariants.{PastMost, NoRecord, NotAllowed, SideTooLong, Unfinished}

-- A text has no more characters than there are steps.
length_only : (b : Bool) (x : ℕ) → length (only b x) ≤ 1
length_only true x = omega arith
length_only false x = omega arith

given_short : (f : ℕ) (s : Coded) (c : ℕ) → length (given_coded f s c) ≤ 1
unfolding given_coded
given_short f s c = length_only (ltb c most_characters && (eqb (Inner.front s.left) (field_code + f) || eqb (Inner.front s.right) (field_code + f))) c

module _ (T : Tables) (f : ℕ) where
  on_short : (n : ℕ) (given : List ℕ) (go_on : Coded → List ℕ) (x : Settled) → length given ≤ 1 → ((t : Coded) → length (go_on t) ≤ n)
      → length (text_on given go_on x) ≤ suc n
  on_short n given go_on Children.dropped h k = omega arith
  on_short n given go_on Children.above h k = omega arith
  on_short n given go_on (Children.made t) h k = rw length-append (omega (arith, k t))

  front_short : (n : ℕ) (go_on : Coded → List ℕ → List ℕ) (s : Coded) (x : Front) → ((t : Coded) (later : List ℕ) → length (go_on t later) ≤ n)
      → length (text_front T f go_on s x) ≤ suc n
  front_short n go_on s no_record k = omega arith
  front_short n go_on s (front m later) k =
      on_short n (given_coded f s (move_code m)) (λ (t : Coded). go_on t later) (step_coded T s (move_code m)) (given_short f s (move_code m)) (λ t. k t later)

  from_short : (left : ℕ) (s : Coded) (bytes : List ℕ) → length (text_from T f left s bytes) ≤ left
  from_short zero s bytes = omega arith
  from_short (suc left) s bytes = front_short left (text_from T f left) s (front_of T.characters bytes) (from_short left)

  pub text_short : (s : Coded) (bytes : List ℕ) → length (text_walked T f s bytes) ≤ most_steps
  unfolding text_walked
  text_short s bytes = from_short most_steps s bytes

-- the first situation of a question, from the codes of its sides
abbrev pub first_coded : Question → Coded
first_coded q = question_coded (side_code q.left) (side_code q.right)

module _ (n : ℕ) where
  few_leaves : (h : Held) → GoodHeld n h → Few h
  few_leaves some_text g = tt
  few_leaves (pattern p) g = g.1

  known_step : (m : Move) → n ≤ most_characters → IsStep n m → KnownMove m
  known_step strike_left most h = tt
  known_step strike_right most h = tt
  known_step (put c) most h = omega arith

module _ (q : Question) (good : Searchable q) where
  few : (f : ℕ) → Few (held_by q f)
  few f = few_leaves q.alphabet.characters (held_by q f) (good.held f)

  abbrev T : Tables
  T = tables_of q

  -- the tables have the alphabet's number of characters
  characters_are : T.characters ≡ q.alphabet.characters
  unfolding tables_of
  characters_are = refl

  abbrev At : Type 0
  At = Entry (Situation PlaceSet) Move

  -- the situation that the way begins with
  abbrev begin : Situation PlaceSet
  begin = question (acceptor q) q.left q.right

  -- the text that the way of an entry spells
  abbrev spelt : ℕ → At → List ℕ
  spelt f e = text_along (acceptor q) f begin (reverse e.way)

  -- An entry that the way leads to, of a codable situation.
  record Come (e : At) : Type 0 where
    codable : Codable e.at
    leads : Leads (children (acceptor q) longest_side) begin e.way e.at

  -- What the walk by inner codes tells of the paper's: its number, and where it arrives the texts.
  pub data Tells (texts : ℕ → List ℕ) : Ending → Played → Type 0 where
    arrives : (e : At) → ((f : ℕ) → f < set_fields → spelt f e ≡ texts f) → Tells texts (Ok tt) (arrived e)
    stops : (why : Stop) → Tells texts (Err why) (stopped (stop_number why))

  tells_same : {texts : ℕ → List ℕ} {x : Ending} {y : Played} (others : ℕ → List ℕ) → ((f : ℕ) → f < set_fields → texts f ≡ others f)
      → Tells texts x y → Tells others x y
  tells_same others h (arrives e t) = arrives e (λ f k. t f k ∙ h f k)
  tells_same others h (stops why) = stops why

  -- what is put from an entry on, behind what its way spells
  abbrev texts_from : ℕ → At → List ℕ → ℕ → List ℕ
  texts_from left e bytes f = spelt f e ++ text_from T f left (situation_code e.at) bytes

  finished_agrees : (s : Situation PlaceSet) → finished_coded (situation_code s) ≡ finished (acceptor q) s
  finished_agrees s = finished_sides (acceptor q) s.left s.right

  ended_told : (e : At) (texts : ℕ → List ℕ) → ((f : ℕ) → texts f ≡ spelt f e) → Tells texts (ended_coded (situation_code e.at)) (ended q e)
  unfolding ended_coded
  ended_told e texts h =
      rw (finished_agrees e.at)
      (by_bool (finished (acceptor q) e.at) (λ b. rw b (arrives e (λ f k. sym (h f)))) (λ b. rw b (stops Unfinished)))

  abbrev behind : At → Move → Situation PlaceSet → At
  behind e m t = record { at = t; way = m ∷ e.way }

  -- a step that is made leads on
  step_child : (s : Situation PlaceSet) (m : Move) (t : Situation PlaceSet) → step_made q s m ≡ made t
      → Memᴰ (child m t) (children (acceptor q) longest_side s)
  step_child s m t e = by (step_told q s m) e
    where
      by : {x : Made} → StepTold q s m x → x ≡ made t → Memᴰ (child m t) (children (acceptor q) longest_side s)
      by (no_child n) f = absurd (let z : ◌≡◌ {A = ℕ} 0 1 = cc in omega arith)
      by (long_child c l) f = absurd (let z : ◌≡◌ {A = ℕ} 0 1 = cc in omega arith)
      by (its_child {t = u} d) f = let h : u ≡ t = cc in rw (← h) d

  come_on : (e : At) (m : Move) (t : Situation PlaceSet) → Come e → step_made q e.at m ≡ made t → Come (behind e m t)
  come_on e m t c h =
      record {
        codable = step_codable q good.most few e.at c.codable m t h;
        leads = step c.leads (step_child e.at m t h);
      }

  -- what the way spells, and what its next step gives
  spelt_on : (e : At) (m : Move) (t : Situation PlaceSet) → Come e → IsStep q.alphabet.characters m → (f : ℕ) → f < set_fields
      → spelt f (behind e m t) ≡ spelt f e ++ given_coded f (situation_code e.at) (move_code m)
  spelt_on e m t c i f k =
      text_last (acceptor q) f longest_side m c.leads
      ∙ ap (λ (l : List ℕ). spelt f e ++ l) (sym (given_agrees every q f e.at m k c.codable (known_step q.alphabet.characters m good.most i)))

  -- one step, by what making it gives
  abbrev ToldOn : ℕ → At → Move → List ℕ → Settled → Made → Type 0
  ToldOn left e m later x y =
      Tells (λ (f : ℕ). spelt f e ++ text_on (given_coded f (situation_code e.at) (move_code m)) (λ (t : Coded). text_from T f left t later) x)
      (walk_on (λ (t : Coded). walk_from T left t later) x)
      (made_on (λ (g : At) (rest : List ℕ). play_from q left g rest) e m later y)

  made_told : (left : ℕ) (e : At) (m : Move) (later : List ℕ) → Come e → IsStep q.alphabet.characters m
      → ((g : At) (rest : List ℕ) → Come g → Tells (texts_from left g rest) (walk_from T left (situation_code g.at) rest) (play_from q left g rest))
      → (x : Made) → step_made q e.at m ≡ x → ToldOn left e m later (settled_as x) x
  made_told left e m later c i on not_allowed h = stops NotAllowed
  made_told left e m later c i on long_side h = stops SideTooLong
  made_told left e m later c i on (made t) h =
      tells_same _
      (λ f k.
      let rest = text_from T f left (situation_code t) later in
      ap (λ (l : List ℕ). l ++ rest) (spelt_on e m t c i f k) ∙ append_assoc (spelt f e) (given_coded f (situation_code e.at) (move_code m)) rest)
      (on (behind e m t) later (come_on e m t c h))

  front_told : (left : ℕ) (e : At) (bytes : List ℕ) → Come e
      → ((g : At) (rest : List ℕ) → Come g → Tells (texts_from left g rest) (walk_from T left (situation_code g.at) rest) (play_from q left g rest))
      → (x : Front) → FrontSays q.alphabet.characters bytes x
      → Tells (λ (f : ℕ). spelt f e ++ text_front T f (text_from T f left) (situation_code e.at) x)
      (walk_front T (walk_from T left) (situation_code e.at) x)
      (front_on q (λ (g : At) (rest : List ℕ). play_from q left g rest) e x)
  front_told left e bytes c on no_record says = stops NoRecord
  front_told left e bytes c on (front m later) says =
      subst (λ (z : Settled). ToldOn left e m later z (step_made q e.at m))
      (sym (step_agrees q good.most few e.at c.codable m says.0))
      (made_told left e m later c says.0 on (step_made q e.at m) refl)

  told_from : (left : ℕ) (e : At) (bytes : List ℕ) → Come e
      → Tells (texts_from left e bytes) (walk_from T left (situation_code e.at) bytes) (play_from q left e bytes)
  told_from zero e [] c = ended_told e (texts_from zero e []) (λ f. append-nil (spelt f e))
  told_from zero e (b ∷ bytes) c = stops PastMost
  told_from (suc left) e [] c = ended_told e (texts_from (suc left) e []) (λ f. append-nil (spelt f e))
  told_from (suc left) e (b ∷ bytes) c =
      subst
      (λ (n : ℕ).
      Tells (λ (f : ℕ). spelt f e ++ text_front T f (text_from T f left) (situation_code e.at) (front_of n (b ∷ bytes)))
      (walk_front T (walk_from T left) (situation_code e.at) (front_of n (b ∷ bytes)))
      (play_from q (suc left) e (b ∷ bytes)))
      (sym characters_are)
      (front_told left e (b ∷ bytes) c (told_from left) (front_of q.alphabet.characters (b ∷ bytes)) (front_says q.alphabet.characters (b ∷ bytes)))

  first_is : situation_code begin ≡ first_coded q
  first_is = rw (over_every q) at (question_agrees every q q.left q.right (known_side q.left good.left) (known_side q.right good.right))

  first_come : Come (first_entry q)
  first_come =
      record {
        codable = rw (over_every q) at (question_codable every q few q.left q.right (known_side q.left good.left) (known_side q.right good.right));
        leads = start;
      }

  -- Playing all bytes.
  pub walk_told : (bytes : List ℕ) → Tells (λ (f : ℕ). text_walked T f (first_coded q) bytes) (walked T (first_coded q) bytes) (play_from q most_steps (first_entry q) bytes)
  unfolding walked text_walked
  walk_told bytes =
      subst (λ (s : Coded). Tells (λ (f : ℕ). text_from T f most_steps s bytes) (walk_from T most_steps s bytes) (play_from q most_steps (first_entry q) bytes))
      first_is (told_from most_steps (first_entry q) bytes first_come)
