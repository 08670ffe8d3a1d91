-- The way of texts on a question tells what the paper's tells of it:
--   way_agrees : told_end r after ≡ way_read q steps (read_texts q texts)
-- for the struct of a good question, wherever its patterns stand. Follows from the records (`TextsFound`), from the spaces of the hidden fields and from
-- spelling (`SpellAgrees` of way_walk).
use Prim.Native.Nat.{ℕ}
use mathlib.Core.Path.{◌≡◌, refl, sym, ap, ap₂, ◌∙◌, subst}
use mathlib.Core.List.{List, []}
use lib.Dec.{leb}
use lib.ListN.{length}
use Rattle.paper.specs.Equation.{Texts}
use Rattle.paper.specs.Question.{Question, hidden}
use Rattle.paper.specs.Outcome.{standing}
use Rattle.paper.proofs.base.Tests.{by_bool}
use Rattle.paper_laws.proofs.sheets.Asked.{GoodQuestion, good_most}
use Rattle.paper_laws.proofs.sheets.Hidden.{Searchable, hidden_searchable, standing_hidden}
use Rattle.paper_steps.specs.Player.{Played, stopped, arrived}
use Rattle.paper_way.specs.TextRecords.{texts_read, read_texts}
use Rattle.paper_way.specs.TextSteps.{spaced, spelled, spell_from}
use Rattle.paper_way.specs.WayOutcome.{way_told, way_ended, way_read}
use Rattle.paper_way.proofs.SpelledOut.{opened}
use Rattle.paper_steps.specs.Player as Player
use Rattle.base_codes.specs.Inner.{side_code, tokens}
use Rattle.base_codes.specs.Coded.{Coded}
use Rattle.base_question.specs.Asked.{question_of}
use Rattle.base_question.specs.declared.Body.{Body}
use Rattle.base_question.specs.declared.Question as Code
use Rattle.base_question.proofs.SidesBack.{side_back}
use Rattle.search_children.specs.Children.{Tables}
use Rattle.search_children.specs.Coding.{tables_of}
use Rattle.search_records.specs.Records.{fields_with_sets}
use Rattle.std.specs.Prelude.{Option, None, Some, Ok}
use Rattle.play_walk.proofs.WalkAgrees.{first_coded}
use Rattle.play_question.specs.QuestionPlayed.{question_tables, question_first}
use Rattle.play_question.proofs.PlayAgrees.{standing_marked, tables_are, first_is}
use Rattle.way_records.specs.Spans.{text_at, Within, label_coded, with_missing, SpansFound, TextsFound}
use Rattle.way_records.specs.declared.Spans.{Spans}
use Rattle.way_walk.specs.SpellCoded.{Spelling, spelled_coded}
use Rattle.way_walk.proofs.SpellAgrees.{SpellTells, arrives, stops, spelled_told}
use Rattle.way_question.specs.WaySpelt.{End, end_by, buffer_by, WaySpelt, SpeltBy, WayOn, told_end}
use Rattle.way_question.proofs.SpacedCoded.{missing_within, spaced_agrees}

-- 51 before 0, in both
fits_told : (bytes steps : List ℕ)
    → told_end (end_by (Ok tt) bytes steps) (buffer_by (Ok tt) bytes steps) ≡ way_told bytes steps
unfolding way_told
fits_told bytes steps = by_bool (leb (length bytes) (length steps)) (λ e. rw e) (λ e. rw e)

module _ (q : Question) (g : GoodQuestion q) (texts steps : List ℕ) where
  abbrev good : Searchable (hidden q)
  good = hidden_searchable q g

  abbrev x : ℕ
  x = q.alphabet.space

  -- what spelling tells
  told_by : {y : Spelling} {p : Played} → SpellTells (hidden q) good [] y p
      → told_end (end_by y.ending y.bytes steps) (buffer_by y.ending y.bytes steps) ≡ way_ended steps p
  told_by (stops why) = refl
  told_by (arrives d {bytes = b} e) = fits_told b steps ∙ ap (λ (l : List ℕ). way_told l steps) (sym e)

  -- the fields whose records are read are those that stand
  fields_are : fields_with_sets (first_coded (hidden q)).sets ≡ standing q
  fields_are = standing_marked (hidden q) good ∙ standing_hidden q

  module _ (s : Spans) (left right : List ℕ) (f : SpansFound q.alphabet.characters (standing q) texts left right s)
      (is-left : left ≡ side_code q.left) (is_right : right ≡ side_code q.right) where
    abbrev own_texts : Texts
    own_texts = text_at x texts s.ends f.own

    read_as : read_texts q texts ≡ texts_read own_texts
    unfolding read_texts
    read_as = sym (f.texts x)

    left_is : s.left ≡ with_missing f.own (label_coded f.own (side_code q.left)) (label_coded f.own (side_code q.right))
    left_is = f.spaced ∙ ap₂ (λ (l : List ℕ) (r : List ℕ). with_missing f.own (label_coded f.own l) (label_coded f.own r)) is-left is_right

    texts_are : spaced q own_texts ≡ text_at x texts s.ends s.left
    texts_are = spaced_agrees q g texts s.ends f.own f.within ∙ ap (text_at x texts s.ends) (sym left_is)

    in_bytes : Within texts s.ends s.left
    in_bytes =
        subst (Within texts s.ends) (sym left_is)
        (missing_within x texts s.ends f.own f.within (label_coded f.own (side_code q.left)) (label_coded f.own (side_code q.right)))

    spelling : SpellTells (hidden q) good [] (spelled_coded (tables_of (hidden q)) x texts s.ends (first_coded (hidden q)) s.left) (spelled q own_texts)
    spelling =
        spelled_told (hidden q) good x texts s.ends s.left in_bytes (spelled q own_texts)
        (λ k e. opened q own_texts k e ∙ ap (spell_from (hidden q) k (Player.first_entry (hidden q))) texts_are)

    read_told : (after : List ℕ) (r : End)
        → WaySpelt (spelled_coded (tables_of (hidden q)) x texts s.ends (first_coded (hidden q)) s.left) steps after r
        → told_end r after ≡ way_read q steps (read_texts q texts)
    read_told after r w = rw (w.end, w.buffer, read_as) (told_by spelling)

  -- the struct of the question
  module _ (bodies : List Body) where
    pub way_agrees : (k : Code.Question) → k ≡ question_of q bodies → (after : List ℕ) (r : End) → WayOn k texts steps after r
        → told_end r after ≡ way_read q steps (read_texts q texts)
    unfolding read_texts
    way_agrees k is after r w = by w.spans its_texts its_spelling
      where
        first_of : question_first k ≡ first_coded (hidden q)
        first_of = ap question_first is ∙ first_is q g texts steps bodies

        tables_of_it : question_tables k ≡ tables_of (hidden q)
        tables_of_it = ap question_tables is ∙ tables_are q g texts steps bodies

        its_texts : TextsFound q.alphabet.characters (standing q) texts (tokens k.left) (tokens k.right) w.spans
        its_texts =
            subst (λ (fs : List ℕ). TextsFound q.alphabet.characters fs texts (tokens k.left) (tokens k.right) w.spans)
            (ap (λ (c : Coded). fields_with_sets c.sets) first_of ∙ fields_are)
            (subst (λ (n : ℕ). TextsFound n (fields_with_sets (question_first k).sets) texts (tokens k.left) (tokens k.right) w.spans)
            (ap (λ (c : Code.Question). c.alphabet.characters) is) w.found)

        its_spelling : SpeltBy (λ (p : Spans). spelled_coded (tables_of (hidden q)) x texts p.ends (first_coded (hidden q)) p.left) steps after r w.spans
        its_spelling =
            subst (λ (n : ℕ). SpeltBy (λ (p : Spans). spelled_coded (tables_of (hidden q)) n texts p.ends (first_coded (hidden q)) p.left) steps after r w.spans)
            (ap (λ (c : Code.Question). c.alphabet.space) is)
            (subst (λ (t : Tables). SpeltBy (λ (p : Spans). spelled_coded t k.alphabet.space texts p.ends (first_coded (hidden q)) p.left) steps after r w.spans) tables_of_it
            (subst (λ (c : Coded). SpeltBy (λ (p : Spans). spelled_coded (question_tables k) k.alphabet.space texts p.ends c p.left) steps after r w.spans) first_of
            w.spelt))

        -- by whether there are records of the texts
        by : (spans : Option Spans) → TextsFound q.alphabet.characters (standing q) texts (tokens k.left) (tokens k.right) spans
            → SpeltBy (λ (p : Spans). spelled_coded (tables_of (hidden q)) x texts p.ends (first_coded (hidden q)) p.left) steps after r spans
            → told_end r after ≡ way_read q steps (read_texts q texts)
        by None f u = rw (u.end, u.buffer, ← f)
        by (Some s) f u =
            read_told s (tokens k.left) (tokens k.right) f
            (ap (λ (c : Code.Question). tokens c.left) is ∙ side_back q.alphabet.characters (good_most g) q.left g.left)
            (ap (λ (c : Code.Question). tokens c.right) is ∙ side_back q.alphabet.characters (good_most g) q.right g.right)
            after r u
