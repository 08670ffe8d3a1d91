-- The way of texts on a question, from what is made of it: its first situation, its tables and the records of the texts.
-- Follows from the definitions.
use Prim.Native.Nat.{ℕ}
use mathlib.Core.Path.{◌≡◌, ap, subst}
use mathlib.Core.List.{List, map}
use lib.ListN.{length}
use Rattle.paper.specs.Numbers.{longest_side}
use Rattle.base_codes.specs.Inner.{tokens}
use Rattle.base_codes.specs.Coded.{Coded, denoted, as_struct}
use Rattle.base_codes.specs.declared.Situation.{Situation}
use Rattle.base_question.specs.declared.Question.{Question}
use Rattle.search_hidden.specs.Behind.{Hidden, with_hidden}
use Rattle.search_tables.specs.Tables.{follow_of, taking_of, last_of}
use Rattle.search_trim.specs.Trimming.{question_coded}
use Rattle.search_children.specs.Children.{Tables}
use Rattle.search_records.specs.Records.{fields_with_sets}
use Rattle.search_children.specs.Laid.{tables}
use Rattle.play_question.specs.QuestionPlayed.{question_first}
use Rattle.play_question.proofs.Ended.{first_made, tables_made}
use Rattle.way_records.specs.Spans.{TextsFound}
use Rattle.way_records.specs.declared.Spans.{Spans}
use Rattle.way_walk.specs.SpellCoded.{spelled_coded}
use Rattle.std.specs.Prelude.{Option}
use Rattle.way_question.specs.WaySpelt.{End, SpeltBy, WayOn}

pub way_made : (s : Question) (whole : Hidden) (follow taking : List (List ℕ)) (last : List ℕ) (first : Situation)
    → length whole.left ≡ longest_side → length whole.right ≡ longest_side → whole ≡ with_hidden s
    → follow ≡ map follow_of whole.fields → taking ≡ map taking_of whole.fields → last ≡ map last_of whole.fields
    → first ≡ as_struct (question_coded (tokens whole.left) (tokens whole.right))
    → (texts before : List ℕ) {after : List ℕ} {e : End} (spans : Option Spans)
    → TextsFound whole.characters (fields_with_sets first.sets) texts (tokens s.left) (tokens s.right) spans
    → SpeltBy (λ (p : Spans). spelled_coded (tables whole.characters follow taking last) s.alphabet.space texts p.ends (denoted first) p.left) before after e spans
    → WayOn s texts before after e
way_made s whole follow taking last first l r w a b c d texts before {after} {e} spans found spelt =
    let first_is = first_made s whole follow taking last first w l r d in
    record {
      spans = spans;
      found =
          subst (λ (n : ℕ). TextsFound n (fields_with_sets (question_first s).sets) texts (tokens s.left) (tokens s.right) spans)
          (ap (λ (h : Hidden). h.characters) w)
          (subst (λ (k : Coded). TextsFound whole.characters (fields_with_sets k.sets) texts (tokens s.left) (tokens s.right) spans) first_is found);
      spelt =
          subst (λ (t : Tables). SpeltBy (λ (p : Spans). spelled_coded t s.alphabet.space texts p.ends (question_first s) p.left) before after e spans)
          (tables_made s whole follow taking last first w a b c)
          (subst
          (λ (k : Coded).
          SpeltBy (λ (p : Spans). spelled_coded (tables whole.characters follow taking last) s.alphabet.space texts p.ends k p.left) before after e spans)
          first_is spelt);
    }
