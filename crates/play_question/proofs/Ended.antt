-- How playing ends, as the code goes: it stops, or it arrives and the texts are given; and the same from what is made of the question.
-- Follows from the definitions.
use Prim.Native.Nat.{ℕ}
use native.Mathlib.Omega.{arith}
use mathlib.Core.Path.{◌≡◌, refl, ap, subst, ◌∙◌}
use mathlib.Core.Bool.{Bool}
use mathlib.Core.List.{List, map}
use lib.ListN.{length}
use Rattle.paper.specs.Numbers.{longest_side}
use Rattle.base_codes.specs.Inner.{tokens}
use Rattle.base_codes.specs.Coded.{Coded, denoted, as_struct}
use Rattle.base_codes.specs.declared.Situation.{Situation}
use Rattle.base_codes.proofs.Denoted.{denoted_laid}
use Rattle.base_codes.proofs.Tokens.{tokens_length, all_tokens}
use Rattle.base_question.specs.declared.Question.{Question}
use Rattle.search_hidden.specs.Behind.{Hidden, with_hidden}
use Rattle.search_tables.specs.Tables.{follow_of, taking_of, last_of}
use Rattle.search_trim.specs.Trimming.{question_coded}
use Rattle.search_trim.proofs.Short.{question_short}
use Rattle.search_children.specs.Children.{Tables}
use Rattle.search_children.specs.Laid.{tables}
use Rattle.play_walk.specs.WalkCoded.{Ending, walked}
use Rattle.play_texts.specs.WayRecords.{way_records}
use Rattle.play_question.specs.QuestionPlayed.{End, walk_end, TextsPut, question_tables, question_first, PartOf, PlayedFrom}
use Rattle.play_question.specs.declared.PlayStop.{PlayStop}
use Rattle.std.specs.Prelude.{Ok, Err}

module _ (T : Tables) (s : Coded) (steps answer : List ℕ) where
  pub stopped_from : (why : PlayStop) → Err why ≡ walk_end (walked T s steps) → PlayedFrom T s steps answer answer (Err why)
  stopped_from why = by (walked T s steps) refl
    where
      by : (e : Ending) → walked T s steps ≡ e → Err why ≡ walk_end e → PlayedFrom T s steps answer answer (Err why)
      by (Ok done) w h = absurd cc
      by (Err y) w h = record { end = rw w h; buffer = rw w }

  pub arrived_from : (n : ℕ) → Ok n ≡ walk_end (walked T s steps) → (after : List ℕ) (r : End) → TextsPut (way_records T s steps) answer after r
      → PlayedFrom T s steps answer after r
  arrived_from n = by (walked T s steps) refl
    where
      by : (e : Ending) → walked T s steps ≡ e → Ok n ≡ walk_end e → (after : List ℕ) (r : End) → TextsPut (way_records T s steps) answer after r
          → PlayedFrom T s steps answer after r
      by (Ok done) w h after r p = record { end = p.end ∙ rw w; buffer = p.buffer ∙ rw w }
      by (Err y) w h after r p = absurd cc

-- the situation that the struct of the trimmed question holds
first_held : (left right : List ℕ) → length left ≡ longest_side → length right ≡ longest_side
    → denoted (as_struct (question_coded (tokens left) (tokens right))) ≡ question_coded (tokens left) (tokens right)
first_held left right l r =
    denoted_laid (question_coded (tokens left) (tokens right))
    (question_short (tokens left) (tokens right) (omega (arith, tokens_length left)) (omega (arith, tokens_length right)) (all_tokens left) (all_tokens right))

-- what is made of a question: its first situation and its tables
module _ (s : Question) (whole : Hidden) (follow taking : List (List ℕ)) (last : List ℕ) (first : Situation) (w : whole ≡ with_hidden s) where
  pub first_made : length whole.left ≡ longest_side → length whole.right ≡ longest_side
      → first ≡ as_struct (question_coded (tokens whole.left) (tokens whole.right)) → denoted first ≡ question_first s
  first_made l r d =
      ap denoted d ∙ first_held whole.left whole.right l r ∙ (λ i. question_coded (tokens (w i).left) (tokens (w i).right))

  pub tables_made : follow ≡ map follow_of whole.fields → taking ≡ map taking_of whole.fields → last ≡ map last_of whole.fields
      → tables whole.characters follow taking last ≡ question_tables s
  tables_made a b c =
      (λ i. tables whole.characters (a i) (b i) (c i))
      ∙ (λ i. tables (w i).characters (map follow_of (w i).fields) (map taking_of (w i).fields) (map last_of (w i).fields))

-- what is told by the tables that `play_part` makes is told by the question's own
pub part_whole : (s : Question) (whole : Hidden) (follow taking : List (List ℕ)) (last : List ℕ) (first : Situation)
    → length whole.left ≡ longest_side → length whole.right ≡ longest_side → whole ≡ with_hidden s
    → follow ≡ map follow_of whole.fields → taking ≡ map taking_of whole.fields → last ≡ map last_of whole.fields
    → first ≡ as_struct (question_coded (tokens whole.left) (tokens whole.right))
    → (wanted : Bool) (steps before after : List ℕ) (r : End)
    → PartOf wanted (tables whole.characters follow taking last) (denoted first) steps before after r
    → PartOf wanted (question_tables s) (question_first s) steps before after r
part_whole s whole follow taking last first l r w a b c d wanted steps before after x p =
    subst (λ (z : Tables). PartOf wanted z (question_first s) steps before after x) (tables_made s whole follow taking last first w a b c)
    (subst (λ (z : Coded). PartOf wanted (tables whole.characters follow taking last) z steps before after x)
    (first_made s whole follow taking last first w l r d) p)
