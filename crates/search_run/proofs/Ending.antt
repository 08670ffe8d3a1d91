-- The whole search, from two sides to its end: the first situation is short, and once the search is over in the lent buffer, what is
-- concluded is the end. Follows from the definitions, and from how the search over slots stands for the paper's (`Numbered`).
use Prim.Native.Nat.{ℕ}
use native.Mathlib.Omega.{arith}
use mathlib.Core.Path.{◌≡◌, ap, ◌∙◌}
use mathlib.Core.List.{List}
use lib.ListN.{length}
use Rattle.paper.specs.Numbers.{longest_side}
use Rattle.base_codes.specs.Inner.{tokens}
use Rattle.base_codes.specs.Coded.{Coded, Short}
use Rattle.search_children.specs.Children.{Tables}
use Rattle.search_trim.specs.Trimming.{question_coded}
use Rattle.search_run.specs.Ended.{run_concluded, concluded_buffer, ended_with, buffer_with, SearchOver, Concluded}
use Rattle.search_run.specs.Lent.{Lent}
use Rattle.search_run.specs.Run.{slot_search}
use Rattle.base_answers.specs.declared.Ended.{Ended}
use Rattle.base_answers.specs.declared.How.{How}
use Rattle.search_run.specs.declared.search.Run.{Run}
use Rattle.search_run.proofs.RunNumbers.{slots_numbered, found_entered}
use Rattle.search_trim.proofs.Short.{question_short}
use Rattle.base_codes.proofs.Tokens.{tokens_length, all_tokens}

-- the first situation of two sides
pub first_short : (left right : List ℕ) → length left ≡ longest_side → length right ≡ longest_side
    → Short (question_coded (tokens left) (tokens right))
first_short left right l r =
    question_short (tokens left) (tokens right) (omega (arith, tokens_length left)) (omega (arith, tokens_length right))
    (all_tokens left) (all_tokens right)

module _ (T : Tables) (room : ℕ) (k : Coded) where
  -- the search in the lent buffer is over
  abbrev pub over : {work : List ℕ} {run : Run} → Lent work run (slot_search T room k) → SearchOver work run
  over l =
      record { search = slot_search T room k; lent = l; earlier = (slots_numbered T room k).earlier; some = found_entered T room k }

  -- and what is concluded is the end, where the sets are those of the first situation
  pub ended : (sets : List ℕ) {before after : List ℕ} {how : How} (n : ℕ) → sets ≡ k.sets
      → Concluded (slot_search T room k) sets before after how → n ≡ length (slot_search T room k).slots
      → (◌≡◌ {A = Ended} (record { how = how; count = n }) (ended_with T room k before)) × (after ≡ buffer_with T room k before)
  unfolding ended_with buffer_with
  ended sets {before} n e c m =
      let how = c.answer ∙ ap (λ (m : List ℕ). run_concluded (slot_search T room k) m before) e in (
        (λ i. record { how = how i; count = m i }),
        c.buffer ∙ ap (λ (m : List ℕ). concluded_buffer (slot_search T room k) m before) e,
      )
