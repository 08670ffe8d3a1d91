-- "Few characters. The search over some of the least ones only: for each leaf (fields rising, leaves in their order) that takes none chosen so
-- far, the least of the least ones that it takes and that stands fixed in no side, or where there is none the least that it takes; where
-- nothing is chosen, the least of all."
use Rattle.std.specs.Prelude.{ℕ, Bool, cond, ◌&&◌, not, List, [], ◌∷◌, ◌++◌, take}
use Rattle.paper.specs.Lists.{any, keep, member}
use Rattle.paper.specs.Pattern.{Held}
use Rattle.paper.specs.Question.{Question, held_by}
use Rattle.paper_decide.specs.Alike.{leaves_of, leaf_takes_it, fixed, fields_standing, least_ones}

-- the one that is chosen for a leaf
unfoldable pub leaf_choice : Question → Held → ℕ → List ℕ
leaf_choice q h i =
    take 1 (keep (λ (c : ℕ). leaf_takes_it h i c && not (fixed q c)) (least_ones q) ++ keep (leaf_takes_it h i) (least_ones q))

-- "for each leaf .. that takes none chosen so far"
unfoldable pub chosen_for : Question → Held → List ℕ → ℕ → List ℕ
chosen_for q h chosen i = cond (any (leaf_takes_it h i) chosen) chosen (chosen ++ leaf_choice q h i)

abbrev pub chosen_in : Question → Held → List ℕ → List ℕ → List ℕ
chosen_in q h chosen [] = chosen
chosen_in q h chosen (i ∷ leaves) = chosen_in q h (chosen_for q h chosen i) leaves

abbrev pub chosen_by : Question → List ℕ → List ℕ → List ℕ
chosen_by q chosen [] = chosen
chosen_by q chosen (f ∷ fs) = chosen_by q (chosen_in q (held_by q f) chosen (leaves_of (held_by q f))) fs

-- "where nothing is chosen, the least of all"
abbrev pub some_chosen : Question → List ℕ → List ℕ
some_chosen q [] = take 1 (least_ones q)
some_chosen q (c ∷ chosen) = c ∷ chosen

unfoldable pub few : Question → List ℕ
few q = some_chosen q (chosen_by q [] (fields_standing q))

unfoldable pub is_few : Question → ℕ → Bool
is_few q c = member c (few q)
