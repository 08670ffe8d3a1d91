-- The acceptor of a question decides which texts its fields may hold: every theorem about questions over an acceptor with these laws
-- holds of the place sets. Follows from `PlacesDecide` and `PlaceSets`, field by field.
use Prim.Native.Nat.{ℕ}
use mathlib.Core.Path.{◌≡◌, refl}
use mathlib.Core.List.{List, [], ◌∷◌}
use Rattle.paper.specs.Pattern.{Holds}
use Rattle.paper.specs.Places.{PlaceSet, first_set, set_after, set_along}
use Rattle.paper.specs.Decides as Any
use Rattle.paper.specs.Question.{Question, held_by, acceptor}
use Rattle.paper_laws.proofs.places.PlacesDecide.{only_held, all_held}
use Rattle.paper_laws.proofs.places.PlaceSets.{empty_ends, empty_after, same_equal, equal_same}

pub along_same : (q : Question) (f : ℕ) (s : PlaceSet) (w : List ℕ) → Any.accepted_along (acceptor q) f s w ≡ set_along (held_by q f) s w
unfolding acceptor
along_same q f s [] = refl
along_same q f s (c ∷ w) = along_same q f (set_after (held_by q f) s c) w

pub question_decides : (q : Question) → Any.Decides (acceptor q) (λ (f : ℕ). Holds (held_by q f))
unfolding acceptor
question_decides q =
    record {
      only_held = λ f w b o e. only_held (held_by q f) w (rw (along_same q f first_set w) at e);
      all_held = λ f w b o k. rw (along_same q f first_set w) (all_held (held_by q f) w k);
      empty_ends = λ f. empty_ends (held_by q f);
      empty_after = λ f. empty_after (held_by q f);
      gone_empty = refl;
      same_equal = same_equal;
      equal_same = equal_same;
    }
