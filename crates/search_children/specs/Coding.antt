-- How the code's situations stand for the paper's: a token is its inner code, a place set its mask; and the tables of a question's
-- fields, over all characters or over some alone. proofs/ shows that the children and the tests go over.
use Rattle.std.specs.Prelude.{ℕ, Bool, cond, ◌&&◌, ltb, List, map}
use Rattle.paper.specs.Lists.{upto}
use Rattle.paper.specs.Numbers.{most_characters, set_fields}
use Rattle.paper.specs.Pattern.{Held}
use Rattle.paper.specs.Places.{PlaceSet}
use Rattle.paper.specs.Situation.{Situation}
use Rattle.paper.specs.Question.{Question, held_by}
use Rattle.base_places.specs.Masks.{mask, table, follow_masks, taking_mask, taking_masks, last_mask}
use Rattle.base_codes.specs.Inner.{side_code}
use Rattle.base_codes.specs.Coded.{Coded}
use Rattle.search_children.specs.Children.{Tables}

abbrev pub situation_code : Situation PlaceSet → Coded
situation_code s =
    record { left = side_code s.left; right = side_code s.right; sets = map mask s.sets }

-- what is worked out once of a question's fields
unfoldable pub tables_of : Question → Tables
tables_of q =
    record {
      characters = q.alphabet.characters;
      follow = map (λ (f : ℕ). follow_masks (held_by q f)) (upto set_fields);
      taking = map (λ (f : ℕ). taking_masks (held_by q f)) (upto set_fields);
      last = map (λ (f : ℕ). last_mask (held_by q f)) (upto set_fields);
    }

-- for every one of n characters that passes the test, the set of places that take it; no place takes another
unfoldable pub taking_over : ℕ → (ℕ → Bool) → Held → List ℕ
taking_over n among h = table (λ (c : ℕ). cond (ltb c n && among c) (taking_mask h c) 0) most_characters

-- the tables of a question over the characters that pass the test
unfoldable pub tables_over : (ℕ → Bool) → Question → Tables
tables_over among q =
    record {
      characters = q.alphabet.characters;
      follow = map (λ (f : ℕ). follow_masks (held_by q f)) (upto set_fields);
      taking = map (λ (f : ℕ). taking_over q.alphabet.characters among (held_by q f)) (upto set_fields);
      last = map (λ (f : ℕ). last_mask (held_by q f)) (upto set_fields);
    }
