-- Over every character the tables need no cut, whatever is asked:
--   ended_uncut, buffer_uncut : a search by the uncut tables ends as one by the tables that are cut to every character, with the same buffer
-- Follows from `ended_same` and `buffer_same`: a row that is cut to every character has the same masks below the number of characters.
use Prim.Native.Nat.{ℕ, ◌<◌}
use native.Mathlib.Omega.{arith}
use lib.Bits.{bit_and}
use mathlib.Core.Path.{◌≡◌, ap}
use mathlib.Core.Bool.{Bool, false, cond, ◌&&◌}
use mathlib.Core.List.{List, [], ◌++◌, map}
use lib.Dec.{ltb, leb}
use lib.ListN.{get_or}
use Rattle.paper.specs.Lists.{upto}
use Rattle.paper.specs.Numbers.{most_characters, set_fields}
use Rattle.paper.specs.Search.{Child}
use Rattle.paper.proofs.base.Listed.{each_same}
use Rattle.paper.proofs.base.Lists.{mem_upto}
use Rattle.paper.proofs.base.Tests.{cond_by, leb_true, leb_false, lt_ltb}
use Rattle.paper_chosen.specs.Chosen.{every}
use Rattle.base_places.specs.Masks.{within, followers_of}
use Rattle.base_codes.specs.Coded.{Coded}
use Rattle.base_codes.specs.Inner.{left_struck, right_struck, field_of, front}
use Rattle.base_question.specs.declared.Question.{Question}
use Rattle.search_fronts.specs.Fronts.{Front, row_number, front_from, set_by}
use Rattle.search_hidden.specs.Behind.{with_hidden}
use Rattle.search_tables.specs.Cut.{listed_by, cut_row, cut_coded}
use Rattle.search_tables.specs.Tables.{follow_of, taking_of}
use Rattle.search_tables.proofs.Listed.{get_or_listed}
use Rattle.search_children.specs.Children.{left_strike, right_strike, put_of, as_child, children_coded}
use Rattle.search_children.proofs.CodedSets.{row_known}
use Rattle.search_run.specs.Ended.{room_for}
use Rattle.search_run.proofs.SameTables.{ended_same, buffer_same}
use Rattle.search_question.specs.Over.{tables_among, first_of, ended_over, buffer_over, tables_all, ended_all, buffer_all}

-- a character of a table is one of the alphabet, and there is room for it
within_both : (n c : ℕ) → c < within n → (c < n) × (c < most_characters)
unfolding within
within_both n c =
    cond_by (λ (m : ℕ). c < m → (c < n) × (c < most_characters)) (leb n most_characters)
    (λ t h. (h, omega (arith, leb_true n most_characters t)))
    (λ f h. (omega (arith, leb_false n most_characters f), h))

module _ (s : Question) where
  abbrev rows : List (List ℕ)
  rows = map taking_of (with_hidden s).fields

  abbrev marks : List Bool
  marks = listed_by every most_characters

  abbrev characters : ℕ
  characters = s.alphabet.characters

  row_uncut : (f c : ℕ) → f < set_fields → c < within characters → get_or (get_or rows f []) c 0 ≡ get_or (get_or (cut_coded characters rows marks) f []) c 0
  unfolding cut_coded cut_row
  row_uncut f c h k =
      let both = within_both characters c k in
      rw (
        get_or_listed (λ (g : ℕ). cut_row characters marks (get_or rows g [])) set_fields [] f h,
        get_or_listed (λ (d : ℕ). cond (ltb d characters && get_or marks d false) (get_or (get_or rows f []) d 0) 0) most_characters 0 c both.1,
        lt_ltb c characters both.0,
        get_or_listed every most_characters false c both.1,
      )

  module _ (k : Coded) where
    abbrev uncut_front : ℕ → Front
    uncut_front b = front_from (tables_all s).follow (tables_all s).taking k.sets b

    abbrev cut_front : ℕ → Front
    cut_front b = front_from (tables_among marks s).follow (tables_among marks s).taking k.sets b

    set_uncut : (b c : ℕ) → c < within characters → set_by (uncut_front b) c ≡ set_by (cut_front b) c
    unfolding front_from row_number
    set_uncut b c h =
        ap (bit_and (followers_of (get_or (map follow_of (with_hidden s).fields) (field_of b) []) (get_or k.sets (field_of b) 0)))
        (row_uncut (row_number b) c (row_known b) h)

    put_uncut : (a b c : ℕ) → c < within characters → put_of k (uncut_front a) (uncut_front b) c ≡ put_of k (cut_front a) (cut_front b) c
    unfolding put_of front_from
    put_uncut a b c h = rw (set_uncut a c h, set_uncut b c h)

  children_uncut : (k : Coded) → children_coded (tables_all s) k ≡ children_coded (tables_among marks s) k
  unfolding children_coded
  children_uncut k =
      let left = as_child left_struck (left_strike (tables_all s).last k) in
      let right = as_child right_struck (right_strike (tables_all s).last k) in
      ap (λ (puts : List (Child Coded ℕ)). left ++ (right ++ puts))
      (each_same _ _ (upto (within characters))
      (λ c d. ap (as_child c) (put_uncut k (front k.left) (front k.right) c (mem_upto (within characters) d))))

  pub ended_uncut : (bytes : ℕ) (answer : List ℕ) → ended_all s bytes answer ≡ ended_over marks s bytes answer
  unfolding ended_all ended_over
  ended_uncut bytes answer = ended_same (tables_all s) (tables_among marks s) children_uncut (room_for bytes) (first_of s) answer

  pub buffer_uncut : (bytes : ℕ) (answer : List ℕ) → buffer_all s bytes answer ≡ buffer_over marks s bytes answer
  unfolding buffer_all buffer_over
  buffer_uncut bytes answer = buffer_same (tables_all s) (tables_among marks s) children_uncut (room_for bytes) (first_of s) answer
