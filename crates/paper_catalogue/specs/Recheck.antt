-- A kept catalogue checked again (request K3): "a kept catalogue's pairs are all checked again and those not answered 1 listed, by lower, then
-- higher number". For all lists of bytes, and by any way to ask a pair.
use Rattle.std.specs.Prelude.{ℕ, suc, ◌/◌, cond, List, [], ◌∷◌, ◌++◌, ltb, eqb, length, drop}
use Rattle.paper.specs.Rule.{Rule}
use Rattle.paper.specs.Outcome.{room_of, cleared}
use Rattle.paper_catalogue.specs.PairAsking.{PairAsking, record_by, by_search}
use Rattle.paper_catalogue.specs.Catalogue.{Present, Form, no_catalogue, rules, form}

-- the pair of rule i and rule j, if it is not answered 1; the lower rule is the left side
abbrev pub pair_listed_by : PairAsking → ℕ → Rule → ℕ → Rule → ℕ → List ℕ
pair_listed_by a i r j s room = cond (eqb (a.asks r s room).answer 1) [] (record_by a i j (a.asks r s room))

-- rule i with those from number j on
abbrev pub listed_with_by : PairAsking → ℕ → Rule → ℕ → List Present → ℕ → List ℕ
listed_with_by a i r j [] room = []
listed_with_by a i r j (s ∷ l) room = pair_listed_by a i r j s.rule room ++ listed_with_by a i r (suc j) l room

-- every pair of the rules from number i on, "by lower, then higher number"
abbrev pub listed_from_by : PairAsking → ℕ → List Present → ℕ → List ℕ
listed_from_by a i [] room = []
listed_from_by a i (r ∷ l) room = listed_with_by a i r.rule (suc i) l room ++ listed_from_by a (suc i) l room

-- the working buffer: all zero once a pair was asked
abbrev pub work_after_pairs : List Present → List ℕ → List ℕ
work_after_pairs [] work = work
work_after_pairs (r ∷ []) work = work
work_after_pairs (r ∷ s ∷ l) work = cleared work

-- what checking again tells and leaves; the catalogue stays as it is
pub record Rechecked : Type 0 where
  pub number : ℕ
  pub pairs : ℕ
  pub written : ℕ
  pub list : List ℕ
  pub work : List ℕ

-- nothing is listed
abbrev pub not_listed : ℕ → List ℕ → List ℕ → Rechecked
not_listed number list work = record { number = number; pairs = 0; written = 0; list = list; work = work }

-- 35 where the list buffer is too short for all of them; then not a byte of it is changed
abbrev pub listed_in : PairAsking → List ℕ → List ℕ → List ℕ → Rechecked
listed_in a bytes list work =
    cond (ltb (length list) (length bytes)) (not_listed 35 list work)
    (record {
      number = 0;
      pairs = length bytes / a.pair_bytes;
      written = length bytes;
      list = bytes ++ drop (length bytes) list;
      work = work;
    })

-- 34 comes first
abbrev pub rechecked_of : PairAsking → Form → List ℕ → List ℕ → Rechecked
rechecked_of a no_catalogue work list = not_listed 34 list work
rechecked_of a (rules l) work list = listed_in a (listed_from_by a 0 l (room_of work)) list (work_after_pairs l work)

unfoldable pub rechecking_by : PairAsking → List ℕ → List ℕ → List ℕ → Rechecked
rechecking_by a catalogue work list = rechecked_of a (form catalogue) work list

-- Request K3's.
abbrev pub pair_bytes : ℕ
pair_bytes = by_search.pair_bytes

abbrev pub pair_record : ℕ → ℕ → ℕ → ℕ → List ℕ
pair_record lower higher answer count = record_by by_search lower higher (record { answer = answer; count = count; search = 1 })

abbrev pub listed : ℕ → Rule → ℕ → Rule → ℕ → List ℕ
listed i r j s room = pair_listed_by by_search i r j s room

abbrev pub listed_with : ℕ → Rule → ℕ → List Present → ℕ → List ℕ
listed_with i r j l room = listed_with_by by_search i r j l room

abbrev pub listed_from : ℕ → List Present → ℕ → List ℕ
listed_from i l room = listed_from_by by_search i l room

unfoldable pub rechecking : List ℕ → List ℕ → List ℕ → Rechecked
unfolding rechecking_by
rechecking catalogue work list = rechecking_by by_search catalogue work list
