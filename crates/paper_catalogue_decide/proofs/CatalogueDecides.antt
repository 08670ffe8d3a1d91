-- A catalogue that decides, for any bytes and any buffers.
--   apart_either      : after any calls of adding, of either kind, and withdrawing, from an empty catalogue of any length, no label can be made by two
--                       of its rules
--   decided_exactly   : a rule is entered by deciding exactly if it passes the checks and each pair is decided 1
--   first_not_decided : 30 tells the first rule whose pair is not, with its answer, 0, 18 or 19, its count and its search
--   entered_too       : what request K1's adding enters, deciding enters with the same bytes
--   none_listed_apart : a catalogue of which checking again by deciding lists no pair is apart, wherever it is from
--   decided_rechecks  : with 0, the records written are exactly those of the pairs not decided 1, in at most 3,472 bytes
--   listed_too        : it lists no pair that request K3's checking doesn't list
-- Each is the catalogue's law, over any right way to ask a pair, at the one by deciding.
use Prim.Native.Nat.{ℕ, ◌≤◌}
use mathlib.Core.Path.{◌≡◌, ap}
use mathlib.Core.List.{List, Memᴰ}
use lib.ListN.{length, take}
use Rattle.paper_catalogue.specs.PairAsking.{by_search}
use Rattle.paper_catalogue.specs.Catalogue.{Present, rules, form, AddedBy, adding}
use Rattle.paper_catalogue.specs.Recheck.{listed_from_by, rechecking}
use Rattle.paper_catalogue.specs.Calls.{Call, after_calls, empty_catalogue, Apart}
use Rattle.paper_catalogue.proofs.RightAsking.{AsksRight, search_right}
use Rattle.paper_catalogue.proofs.Adding.{Enters, entered_exactly, Reports, first_reported, refused_same, entered_likewise}
use Rattle.paper_catalogue.proofs.Apart.{apart_after}
use Rattle.paper_catalogue.proofs.Rechecked.{rechecked_apart, records_written, Rechecks, rechecks, list_at_most, listed_likewise}
use Rattle.paper_catalogue_decide.specs.DecidedPairs.{by_deciding, adding_decided, rechecking_decided, AddingKind, searching, deciding, asking_of}
use Rattle.paper_catalogue_decide.proofs.PairDecided.{deciding_right, searched_decided}

kind_right : (k : AddingKind) → AsksRight (asking_of k)
kind_right searching = search_right
kind_right deciding = deciding_right

-- "after any calls of adding (either kind, any bytes, any working buffers) and withdrawing, in any order, from an empty catalogue of any length, no
-- label can be made by two of its rules"
pub apart_either : (n : ℕ) (calls : List (Call AddingKind)) → Apart (after_calls asking_of (empty_catalogue n) calls)
apart_either = apart_after asking_of kind_right

module _ (c bytes work : List ℕ) where
  -- "A rule is entered by `add_decided` exactly if it passes the checks and each pair is decided 1"
  pub decided_exactly :
      ((adding_decided c bytes work).added.number ≡ 0 → Enters by_deciding c bytes work)
      × (Enters by_deciding c bytes work → (adding_decided c bytes work).added.number ≡ 0)
  unfolding adding_decided
  decided_exactly = entered_exactly by_deciding c bytes work

  pub first_not_decided : (adding_decided c bytes work).added.number ≡ 30 → Reports by_deciding c bytes work (adding_decided c bytes work)
  unfolding adding_decided
  first_not_decided = first_reported by_deciding c bytes work deciding_right

  -- A refusal changes no byte of the catalogue.
  pub not_decided_same : ((adding_decided c bytes work).added.number ≡ 0 → ⊥) → (adding_decided c bytes work).added.catalogue ≡ c
  unfolding adding_decided
  not_decided_same = refused_same by_deciding c bytes work

  -- "what `add` enters, `add_decided` with the same catalogue, rule and working buffer enters with the same bytes"
  pub entered_too : (adding c bytes work).number ≡ 0 → (adding_decided c bytes work).added ≡ adding c bytes work
  unfolding adding adding_decided
  entered_too z = ap (λ (o : AddedBy). o.added) (entered_likewise by_search by_deciding searched_decided c bytes work z)

module _ (catalogue work list : List ℕ) where
  -- "A catalogue of which `recheck_decided` lists no pair is apart, wherever it is from"
  pub none_listed_apart : (rechecking_decided catalogue work list).number ≡ 0 → (rechecking_decided catalogue work list).written ≡ 0 → Apart catalogue
  unfolding rechecking_decided
  none_listed_apart = rechecked_apart by_deciding deciding_right work catalogue list

  pub decided_rechecks : (rechecking_decided catalogue work list).number ≡ 0
      → Rechecks by_deciding catalogue work list (rechecking_decided catalogue work list)
  unfolding rechecking_decided
  decided_rechecks = rechecks by_deciding deciding_right catalogue work list

  -- "with the same buffers, lists long enough, it lists no pair that `recheck` doesn't list"
  pub listed_too : (other : List ℕ) → (rechecking catalogue work other).number ≡ 0 → (rechecking_decided catalogue work list).number ≡ 0
      → (x : List ℕ) → Memᴰ x (records_written by_deciding (rechecking_decided catalogue work list))
      → (y : List ℕ) × Memᴰ y (records_written by_search (rechecking catalogue work other)) × (take 2 y ≡ take 2 x)
  unfolding rechecking rechecking_decided
  listed_too other z w = listed_likewise by_search by_deciding searched_decided search_right deciding_right catalogue work other list z w

-- "3,472 bytes are always enough"
pub decided_list_short : (room : ℕ) (catalogue : List ℕ) {l : List Present} → form catalogue ≡ rules l
    → length (listed_from_by by_deciding 0 l room) ≤ 3472
decided_list_short room catalogue {l} e = list_at_most by_deciding room deciding_right catalogue e
