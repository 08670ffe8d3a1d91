-- The bytes of a pair: none where it is answered 1, else five, or seven by deciding. Follows from the test that the definition makes.
use Prim.Native.Nat.{ℕ, suc, ◌+◌, ◌/◌, ◌%◌, ◌≤◌}
use native.Mathlib.Omega.{arith}
use mathlib.Core.Path.{◌≡◌, refl, ap}
use mathlib.Core.Bool.{true, false}
use mathlib.Core.List.{List}
use lib.Dec.{eqb, lit≤}
use lib.ListN.{length, set}
use Rattle.paper_catalogue.specs.PairAsking.{PairAsking, record_by, by_search}
use Rattle.paper_catalogue_decide.specs.DecidedPairs.{by_deciding}
use Rattle.catalogue_question.specs.AskedBy.{asking_coded, told_pair}
use Rattle.catalogue_question.specs.declared.Asking.{Asking}
use Rattle.catalogue_question.specs.declared.Asking.TheVariants.{Search, Decide}
use Rattle.catalogue_question.specs.declared.Pair.{Pair}
use Rattle.print_lines.specs.Writing.{Puts}
use Rattle.print_lines.proofs.Putting.{puts_none}
use Rattle.catalogue_recheck.specs.PairList.{pair_bytes_of}

pub five_at_least : (how : Asking) → 5 ≤ (asking_coded how).pair_bytes
five_at_least Search = lit≤ tt
five_at_least Decide = lit≤ tt

module _ (lower higher : ℕ) (p : Pair) where
  pub its_record : (a : PairAsking) → eqb p.answer 1 ≡ false → pair_bytes_of a lower higher p ≡ record_by a lower higher (told_pair p)
  its_record a d = rw d

  pub its_length : (how : Asking) → eqb p.answer 1 ≡ false → length (pair_bytes_of (asking_coded how) lower higher p) ≡ (asking_coded how).pair_bytes
  its_length Search d = ap length (its_record by_search d)
  its_length Decide d = ap length (its_record by_deciding d)

  -- put behind the first n
  pub puts_no_bytes : (a : PairAsking) (bytes : List ℕ) (n : ℕ) → eqb p.answer 1 ≡ true → Puts bytes bytes n n (pair_bytes_of a lower higher p)
  puts_no_bytes a bytes n e = rw e puts_none

  module _ (bytes : List ℕ) (n : ℕ) (d : eqb p.answer 1 ≡ false) where
    -- the first four
    abbrev front : List ℕ
    front = set (set (set (set bytes n lower) (n + 1) higher) (n + 2) p.answer) (n + 3) (p.count % 256)

    one : n + 1 ≡ suc n
    one = omega arith

    two : n + 2 ≡ suc (suc n)
    two = omega arith

    three : n + 3 ≡ suc (suc (suc n))
    three = omega arith

    four : n + 4 ≡ suc (suc (suc (suc n)))
    four = omega arith

    pub puts_five_bytes : Puts bytes (set front (n + 4) (p.count / 256)) n (n + 5) (pair_bytes_of by_search lower higher p)
    puts_five_bytes = rw (its_record by_search d) (record { bytes = rw (one, two, three, four); behind = refl })

    pub puts_seven_bytes : Puts bytes (set (set (set front (n + 4) (p.count / 256 % 256)) (n + 5) (p.count / 65536)) (n + 6) p.search) n (n + 7)
        (pair_bytes_of by_deciding lower higher p)
    puts_seven_bytes =
        let five : n + 5 ≡ suc (suc (suc (suc (suc n)))) = omega arith in
        let six : n + 6 ≡ suc (suc (suc (suc (suc (suc n))))) = omega arith in
        rw (its_record by_deciding d) (record { bytes = rw (one, two, three, four, five, six); behind = refl })
