-- What checking again comes to, by what was read and listed on the way. Follows from the definition of `rechecking_by` by the tests that it makes.
use Prim.Native.Nat.{ℕ, ◌+◌, ◌*◌, ◌/◌, ◌≤◌, ◌<◌}
use native.Mathlib.Nat.{zero-add}
use native.Mathlib.Omega.{arith}
use mathlib.Core.Path.{◌≡◌, ap, ◌∙◌}
use mathlib.Core.List.{List}
use lib.Dec.{lit≤}
use lib.ListN.{length, take, drop}
use lib.Seq.{take_at}
use Rattle.paper.specs.Outcome.{room_of}
use Rattle.paper_catalogue.specs.Catalogue.{Present, no_catalogue, rules, form, with_record}
use Rattle.paper_catalogue.specs.PairAsking.{PairAsking}
use Rattle.paper_catalogue.specs.Recheck.{listed_from_by, not_listed, rechecking_by}
use Rattle.paper.proofs.base.Tests.{lt_ltb, le_ltb}
use Rattle.paper_catalogue.proofs.RightAsking.{AsksRight, search_right}
use Rattle.paper_catalogue.proofs.Rechecked.{list_at_most}
use Rattle.paper_catalogue_decide.proofs.PairDecided.{deciding_right}
use Rattle.catalogue_bytes.specs.Moving.{put_at}
use Rattle.catalogue_bytes.proofs.Within.{is_put}
use Rattle.print_lines.proofs.Putting.{puts_in_front}
use Rattle.catalogue_question.specs.AskedBy.{asking_coded}
use Rattle.catalogue_question.specs.declared.Asking.{Asking}
use Rattle.catalogue_question.specs.declared.Asking.TheVariants.{Search, Decide}
use Rattle.catalogue_recheck.specs.PairList.{told_rechecked, longest_list, AllListed}
use Rattle.catalogue_form.specs.Kept.{OfForm}
use Rattle.catalogue_form.specs.declared.Kept.{Kept}
use Rattle.std.specs.Prelude.{Ok}

pub rechecks_none : (a : PairAsking) (catalogue work list : List ℕ) → form catalogue ≡ no_catalogue → not_listed 34 list work ≡ rechecking_by a catalogue work list
unfolding rechecking_by
rechecks_none a catalogue work list e = rw e

-- either way to ask is right, so the list of a catalogue has at most the bytes of 496 pairs
right : (how : Asking) → AsksRight (asking_coded how)
right Search = search_right
right Decide = deciding_right

most_bytes : (how : Asking) → (asking_coded how).pair_bytes * 496 ≤ longest_list
most_bytes Search = lit≤ tt
most_bytes Decide = lit≤ tt

pub list_short : (how : Asking) (room : ℕ) (catalogue : List ℕ) {l : List Present} → form catalogue ≡ rules l
    → length (listed_from_by (asking_coded how) 0 l room) ≤ longest_list
list_short how room catalogue e = omega (arith, most_bytes how, list_at_most (asking_coded how) room (right how) catalogue e)

module _ (how : Asking) {catalogue : List ℕ} {kept : Kept} (x : OfForm catalogue kept) {work after before bytes : List ℕ} {n : ℕ}
    (a : AllListed (asking_coded how) x.rules_present work after before bytes n) where
  abbrev all : List ℕ
  all = listed_from_by (asking_coded how) 0 x.rules_present (room_of work)

  its_length : n ≡ length all
  its_length = a.puts.behind ∙ zero-add (length all)

  pub rechecks_too_short : (list : List ℕ) → length list < n → not_listed 35 list after ≡ rechecking_by (asking_coded how) catalogue work list
  unfolding rechecking_by
  rechecks_too_short list h = rw (x.of_form, lt_ltb (length list) (length all) (omega (arith, its_length)), a.after_work)

  -- from a buffer that has room for the longest list
  module _ (room : length before ≡ longest_list) where
    pub list_fits : n ≤ longest_list
    list_fits = omega (arith, its_length, list_short how (room_of work) catalogue x.of_form)

    front_is : take n bytes ≡ all
    front_is =
        ap (take n) (puts_in_front a.puts (omega (arith, room, list_fits, its_length)))
        ∙ take_at all (drop (length all) before) n (omega (arith, its_length))

    pub rechecks_listed : (list : List ℕ) → n ≤ length list → (part filled : List ℕ) → part ≡ take n bytes → filled ≡ put_at 0 part list
        → told_rechecked (Ok (record { pairs = n / (asking_coded how).pair_bytes; written = n })) filled after ≡ rechecking_by (asking_coded how) catalogue work list
    unfolding rechecking_by
    rechecks_listed list h part filled p f =
        let fits : 0 + length all ≤ length list = omega (arith, its_length) in
        let filled_is : filled ≡ with_record 0 all list = f ∙ ap (λ (s : List ℕ). put_at 0 s list) (p ∙ front_is) ∙ is_put 0 all list fits in
        rw (x.of_form, le_ltb (length list) (length all) (omega (arith, its_length)), filled_is, a.after_work, its_length, zero-add (length all))
