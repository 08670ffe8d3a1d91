-- What checking again tells, in request K3's numbers; and what its pairs give on the way.
use Rattle.std.specs.Prelude.{ℕ, suc, ◌+◌, ◌≤◌, ◌<◌, ◌≡◌, cond, List, [], map, eqb, length, get_or, drop, Result, Ok, Err}
use Rattle.paper.specs.Outcome.{room_of}
use Rattle.paper_catalogue.specs.PairAsking.{PairAsking, record_by}
use Rattle.paper_catalogue.specs.Catalogue.{Present, work_behind}
use Rattle.paper_catalogue.specs.Calls.{rule_at}
use Rattle.paper_catalogue.specs.Recheck.{listed_with_by, listed_from_by, work_after_pairs, not_listed}
use Rattle.paper_catalogue.specs.Recheck as Recheck
use Rattle.catalogue_form.specs.Kept.{OfForm}
use Rattle.catalogue_form.specs.declared.Kept.{Kept}
use Rattle.base_codes.specs.Inner.{side_code, padded}
use Rattle.base_places.specs.WorkedOut.{worked_out}
use Rattle.read_rule.specs.RuleRead.{rule_bodies}
use Rattle.read_rule.specs.declared.Rule.{Rule}
use Rattle.catalogue_question.specs.AskedBy.{asking_coded, told_pair}
use Rattle.catalogue_question.specs.declared.Asking.{Asking}
use Rattle.catalogue_question.specs.declared.Asking.TheVariants.{Search, Decide}
use Rattle.catalogue_question.specs.declared.Pair.{Pair}
use Rattle.print_lines.specs.Writing.{Puts}
use Rattle.catalogue_recheck.specs.declared.Listed.{Listed}
use Rattle.catalogue_recheck.specs.declared.RecheckError.{RecheckError}
use Rattle.catalogue_recheck.specs.declared.RecheckError.TheVariants.{TooShort, NoCatalogue}

-- what checking again tells, with both buffers as they are afterwards
abbrev pub told_rechecked : Result Listed RecheckError → List ℕ → List ℕ → Recheck.Rechecked
told_rechecked (Ok l) list work = record { number = 0; pairs = l.pairs; written = l.written; list = list; work = work }
told_rechecked (Err TooShort) list work = not_listed 35 list work
told_rechecked (Err NoCatalogue) list work = not_listed 34 list work

-- the bytes of a pair in the list: none if it is answered 1
abbrev pub pair_bytes_of : PairAsking → ℕ → ℕ → Pair → List ℕ
pair_bytes_of a lower higher p = cond (eqb p.answer 1) [] (record_by a lower higher (told_pair p))

-- a count has two bytes, and by deciding three
abbrev pub above_count : Asking → ℕ
above_count Search = 65536
above_count Decide = 16777216

-- they are bytes, and fit behind the first n
pub record PairFits (how : Asking) (bytes : List ℕ) (n lower higher : ℕ) (p : Pair) : Type 0 where
  pub lower_byte : lower < 256
  pub higher_byte : higher < 256
  pub answer_byte : p.answer < 256
  pub count_bytes : p.count < above_count how
  pub room : n + length (pair_bytes_of (asking_coded how) lower higher p) ≤ length bytes

-- the list of a rule's pairs with those behind it
abbrev pub list_with : PairAsking → List Present → ℕ → List ℕ → List ℕ
list_with a l lower work = listed_with_by a lower (rule_at l lower) (suc lower) (drop (suc lower) l) (room_of work)

-- what is known where they are asked: the rule with the lower number was read, and the list fits behind the first n bytes
pub record ReadyToList (a : PairAsking) (catalogue : List ℕ) (kept : Kept) (lower : ℕ) (rule : Rule) (work bytes : List ℕ) (n : ℕ) : Type 0 where
  pub standing : OfForm catalogue kept
  pub there : lower < length standing.rules_present
  pub side_is : rule.side ≡ padded (side_code (rule_at standing.rules_present lower).side)
  pub fields_are : rule.fields ≡ map worked_out (rule_at standing.rules_present lower).fields.held
  pub bodies_are : rule.bodies ≡ rule_bodies (drop (get_or kept.begins lower 0) catalogue)
  pub room : n + length (list_with a standing.rules_present lower work) ≤ length bytes

-- what asking them gives
pub record WithListed (a : PairAsking) (l : List Present) (lower : ℕ) (work after bytes filled : List ℕ) (n end : ℕ) : Type 0 where
  pub puts : Puts bytes filled n end (list_with a l lower work)
  pub after_work : after ≡ work_behind (drop (suc lower) l) work

-- the bytes of the 496 pairs of 32 rules
abbrev pub longest_list : ℕ
longest_list = 3472

-- what asking every pair gives
pub record AllListed (a : PairAsking) (l : List Present) (work after bytes filled : List ℕ) (end : ℕ) : Type 0 where
  pub puts : Puts bytes filled 0 end (listed_from_by a 0 l (room_of work))
  pub after_work : after ≡ work_after_pairs l work
