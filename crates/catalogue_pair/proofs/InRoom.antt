-- A pair asked, either way, in a working buffer that has kept its length: it tells what the pair is answered in the room that was lent (`told_in_room`),
-- and its answer is a byte (`answer_byte`). The patterns of both rules stand in the bytes that are handed over. Follows from `search_tells` and
-- `decide_tells`.
use Prim.Native.Nat.{ℕ, ◌+◌, ◌-◌, ◌<◌}
use native.Mathlib.Omega.{arith}
use mathlib.Core.Path.{◌≡◌, refl, sym, ap, ◌∙◌, subst}
use mathlib.Core.Bool.{Bool}
use mathlib.Core.List.{List, []}
use lib.ListN.{length, get_or}
use Rattle.paper.specs.Numbers.{most_characters, fields, rule_fields}
use Rattle.paper.specs.Alphabet.{edition_1, edition_of}
use Rattle.paper.specs.Question.{held_by}
use Rattle.paper.specs.Rule.{Rule, pair}
use Rattle.paper.specs.Outcome.{room_of}
use Rattle.paper.proofs.base.Tests.{lt_ltb, le_ltb}
use Rattle.paper_plain.specs.Engine.{clashes_apart}
use Rattle.paper_catalogue.proofs.Pair.{held_present, held_new}
use Rattle.paper_chosen.specs.Chosen.{every}
use Rattle.base_places.specs.declared.PlaceTables.{PlaceTables}
use Rattle.base_question.specs.Bodies.{nowhere}
use Rattle.base_question.specs.declared.Body.{Body}
use Rattle.base_question.specs.declared.Question as Code
use Rattle.base_answers.proofs.FaultNumbers.{pair_below}
use Rattle.search_tables.specs.Cut.{listed_by}
use Rattle.search_tables.proofs.Listed.{get_or_listed}
use Rattle.plain_question.specs.Reached.{Meets, Says}
use Rattle.plain_question.proofs.Standings.{clash_said}
use Rattle.read_fields.proofs.PatternsStanding.{AllStand}
use Rattle.decide_letters.proofs.Standing.{says_standing}
use Rattle.search_question.specs.Over.{ended_over}
use Rattle.decide_question.specs.Settling.{settled_coded}
use Rattle.decide_question.proofs.SettledTold.{Written}
use Rattle.catalogue_question.specs.PairCoded.{body_of, pair_bodies, pair_question}
use Rattle.catalogue_question.specs.AskedBy.{asking_coded, told_pair}
use Rattle.catalogue_question.specs.declared.Asking.{Asking}
use Rattle.catalogue_question.specs.declared.Asking.TheVariants.{Search, Decide}
use Rattle.catalogue_question.specs.declared.Pair.{Pair}
use Rattle.catalogue_question.proofs.PairAsked.{CodeOf, pair_good, pair_is}
use Rattle.catalogue_pair.specs.Ask.{searched_pair, decided_pair, pair_by}
use Rattle.catalogue_pair.proofs.PairTold.{search_tells, decide_tells}

search_byte : (q : Code.Question) (bytes : ℕ) → (searched_pair q bytes).answer < 256
unfolding searched_pair
search_byte q bytes = omega (arith, pair_below (ended_over (listed_by every most_characters) q bytes []).how)

decide_byte : (q : Code.Question) (meets : Bool) (present new : List ℕ) (bytes : ℕ) → (decided_pair q meets present new bytes).answer < 256
unfolding decided_pair
decide_byte q meets present new bytes = omega (arith, pair_below (settled_coded q meets present new bytes []).settled.ended.how)

pub same_room : (work lent : List ℕ) → length work ≡ length lent → room_of work ≡ room_of lent
unfolding room_of
same_room work lent e = rw e

-- Two rules: their sides, fields and bodies, and the bytes in which their patterns stand.
module _ {r s : Rule} {left right : List ℕ} {first second : List PlaceTables} (a : CodeOf r left first) (b : CodeOf s right second)
    (present new : List ℕ) (first-bodies second-bodies : List Body)
    (one : AllStand edition_1 present first-bodies r.fields.held) (two : AllStand edition_1 new second-bodies s.fields.held) where
  abbrev bodies : List Body
  bodies = pair_bodies first-bodies second-bodies

  abbrev question : Code.Question
  question = pair_question left right first second bodies

  abbrev meets : Bool
  meets = clashes_apart (pair r s)

  body_is : (f : ℕ) → f < fields → get_or bodies f nowhere ≡ body_of first-bodies second-bodies f
  unfolding pair_bodies
  body_is f k = get_or_listed (body_of first-bodies second-bodies) fields nowhere f k

  its_edition : edition_of (pair r s).alphabet ≡ edition_1
  unfolding pair
  its_edition = refl

  written : Written (pair r s) bodies present new
  written =
      record {
        firsts = λ f k.
            rw (its_edition, body_is f (omega arith), lt_ltb f rule_fields k, held_present r s a.good b.good f k)
            (says_standing (one f (omega arith)));
        seconds = λ f low k.
            let g = f - rule_fields in
            let here : f ≡ rule_fields + g = omega arith in
            rw (its_edition, body_is f k, le_ltb f rule_fields low, ap (held_by (pair r s)) here ∙ held_new r s a.good b.good g (omega arith))
            (says_standing (two g (omega arith)));
      }

  says : Says meets (Meets question)
  says =
      subst (λ (x : Code.Question). Says meets (Meets x)) (sym (pair_is a b bodies))
      (clash_said (pair r s) (pair_good r s a.good b.good) bodies)

  tells : (how : Asking) (work : List ℕ)
      → told_pair (pair_by how question meets present new (length work)) ≡ (asking_coded how).asks r s (room_of work)
  tells Search work = search_tells r s a.good b.good bodies question (pair_is a b bodies) work
  tells Decide work = decide_tells r s a.good b.good bodies question (pair_is a b bodies) work present new written

  module _ (how : Asking) (work : List ℕ) (p : Pair)
      (is : (m : Bool) → Says m (Meets question) → p ≡ pair_by how question m present new (length work)) where
    pub told_in_room : (lent : List ℕ) → length work ≡ length lent → told_pair p ≡ (asking_coded how).asks r s (room_of lent)
    told_in_room lent e =
        ap told_pair (is meets says) ∙ tells how work ∙ ap ((asking_coded how).asks r s) (same_room work lent e)

    pub answer_byte : p.answer < 256
    answer_byte = rw (is meets says) (byte how)
      where
        byte : (how : Asking) → (pair_by how question meets present new (length work)).answer < 256
        byte Search = search_byte question (length work)
        byte Decide = decide_byte question meets present new (length work)
