-- How far the pairs are listed: what is put so far and what is left are the list of the definition. Of one rule with those behind it
-- (`ListingWith`), and of every rule (`ListingAll`): the start, one more, the end.
-- Follows from the definitions of `listed_with_by` and `listed_from_by`; what a pair is answered follows from where the rules stand (`RulesStanding`) and
-- from `told_in_room`, and how great a count can be from `count_in_bytes` and `decided_count`.
use Prim.Native.Nat.{ℕ, suc, ◌+◌, ◌≤◌, ◌<◌}
use native.Mathlib.Numerals.{add-one}
use native.Mathlib.Omega.{arith}
use mathlib.Core.Path.{◌≡◌, refl, sym, ap, ◌∙◌, subst}
use mathlib.Core.Bool.{Bool}
use mathlib.Core.List.{List, [], ◌∷◌, ◌++◌, append_assoc, append-nil}
use lib.ListN.{length, drop, replicate, length-append, length-replicate, drop_of_length-le}
use Rattle.paper.specs.Outcome.{room_of, cleared}
use Rattle.paper.specs.Alphabet.{edition_1}
use Rattle.paper.specs.Rule as Paper
use Rattle.paper_catalogue.specs.PairAsking.{PairAsking, PairAnswered}
use Rattle.paper_catalogue.specs.Catalogue.{Present, work_behind}
use Rattle.paper_catalogue.specs.Calls.{present_at, rule_at}
use Rattle.paper_catalogue.specs.Recheck.{pair_listed_by, listed_with_by, listed_from_by, work_after_pairs}
use Rattle.paper_catalogue.proofs.Form.{rules_at_most}
use Rattle.paper_catalogue.proofs.GoodRule.{GoodRule}
use Rattle.paper_catalogue.proofs.Rechecked.{count_in_bytes}
use Rattle.paper_catalogue_decide.proofs.PairDecided.{decided_count}
use Rattle.std.specs.Prelude.{Ok}
use Rattle.base_question.specs.declared.Body.{Body}
use Rattle.plain_question.specs.Reached.{Meets, Says}
use Rattle.read_fields.proofs.PatternsStanding.{AllStand}
use Rattle.read_rule.specs.declared.Rule.{Rule}
use Rattle.read_rule.proofs.RulePatterns.{front_stands}
use Rattle.catalogue_form.proofs.RulesStanding.{in_front, begin_in, standing_reads, standing_good, standing_side, standing_fields, standing_bodies, standing_bodies_are}
use Rattle.catalogue_question.specs.PairCoded.{rules_question}
use Rattle.catalogue_question.specs.AskedBy.{asking_coded, told_pair}
use Rattle.catalogue_question.specs.declared.Asking.{Asking}
use Rattle.catalogue_question.specs.declared.Asking.TheVariants.{Search, Decide}
use Rattle.catalogue_question.specs.declared.Pair.{Pair}
use Rattle.catalogue_question.proofs.PairAsked.{CodeOf}
use Rattle.catalogue_pair.specs.Ask.{pair_by}
use Rattle.catalogue_pair.proofs.InRoom.{same_room, told_in_room, answer_byte}
use Rattle.print_lines.specs.Writing.{Puts}
use Rattle.print_lines.proofs.Putting.{puts_none, puts_then}
use Rattle.catalogue_recheck.specs.PairList.{pair_bytes_of, above_count, PairFits, list_with, ReadyToList, WithListed, AllListed}
use Rattle.catalogue_form.specs.Kept.{OfForm, rule_there}
use Rattle.catalogue_form.specs.declared.Kept.{Kept}

-- The working buffer: cleared once, it stays so.
behind_cleared : (l : List Present) (work : List ℕ) → work_behind l (cleared work) ≡ cleared work
behind_cleared [] work = refl
behind_cleared (r ∷ l) work = rw (length-replicate {A = ℕ} (length work) 0)

one_rule_less : (r : Present) (l : List Present) (work : List ℕ) → work_after_pairs l (work_behind l work) ≡ work_after_pairs (r ∷ l) work
one_rule_less r [] work = refl
one_rule_less r (s ∷ []) work = refl
one_rule_less r (s ∷ t ∷ l) work = rw (length-replicate {A = ℕ} (length work) 0)

-- One rule with those behind it: before the number j.
pub record ListingWith (a : PairAsking) (l : List Present) (lower : ℕ) (lent work before bytes : List ℕ) (n j end : ℕ) : Type 0 where
  pub done : List ℕ
  pub below : j ≤ length l
  pub pairs : list_with a l lower lent ≡ done ++ listed_with_by a lower (rule_at l lower) j (drop j l) (room_of lent)
  pub puts : Puts before bytes n end done
  pub behind : work_behind (drop j l) work ≡ work_behind (drop (suc lower) l) lent

-- The walk, whatever the answers are.
module _ {a : PairAsking} {l : List Present} {lower : ℕ} {lent before : List ℕ} {n : ℕ} where
  pub with_start : lower < length l → ListingWith a l lower lent lent before before n (lower + 1) n
  with_start h = rw (add-one lower) (record { done = []; below = omega arith; pairs = refl; puts = puts_none; behind = refl })

  module _ {work bytes : List ℕ} {j end : ℕ} (g : ListingWith a l lower lent work before bytes n j end) where
    pub with_ends : length l ≤ j → WithListed a l lower lent work before bytes n end
    with_ends h =
        let none = drop_of_length-le l {i = j} h in
        let whole : g.done ≡ list_with a l lower lent = sym (g.pairs ∙ rw none (append-nil g.done)) in
        record {
          puts = subst (Puts before bytes n end) whole g.puts;
          after_work = sym (ap (λ (m : List Present). work_behind m work) none) ∙ g.behind;
        }

    -- one more rule, and the pair with it, told
    module _ (h : j < length l) {pair : Pair} (told : told_pair pair ≡ a.asks (rule_at l lower) (rule_at l j) (room_of lent)) where
      its_bytes : pair_bytes_of a lower j pair ≡ pair_listed_by a lower (rule_at l lower) j (rule_at l j) (room_of lent)
      its_bytes = rw (← told)

      pairs_more : list_with a l lower lent
          ≡ (g.done ++ pair_bytes_of a lower j pair) ++ listed_with_by a lower (rule_at l lower) (suc j) (drop (suc j) l) (room_of lent)
      pairs_more = g.pairs ∙ rw (in_front l j h, its_bytes) (sym (append_assoc g.done _ _))

      -- its bytes have room
      pub with_room : n + length (list_with a l lower lent) ≤ length bytes → end + length (pair_bytes_of a lower j pair) ≤ length bytes
      with_room room =
          let rest = listed_with_by a lower (rule_at l lower) (suc j) (drop (suc j) l) (room_of lent) in
          omega
          (arith, room, g.puts.behind, ap length pairs_more, length-append (g.done ++ pair_bytes_of a lower j pair) rest, length-append g.done (pair_bytes_of a lower j pair))

      pub with_more : {after filled : List ℕ} {next : ℕ} → after ≡ replicate (length work) 0 → Puts bytes filled end next (pair_bytes_of a lower j pair)
          → ListingWith a l lower lent after before filled n (j + 1) next
      with_more w q =
          record {
            done = g.done ++ pair_bytes_of a lower j pair;
            below = omega arith;
            pairs = rw (add-one j) pairs_more;
            puts = puts_then g.puts q;
            behind =
                rw (add-one j, w) (behind_cleared (drop (suc j) l) work)
                ∙ sym (ap (λ (m : List Present). work_behind m work) (in_front l j h))
                ∙ g.behind;
          }

-- A count has its bytes.
count_below : (how : Asking) (r s : Paper.Rule) → GoodRule r → GoodRule s → (work : List ℕ) → ((asking_coded how).asks r s (room_of work)).count < above_count how
count_below Search r s g h work = omega (arith, count_in_bytes r s work)
count_below Decide r s g h work = omega (arith, decided_count r s g h work [])

-- What asking the pair of the rule with another behind it tells.
module _ (how : Asking) {catalogue : List ℕ} {kept : Kept} {lower : ℕ} {rule : Rule} {lent before : List ℕ}
    {n : ℕ} (x : ReadyToList (asking_coded how) catalogue kept lower rule lent before n) (j : ℕ) (h : j < length x.standing.rules_present)
    (other : Rule) (p : Ok other ≡ rule_there (drop (begin_in kept j) catalogue)) (work : List ℕ) (same : length work ≡ length lent) (pair : Pair)
    (e : (m : Bool)
    → Says m (Meets (rules_question rule other))
    → pair ≡ pair_by how (rules_question rule other) m (drop (begin_in kept lower) catalogue) (drop (begin_in kept j) catalogue) (length work)) where
  abbrev s : OfForm catalogue kept
  s = x.standing

  abbrev lower_code : CodeOf (rule_at s.rules_present lower) rule.side rule.fields
  lower_code = record { good = standing_good s lower x.there; side_is = x.side_is; fields_are = x.fields_are }

  abbrev other_code : CodeOf (rule_at s.rules_present j) other.side other.fields
  other_code = record { good = standing_good s j h; side_is = standing_side s j h other p; fields_are = standing_fields s j h other p }

  lower_stands : AllStand edition_1 (drop (begin_in kept lower) catalogue) rule.bodies (rule_at s.rules_present lower).fields.held
  lower_stands =
      subst (λ (b : List Body). AllStand edition_1 (drop (begin_in kept lower) catalogue) b (rule_at s.rules_present lower).fields.held) (sym x.bodies_are)
      (front_stands (drop (begin_in kept lower) catalogue) (standing_reads s lower x.there))

  pub asked_told : told_pair pair ≡ (asking_coded how).asks (rule_at x.standing.rules_present lower) (rule_at x.standing.rules_present j) (room_of lent)
  asked_told =
      told_in_room lower_code other_code (drop (begin_in kept lower) catalogue) (drop (begin_in kept j) catalogue) rule.bodies other.bodies lower_stands
      (standing_bodies s j h other p) how work pair e lent same

  -- its numbers fit their bytes
  pub asked_fits : (bytes : List ℕ) (end : ℕ) → end + length (pair_bytes_of (asking_coded how) lower j pair) ≤ length bytes
      → PairFits how bytes end lower j pair
  asked_fits bytes end room =
      let l = x.standing.rules_present in
      let few = rules_at_most catalogue x.standing.of_form in
      record {
        lower_byte = omega (arith, x.there, few);
        higher_byte = omega (arith, h, few);
        answer_byte =
            answer_byte lower_code other_code (drop (begin_in kept lower) catalogue) (drop (begin_in kept j) catalogue) rule.bodies other.bodies lower_stands
            (standing_bodies s j h other p) how work pair e;
        count_bytes =
            subst (λ (p : PairAnswered). p.count < above_count how) (sym asked_told) (count_below how (rule_at l lower) (rule_at l j) (standing_good x.standing lower x.there) (standing_good x.standing j h) lent);
        room = room;
      }

-- Every rule: before the number i.
pub record ListingAll (a : PairAsking) (l : List Present) (lent work before bytes : List ℕ) (i end : ℕ) : Type 0 where
  pub done : List ℕ
  pub below : i ≤ length l
  pub pairs : listed_from_by a 0 l (room_of lent) ≡ done ++ listed_from_by a i (drop i l) (room_of lent)
  pub puts : Puts before bytes 0 end done
  pub behind : work_after_pairs (drop i l) work ≡ work_after_pairs l lent

module _ {a : PairAsking} {l : List Present} where
  pub all_start : (lent before : List ℕ) → ListingAll a l lent lent before before 0 0
  all_start lent before = record { done = []; below = omega arith; pairs = refl; puts = puts_none; behind = refl }

  module _ {lent work before bytes : List ℕ} {i end : ℕ} (g : ListingAll a l lent work before bytes i end) where
    pub all_ends : length l ≤ i → AllListed a l lent work before bytes end
    all_ends h =
        let none = drop_of_length-le l {i = i} h in
        let whole : g.done ≡ listed_from_by a 0 l (room_of lent) = sym (g.pairs ∙ rw none (append-nil g.done)) in
        record {
          puts = subst (Puts before bytes 0 end) whole g.puts;
          after_work = sym (ap (λ (m : List Present). work_after_pairs m work) none) ∙ g.behind;
        }

    -- one more rule, and its pairs with those behind it
    module _ (h : i < length l) (same : length work ≡ length lent) where
      from_more : listed_from_by a 0 l (room_of lent) ≡ (g.done ++ list_with a l i work) ++ listed_from_by a (suc i) (drop (suc i) l) (room_of lent)
      from_more = g.pairs ∙ rw (in_front l i h, same_room work lent same) (sym (append_assoc g.done _ _))

      pub all_room : length (listed_from_by a 0 l (room_of lent)) ≤ length bytes → end + length (list_with a l i work) ≤ length bytes
      all_room room =
          let rest = listed_from_by a (suc i) (drop (suc i) l) (room_of lent) in
          omega
          (arith, room, g.puts.behind, ap length from_more, length-append (g.done ++ list_with a l i work) rest, length-append g.done (list_with a l i work))

      pub all_more : {after filled : List ℕ} {next : ℕ} → WithListed a l i work after bytes filled end next → ListingAll a l lent after before filled (i + 1) next
      all_more w =
          record {
            done = g.done ++ list_with a l i work;
            below = omega arith;
            pairs = rw (add-one i) from_more;
            puts = puts_then g.puts w.puts;
            behind =
                rw (add-one i, w.after_work) (one_rule_less (present_at l i) (drop (suc i) l) work)
                ∙ sym (ap (λ (m : List Present). work_after_pairs m work) (in_front l i h))
                ∙ g.behind;
          }

-- What is known where the pairs of a rule that stands are asked.
abbrev pub ready_with : (a : PairAsking) {catalogue : List ℕ} {kept : Kept} (x : OfForm catalogue kept) (i : ℕ) → i < length x.rules_present
    → (rule : Rule) → Ok rule ≡ rule_there (drop (begin_in kept i) catalogue) → (work bytes : List ℕ) (end : ℕ)
    → end + length (list_with a x.rules_present i work) ≤ length bytes → ReadyToList a catalogue kept i rule work bytes end
ready_with a x i h rule p work bytes end room =
    record {
      standing = x;
      there = h;
      side_is = standing_side x i h rule p;
      fields_are = standing_fields x i h rule p;
      bodies_are = standing_bodies_are x i h rule p;
      room = room;
    }
