-- How far the pairs of a new rule are asked, by any way to ask: those before number i are all answered 1. One more, the first that is not answered 1, the end.
-- Follows from the definition of `pairs_by`; what a pair is answered follows from where the rules stand (`RulesStanding`) and from `told_in_room`.
use Prim.Native.Nat.{ℕ, suc, ◌+◌, ◌≤◌, ◌<◌}
use native.Mathlib.Numerals.{add-one}
use native.Mathlib.Omega.{arith}
use mathlib.Core.Path.{◌≡◌, refl, sym, ap, ◌∙◌, subst}
use mathlib.Core.Bool.{Bool, true, false}
use mathlib.Core.List.{List, [], ◌∷◌}
use lib.Dec.{eqb}
use lib.ListN.{length, take, drop, replicate, length-replicate, drop_of_length-le}
use lib.Seq.{take_all}
use Rattle.paper.specs.Alphabet.{edition_1}
use Rattle.paper.specs.Rule.{Rule}
use Rattle.paper.specs.Outcome.{room_of, cleared}
use Rattle.paper_catalogue.specs.PairAsking.{PairAsking}
use Rattle.paper_catalogue.specs.Catalogue.{Present, pairs_by, work_behind}
use Rattle.paper_catalogue.specs.Calls.{rule_at}
use Rattle.paper_catalogue.proofs.Local.{rule_whole, rule_before}
use Rattle.paper_catalogue.proofs.GoodRule.{new_good}
use Rattle.base_question.specs.declared.Body.{Body}
use Rattle.plain_question.specs.Reached.{Meets, Says}
use Rattle.read_fields.proofs.PatternsStanding.{AllStand}
use Rattle.read_rule.specs.declared.Rule as Code
use Rattle.read_rule.proofs.RulePatterns.{front_stands}
use Rattle.catalogue_form.specs.Kept.{rule_there}
use Rattle.catalogue_form.specs.declared.Kept.{Kept}
use Rattle.catalogue_form.proofs.RulesStanding.{in_front, begin_in, standing_good, standing_side, standing_fields, standing_bodies}
use Rattle.catalogue_question.specs.PairCoded.{rules_question}
use Rattle.catalogue_question.specs.AskedBy.{asking_coded, told_pair}
use Rattle.catalogue_question.specs.declared.Asking.{Asking}
use Rattle.catalogue_question.specs.declared.Pair.{Pair}
use Rattle.catalogue_pair.specs.Ask.{pair_by}
use Rattle.catalogue_pair.proofs.InRoom.{told_in_room}
use Rattle.std.specs.Prelude.{Ok, Err}
use Rattle.catalogue_add.specs.Addition.{ReadyToAsk, PairsAsked}

pub record Going (a : PairAsking) (l : List Present) (new : Rule) (lent work : List ℕ) (i : ℕ) : Type 0 where
  pub below : i ≤ length l
  pub pairs : pairs_by a 0 l new (room_of lent) ≡ pairs_by a i (drop i l) new (room_of lent)
  pub behind : work ≡ work_behind (take i l) lent

-- the working buffer keeps its length
behind_length : (l : List Present) (lent : List ℕ) → length (work_behind l lent) ≡ length lent
behind_length [] lent = refl
behind_length (r ∷ l) lent = length-replicate (length lent) 0

-- once a pair is asked it is all zero
some_behind : (l : List Present) (i : ℕ) (lent : List ℕ) → i < length l → work_behind (take (suc i) l) lent ≡ cleared lent
some_behind [] i lent h = absurd (omega arith)
some_behind (r ∷ l) i lent h = refl

all_behind : (l : List Present) (i : ℕ) (lent : List ℕ) → i < length l → work_behind l lent ≡ cleared lent
all_behind [] i lent h = absurd (omega arith)
all_behind (r ∷ l) i lent h = refl

-- The walk, whatever the answers are.
module _ {a : PairAsking} {l : List Present} {new : Rule} where
  pub going_start : (lent : List ℕ) → Going a l new lent lent 0
  going_start lent = record { below = omega arith; pairs = refl; behind = refl }

  module _ {lent work : List ℕ} {i : ℕ} (g : Going a l new lent work i) where
    same_length : length work ≡ length lent
    same_length = ap length g.behind ∙ behind_length (take i l) lent

    pub going_ends : length l ≤ i → PairsAsked a l new lent work (Ok tt)
    going_ends h =
        record {
          pairs = sym (g.pairs ∙ rw (drop_of_length-le l {i = i} h));
          after_work = g.behind ∙ ap (λ (m : List Present). work_behind m lent) (take_all i l h);
        }

    -- the pair of one more rule with the new one, told
    module _ (h : i < length l) {pair : Pair} (told : told_pair pair ≡ a.asks (rule_at l i) new (room_of lent)) {after : List ℕ} (w : after ≡ replicate (length work) 0) where
      cleared_lent : after ≡ cleared lent
      cleared_lent = w ∙ rw same_length

      pub going_more : eqb pair.answer 1 ≡ true → Going a l new lent after (i + 1)
      going_more e =
          record {
            below = omega arith;
            pairs = g.pairs ∙ rw (in_front l i h, ← told, e, add-one i);
            behind = cleared_lent ∙ sym (rw (add-one i) (some_behind l i lent h));
          }

      pub going_stops : eqb pair.answer 1 ≡ false → PairsAsked a l new lent after (Err (record { rule = i; pair = pair }))
      going_stops d =
          record {
            pairs = sym (g.pairs ∙ rw (in_front l i h, ← told, d));
            after_work = cleared_lent ∙ sym (all_behind l i lent h);
          }

-- What asking the pair of a rule that stands with the new one tells.
pub asked_told : (how : Asking) {catalogue bytes : List ℕ} {kept : Kept} {rule : Code.Rule}
    (x : ReadyToAsk catalogue bytes kept rule) (i : ℕ) → i < length x.standing.rules_present
    → (present : Code.Rule) → Ok present ≡ rule_there (drop (begin_in kept i) catalogue)
    → (work lent : List ℕ) → length work ≡ length lent → (pair : Pair)
    → ((m : Bool)
    → Says m (Meets (rules_question present rule))
    → pair ≡ pair_by how (rules_question present rule) m (drop (begin_in kept i) catalogue) bytes (length work))
    → told_pair pair ≡ (asking_coded how).asks (rule_at x.standing.rules_present i) x.rule (room_of lent)
asked_told how {catalogue} {bytes} {kept} x i h present p work lent same pair a =
    let s = x.standing in
    let whole = (rule_whole bytes (rule_before bytes x.is_read)).0 in
    told_in_room
    (record { good = standing_good s i h; side_is = standing_side s i h present p; fields_are = standing_fields s i h present p })
    (record { good = new_good bytes x.is_read x.own; side_is = x.side_is; fields_are = x.fields_are })
    (drop (begin_in kept i) catalogue) bytes present.bodies _ (standing_bodies s i h present p)
    (subst (λ (b : List Body). AllStand edition_1 bytes b x.rule.fields.held) (sym x.bodies_are) (front_stands bytes whole))
    how work pair a lent same
