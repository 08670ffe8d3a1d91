-- Adding a rule, by any way to ask a pair: what it tells and leaves, as a relation without a test (`Adds`), and what that says.
--   entered, enters    : the number is 0 exactly if the catalogue is of its form, the rule is read, names no foreign field, has room, and its pair
--                        with every rule present is answered 1
--   first_reported     : 30 tells the first rule whose pair is not answered 1, that answer, 0, 18 or 19, the pair's count and the search
--   refused_same       : a refusal changes no byte of the catalogue
--   added_form         : entered, the catalogue is of its form, with the new rule last
--   added_length       : the catalogue has as many bytes as before
--   entered_likewise   : what one way to ask lets in, another that answers 1 wherever it does lets in, with the same bytes
-- Follows from the definition, test by test, and from the laws of the form.
use Prim.Native.Nat.{ℕ, zero, suc, ◌+◌, ◌<◌}
use native.Mathlib.Nat.{zero-add}
use native.Mathlib.Omega.{arith}
use mathlib.Core.Path.{◌≡◌, refl, sym, ap, ◌∙◌, subst}
use mathlib.Core.Bool.{true, false}
use mathlib.Core.List.{List, [], ◌∷◌, ◌++◌}
use lib.Dec.{eqb}
use lib.ListN.{length}
use Rattle.paper.specs.Lists.{member}
use Rattle.paper.specs.Sheet.{Fault, fault_number, Records, faulty, records}
use Rattle.paper.specs.Rule.{Rule, read_rule, foreign_field}
use Rattle.paper.specs.Outcome.{room_of}
use Rattle.paper.specs.Buffers.{sheet_numbers}
use Rattle.paper_catalogue.specs.PairAsking.{PairAnswered, PairAsking}
use Rattle.paper_catalogue.specs.Catalogue.{Present, Form, no_catalogue, rules, form, used, Pairs, all_answered_1, not_answered_1}
use Rattle.paper_catalogue.specs.Catalogue.{pairs_by, AddedBy, not_asked, entered_if, is_full}
use Rattle.paper_catalogue.specs.Catalogue.{added_rule, added_to, adding_by}
use Rattle.paper_catalogue.specs.Calls.{rule_at}
use Rattle.paper.proofs.base.Tests.{cond_by, true_false, eqb_true, eqb_false}
use Rattle.paper_laws.proofs.sheets.Rows.{fault_numbered, fault_above}
use Rattle.paper_catalogue.proofs.Form.{length_with, rule_fits, form_with}
use Rattle.paper_catalogue.proofs.RightAsking.{AsksRight}

-- every pair of the rules present with the new one is answered 1
abbrev pub AllAnswered : PairAsking → List Present → Rule → ℕ → Type 0
AllAnswered a l new room = (i : ℕ) → i < length l → (a.asks (rule_at l i) new room).answer ≡ 1

-- "the number of the first rule that gave something else is reported with that answer", its pair's count and the search that gave it
pub record FirstNot (a : PairAsking) (l : List Present) (new : Rule) (room i : ℕ) (p : PairAnswered) : Type 0 where
  pub there : i < length l
  pub before : (k : ℕ) → k < i → (a.asks (rule_at l k) new room).answer ≡ 1
  pub its_pair : p ≡ a.asks (rule_at l i) new room
  pub not_1 : p.answer ≡ 1 → ⊥

module _ (a : PairAsking) (new : Rule) (room : ℕ) where
  -- what the pairs from number `from` on give
  abbrev Gives : ℕ → List Present → Pairs → Type 0
  Gives from l all_answered_1 = AllAnswered a l new room
  Gives from l (not_answered_1 n p) = (i : ℕ) × (n ≡ from + i) × FirstNot a l new room i p

  first_answered : (from : ℕ) (x : Present) (l : List Present) (p : Pairs) → (a.asks x.rule new room).answer ≡ 1
      → Gives (suc from) l p → Gives from (x ∷ l) p
  first_answered from x l all_answered_1 e h = each
    where
      each : AllAnswered a (x ∷ l) new room
      each zero i = e
      each (suc k) i = h k (omega arith)
  first_answered from x l (not_answered_1 n its) e (i, p, f) = (
    suc i,
    omega arith,
    record {
      there = omega (arith, f.there);
      before = each;
      its_pair = f.its_pair;
      not_1 = f.not_1;
    },
  )
    where
      each : (k : ℕ) → k < suc i → (a.asks (rule_at (x ∷ l) k) new room).answer ≡ 1
      each zero j = e
      each (suc k) j = f.before k (omega arith)

  pairs_give : (from : ℕ) (l : List Present) → Gives from l (pairs_by a from l new room)
  pairs_give from [] = λ i h. absurd (omega arith)
  pairs_give from (x ∷ l) =
      cond_by (Gives from (x ∷ l)) (eqb (a.asks x.rule new room).answer 1)
      (λ e. first_answered from x l (pairs_by a (suc from) l new room) (eqb_true (a.asks x.rule new room).answer 1 e) (pairs_give (suc from) l))
      (λ n. (
        0,
        omega arith,
        record {
          there = omega arith;
          before = λ k h. absurd (omega arith);
          its_pair = refl;
          not_1 = eqb_false (a.asks x.rule new room).answer 1 n;
        },
      ))

  answered_pairs : (from : ℕ) (l : List Present) → AllAnswered a l new room → pairs_by a from l new room ≡ all_answered_1
  answered_pairs from [] h = refl
  answered_pairs from (x ∷ l) h =
      rw (h 0 (omega arith)) (answered_pairs (suc from) l (λ i k. h (suc i) (omega arith)))

-- A rule is entered.
pub record Enters (a : PairAsking) (c bytes work : List ℕ) : Type 0 where
  pub rules_present : List Present
  pub of_form : form c ≡ rules rules_present
  pub rule : Rule
  pub own_bytes : ℕ
  pub is_read : read_rule bytes ≡ records rule own_bytes
  pub own_fields : foreign_field rule ≡ false
  pub room : is_full rules_present bytes c ≡ false
  pub answered : AllAnswered a rules_present rule (room_of work)

abbrev pub added : {a : PairAsking} {c bytes work : List ℕ} → Enters a c bytes work → AddedBy
added {a} {c} {bytes} {work} x = entered_if all_answered_1 x.rules_present bytes c work

-- The ways that adding goes, by what it tells and leaves.
module _ (a : PairAsking) (c bytes work : List ℕ) where
  pub data Adds : AddedBy → Type 0 where
    no_form : form c ≡ no_catalogue → Adds (not_asked 34 0 c work)
    not_read : (l : List Present) → form c ≡ rules l → (x : Fault) (at : ℕ) → read_rule bytes ≡ faulty x at
        → Adds (not_asked (fault_number x) at c work)
    foreign : (l : List Present) → form c ≡ rules l → (r : Rule) (n : ℕ) → read_rule bytes ≡ records r n → foreign_field r ≡ true
        → Adds (not_asked 31 0 c work)
    full : (l : List Present) → form c ≡ rules l → (r : Rule) (n : ℕ) → read_rule bytes ≡ records r n → foreign_field r ≡ false
        → is_full l bytes c ≡ true → Adds (not_asked 32 0 c work)
    not_apart : (l : List Present) → form c ≡ rules l → (r : Rule) (n : ℕ) → read_rule bytes ≡ records r n → foreign_field r ≡ false
        → is_full l bytes c ≡ false → (i : ℕ) (p : PairAnswered) → FirstNot a l r (room_of work) i p
        → Adds (entered_if (not_answered_1 i p) l bytes c work)
    enter : (x : Enters a c bytes work) → Adds (added x)

  module _ (l : List Present) (e : form c ≡ rules l) where
    paired : (r : Rule) (n : ℕ) → read_rule bytes ≡ records r n → foreign_field r ≡ false → is_full l bytes c ≡ false
        → (p : Pairs) → Gives a r (room_of work) 0 l p → Adds (entered_if p l bytes c work)
    paired r n f own room all_answered_1 g =
        enter (record { rules_present = l; of_form = e; rule = r; own_bytes = n; is_read = f; own_fields = own; room = room; answered = g })
    paired r n f own room (not_answered_1 k its) (i, p, first) =
        not_apart l e r n f own room k its (subst (λ (j : ℕ). FirstNot a l r (room_of work) j its) (sym (p ∙ zero-add i)) first)

    ruled : (x : Records Rule) → read_rule bytes ≡ x → Adds (added_rule a x l bytes c work)
    ruled (faulty x at) f = not_read l e x at f
    ruled (records r n) f =
        cond_by Adds (foreign_field r) (foreign l e r n f)
        (λ own. cond_by Adds (is_full l bytes c) (full l e r n f own)
        (λ room. paired r n f own room (pairs_by a 0 l r (room_of work)) (pairs_give a r (room_of work) 0 l)))

  formed : (x : Form) → form c ≡ x → Adds (added_to a x bytes c work)
  formed no_catalogue e = no_form e
  formed (rules l) e = ruled l e (read_rule bytes) refl

  pub adds : Adds (adding_by a c bytes work)
  unfolding adding_by
  adds = formed (form c) refl

  -- "A new rule is entered exactly if its pair with every rule present gives answer 1", where nothing else refuses it.
  entered_by : (o : AddedBy) → Adds o → o.added.number ≡ 0 → Enters a c bytes work
  entered_by o (no_form e) z = absurd (omega (arith, z))
  entered_by o (not_read l e x at f) z = let low = fault_above x in absurd (omega (arith, z))
  entered_by o (foreign l e r k f own) z = absurd (omega (arith, z))
  entered_by o (full l e r k f own room) z = absurd (omega (arith, z))
  entered_by o (not_apart l e r k f own room i p first) z = absurd (omega (arith, z))
  entered_by o (enter x) z = x

  pub entered : (adding_by a c bytes work).added.number ≡ 0 → Enters a c bytes work
  entered = entered_by (adding_by a c bytes work) adds

  pub enters : (x : Enters a c bytes work) → adding_by a c bytes work ≡ added x
  unfolding adding_by
  enters x =
      rw (x.of_form, x.is_read, x.own_fields, x.room, answered_pairs a x.rule (room_of work) 0 x.rules_present x.answered)

  pub entered_exactly : ((adding_by a c bytes work).added.number ≡ 0 → Enters a c bytes work) × (Enters a c bytes work → (adding_by a c bytes work).added.number ≡ 0)
  entered_exactly = (entered, λ x. ap (λ (o : AddedBy). o.added.number) (enters x))

  -- The first rule that gave something else.
  pub record Reports (o : AddedBy) : Type 0 where
    pub rules_present : List Present
    pub of_form : form c ≡ rules rules_present
    pub new : Rule
    pub own_bytes : ℕ
    pub is_read : read_rule bytes ≡ records new own_bytes
    pub own_fields : foreign_field new ≡ false
    pub room : is_full rules_present bytes c ≡ false
    pub first : FirstNot a rules_present new (room_of work) o.added.rule
        (record { answer = o.added.answer; count = o.added.count; search = o.search })
    pub number : member o.added.answer (0 ∷ 18 ∷ 19 ∷ []) ≡ true

  reported_by : AsksRight a → (o : AddedBy) → Adds o → o.added.number ≡ 30 → Reports o
  reported_by right o (no_form e) z = absurd (omega (arith, z))
  reported_by right o (not_read l e x at f) z = absurd (true_false (sym (ap (λ (n : ℕ). member n sheet_numbers) z) ∙ fault_numbered x) refl)
  reported_by right o (foreign l e r k f own) z = absurd (omega (arith, z))
  reported_by right o (full l e r k f own room) z = absurd (omega (arith, z))
  reported_by right o (not_apart l e r k f own room i p first) z =
      record {
        rules_present = l;
        of_form = e;
        new = r;
        own_bytes = k;
        is_read = f;
        own_fields = own;
        room = room;
        first = first;
        number = rw first.its_pair
            (right.not_1 (rule_at l i) r (room_of work) (λ h. first.not_1 (ap (λ (q : PairAnswered). q.answer) first.its_pair ∙ h)));
      }
  reported_by right o (enter x) z = absurd (omega (arith, z))

  pub first_reported : AsksRight a → (adding_by a c bytes work).added.number ≡ 30 → Reports (adding_by a c bytes work)
  first_reported right = reported_by right (adding_by a c bytes work) adds

  -- A refusal changes no byte of the catalogue.
  refused_by : (o : AddedBy) → Adds o → (o.added.number ≡ 0 → ⊥) → o.added.catalogue ≡ c
  refused_by o (no_form e) n = refl
  refused_by o (not_read l e x at f) n = refl
  refused_by o (foreign l e r k f own) n = refl
  refused_by o (full l e r k f own room) n = refl
  refused_by o (not_apart l e r k f own room i p first) n = refl
  refused_by o (enter x) n = absurd (n refl)

  pub refused_same : ((adding_by a c bytes work).added.number ≡ 0 → ⊥) → (adding_by a c bytes work).added.catalogue ≡ c
  refused_same = refused_by (adding_by a c bytes work) adds

  -- Entered, the new rule is the last.
  pub added_form : (x : Enters a c bytes work)
      → form (adding_by a c bytes work).added.catalogue ≡ rules (x.rules_present ++ (record { rule = x.rule; bytes = x.own_bytes } ∷ []))
  added_form x = rw (enters x) (form_with c x.of_form bytes x.room x.is_read x.own_fields)

  length_by : (o : AddedBy) → Adds o → length o.added.catalogue ≡ length c
  length_by o (no_form e) = refl
  length_by o (not_read l e x at f) = refl
  length_by o (foreign l e r k f own) = refl
  length_by o (full l e r k f own room) = refl
  length_by o (not_apart l e r k f own room i p first) = refl
  length_by o (enter x) = length_with (used x.rules_present) bytes c (rule_fits c x.of_form bytes x.room)

  pub added_length : length (adding_by a c bytes work).added.catalogue ≡ length c
  added_length = length_by (adding_by a c bytes work) adds

-- What one way to ask a pair lets in, another that answers 1 wherever it does lets in, and leaves the same.
pub entered_likewise : (a b : PairAsking) → ((r s : Rule) (room : ℕ) → (a.asks r s room).answer ≡ 1 → (b.asks r s room).answer ≡ 1)
    → (c bytes work : List ℕ) → (adding_by a c bytes work).added.number ≡ 0 → adding_by b c bytes work ≡ adding_by a c bytes work
entered_likewise a b likewise c bytes work z =
    let x = entered a c bytes work z in
    let y : Enters b c bytes work =
    record {
      rules_present = x.rules_present;
      of_form = x.of_form;
      rule = x.rule;
      own_bytes = x.own_bytes;
      is_read = x.is_read;
      own_fields = x.own_fields;
      room = x.room;
      answered = λ i h. likewise (rule_at x.rules_present i) x.rule (room_of work) (x.answered i h);
    } in
    enters b c bytes work y ∙ sym (enters a c bytes work x)
