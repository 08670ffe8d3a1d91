-- How far a catalogue is read. Each step of the walk is a step of the definition: a rule at the front that passes its own checks and is not unfit leads
-- behind its record, another makes the buffer none of a catalogue's form, and where zero bytes are left it is done.
-- Follows from the definition of `form_within` by the tests that it makes (`FrontBytes`), and from one rule more (`OneMore`).
use Prim.Native.Nat.{ℕ, zero, suc, ◌+◌, ◌≤◌, ◌<◌}
use native.Mathlib.Numerals.{add-one}
use native.Mathlib.Omega.{arith}
use mathlib.Core.Path.{◌≡◌, refl, sym, ap, ◌∙◌}
use mathlib.Core.Bool.{Bool, true, false}
use mathlib.Core.List.{List, []}
use lib.ListN.{length, set, drop, length-drop}
use lib.Seq.{drop-drop}
use Rattle.std.specs.Prelude.{Option, None, Some}
use Rattle.paper.specs.Numbers.{catalogue_rules}
use Rattle.paper.specs.Rule.{Rule}
use Rattle.paper_catalogue.specs.Catalogue.{Present, no_catalogue, rules, rule_behind, all_zero, form_within, form_by}
use Rattle.paper_catalogue.specs.Catalogue as Catalogue
use Rattle.paper_catalogue.proofs.Local.{rule_bounds}
use Rattle.catalogue_form.specs.Kept.{begins_of, no_begins, kept_of, front_bytes}
use Rattle.catalogue_form.specs.declared.Kept.{Kept}
use Rattle.catalogue_form.proofs.FrontBytes.{Next, no_front}
use Rattle.catalogue_form.proofs.OneMore.{and_last, length_last, used_last, none_begin, begins_last}
use Rattle.catalogue_form.proofs.OneMore.{behind_all, behind_last, behind_none, behind_end}

-- so many rules are read, whose records have so many bytes and begin there; so many more may stand
pub record Reached (unfit : Rule → Bool) (catalogue begins : List ℕ) (rules used : ℕ) : Type 0 where
  pub done : List Present
  pub left : ℕ
  pub most : left + rules ≡ catalogue_rules
  pub forms : form_by unfit catalogue ≡ behind_all done (form_within unfit left (drop used catalogue))
  pub rules_of : rules ≡ length done
  pub used_of : used ≡ Catalogue.used done
  pub inside : used ≤ length catalogue
  pub begins_are : begins ≡ begins_of done

zero_end : (unfit : Rule → Bool) (left : ℕ) (s : List ℕ) → all_zero s ≡ true → form_within unfit left s ≡ rules []
zero_end unfit zero s z = rw z
zero_end unfit (suc left) s z = rw z

pub reached_start : (unfit : Rule → Bool) (catalogue begins : List ℕ) → begins ≡ no_begins → Reached unfit catalogue begins 0 0
unfolding form_by
reached_start unfit catalogue begins e =
    record {
      done = [];
      left = catalogue_rules;
      most = refl;
      forms = refl;
      rules_of = refl;
      used_of = refl;
      inside = omega arith;
      begins_are = e ∙ none_begin;
    }

module _ {unfit : Rule → Bool} {catalogue begins : List ℕ} {rules used : ℕ} (r : Reached unfit catalogue begins rules used) where
  pub reached_end : all_zero (drop used catalogue) ≡ true →
      ◌≡◌ {A = Option Kept} (Some (record { rules = rules; used = used; begins = begins })) (kept_of (form_by unfit catalogue))
  reached_end z =
      let left = zero_end unfit r.left (drop used catalogue) z in
      let e : form_by unfit catalogue ≡ Catalogue.rules r.done = r.forms ∙ ap (behind_all r.done) left ∙ behind_end r.done in
      rw (e, r.rules_of, r.used_of, r.begins_are)

  -- a rule that stands there lies inside
  pub next_inside : {next : ℕ} → Next unfit rules (drop used catalogue) next → (0 < next) × (used + next ≤ length catalogue)
  next_inside n =
      let (low, high) = rule_bounds (drop used catalogue) n.reads in
      (omega arith, omega (arith, r.inside, length-drop used catalogue, low, high))

  -- bytes are left that are not all zero
  module _ (z : all_zero (drop used catalogue) ≡ false) where
    pub reached_none : front_bytes unfit rules (drop used catalogue) ≡ None → form_by unfit catalogue ≡ no_catalogue
    reached_none none =
        r.forms ∙ ap (behind_all r.done) (no_front unfit rules (drop used catalogue) r.left r.most z none) ∙ behind_none r.done

    -- a rule stands there, one more
    module _ {next : ℕ} (n : Next unfit rules (drop used catalogue) next) where
      abbrev this : Present
      this = record { rule = n.rule; bytes = next }

      behind_this : (left : ℕ) → form_within unfit (suc left) (drop used catalogue) ≡ rule_behind this (form_within unfit left (drop (used + next) catalogue))
      behind_this left = rw (z, n.reads, n.fit, drop-drop next used catalogue)

      begins_more : set begins (rules + 1) (used + next) ≡ begins_of (and_last r.done this)
      begins_more =
          rw (add-one rules, r.rules_of, r.used_of, r.begins_are) (begins_last r.done this (omega (arith, n.few, r.rules_of)))

      pub reached_more : Reached unfit catalogue (set begins (rules + 1) (used + next)) (rules + 1) (used + next)
      reached_more = turn r.left r.most r.forms
        where
          turn : (left : ℕ) → left + rules ≡ catalogue_rules → form_by unfit catalogue ≡ behind_all r.done (form_within unfit left (drop used catalogue))
              → Reached unfit catalogue (set begins (rules + 1) (used + next)) (rules + 1) (used + next)
          turn zero m g = absurd (omega (arith, n.few))
          turn (suc left) m g =
              record {
                done = and_last r.done this;
                left = left;
                most = omega arith;
                forms = g ∙ ap (behind_all r.done) (behind_this left) ∙ sym (behind_last r.done this _);
                rules_of = omega (arith, r.rules_of, length_last r.done this);
                used_of = omega (arith, r.used_of, used_last r.done this);
                inside = (next_inside n).1;
                begins_are = begins_more;
              }
