-- What adding and withdrawing come to, by what was read and asked on the way. Follows from the definitions of `adding_by` and `withdrawing` by the
-- tests that they make.
use Prim.Native.Nat.{ℕ, zero, suc, ◌+◌, ◌-◌, ◌≤◌, ◌<◌}
use native.Mathlib.Omega.{arith}
use mathlib.Core.Path.{◌≡◌, refl, sym, ◌∙◌}
use mathlib.Core.Bool.{Bool, true, false}
use mathlib.Core.List.{List, [], ◌∷◌}
use lib.ListN.{length}
use Rattle.paper.specs.Sheet.{Fault, fault_number, faulty, records}
use Rattle.paper.specs.Rule.{Rule, read_rule, foreign_field}
use Rattle.paper_catalogue.specs.PairAsking.{PairAsking}
use Rattle.paper_catalogue.specs.Catalogue.{Present, no_catalogue, rules, form, used, is_full, not_asked, adding_by, withdrawing, withdrawn_from}
use Rattle.paper_catalogue.specs.Catalogue as Catalogue
use Rattle.paper_catalogue.specs.Calls.{present_at}
use Rattle.paper_catalogue.proofs.Form.{offset_of, rule_fits, record_inside}
use Rattle.paper_catalogue.proofs.Withdrawing.{leaves}
use Rattle.catalogue_form.specs.Kept.{OfForm}
use Rattle.catalogue_form.specs.declared.Kept.{Kept}
use Rattle.catalogue_form.proofs.RulesStanding.{begin_in, begins_are, next_begin}
use Rattle.catalogue_bytes.specs.Moving.{put_at, closed_at}
use Rattle.catalogue_bytes.proofs.Within.{is_put, is_closed}
use Rattle.read_rule.specs.declared.Rule as Code
use Rattle.std.specs.Prelude.{Ok, Err}
use Rattle.catalogue_add.specs.declared.NotApart.{NotApart}
use Rattle.catalogue_add.specs.declared.AddError.TheVariants as Add-error
use Rattle.catalogue_add.specs.Addition.{full_of, PairsAsked, Ready}
use Rattle.catalogue_add.specs.Addition as Told

-- 32, by what was read
pub full_is : (k : Kept) (l : List Present) (c bytes : List ℕ) (b : Bool) → k.rules ≡ length l → k.used ≡ used l
    → b ≡ full_of k (length bytes) (length c) → is_full l bytes c ≡ b
full_is k l c bytes b e f h = sym (h ∙ rw (e, f))

module _ (a : PairAsking) (c bytes work : List ℕ) where
  pub adds_to_none : form c ≡ no_catalogue → not_asked 34 0 c work ≡ adding_by a c bytes work
  unfolding adding_by
  adds_to_none e = rw (adding_by, e)

  module _ (l : List Present) (e : form c ≡ rules l) where
    pub adds_fault : (x : Fault) (at : ℕ) → read_rule bytes ≡ faulty x at → not_asked (fault_number x) at c work ≡ adding_by a c bytes work
    unfolding adding_by
    adds_fault x at f = rw (adding_by, e, f)

    module _ (r : Rule) (n : ℕ) (f : read_rule bytes ≡ records r n) where
      pub adds_foreign : foreign_field r ≡ true → not_asked 31 0 c work ≡ adding_by a c bytes work
      unfolding adding_by
      adds_foreign h = rw (adding_by, e, f, h)

      pub adds_full : foreign_field r ≡ false → is_full l bytes c ≡ true → not_asked 32 0 c work ≡ adding_by a c bytes work
      unfolding adding_by
      adds_full h k = rw (adding_by, e, f, h, k)

module _ {c bytes : List ℕ} {kept : Kept} {new : Code.Rule} (x : Ready c bytes kept new) (a : PairAsking) (work after : List ℕ) where
  is_read : read_rule bytes ≡ records x.asks.rule x.asks.its_bytes
  is_read = x.asks.is_read

  pub adds_rule : PairsAsked a x.asks.standing.rules_present x.asks.rule work after (Ok tt) → (catalogue : List ℕ) → catalogue ≡ put_at kept.used bytes c
      → Told.told_added_by (Ok tt) catalogue after ≡ adding_by a c bytes work
  unfolding adding_by
  adds_rule p catalogue e =
      let put = is_put (used x.asks.standing.rules_present) bytes c (rule_fits c x.asks.standing.of_form bytes x.room) in
      rw (e, x.asks.standing.its_used, put, adding_by, x.asks.standing.of_form, is_read, x.asks.own, x.room, ← p.pairs, p.after_work)

  pub adds_not : (n : NotApart) → PairsAsked a x.asks.standing.rules_present x.asks.rule work after (Err n)
      → Told.told_added_by (Err (Add-error.NotApart n)) c after ≡ adding_by a c bytes work
  unfolding adding_by
  adds_not n k = rw (adding_by, x.asks.standing.of_form, is_read, x.asks.own, x.room, ← k.pairs, k.after_work)

-- Withdrawing.
module _ (c : List ℕ) (i : ℕ) where
  pub takes_from_none : form c ≡ no_catalogue → ◌≡◌ {A = Catalogue.Withdrawn} (record { number = 34; catalogue = c }) (withdrawing c i)
  unfolding withdrawing
  takes_from_none e = rw e

  -- no rule has the number
  none_there : (at : ℕ) (l : List Present) (n : ℕ) → length l ≤ n → ◌≡◌ {A = Catalogue.Withdrawn} (record { number = 33; catalogue = c }) (withdrawn_from at l n c)
  none_there at [] n h = refl
  none_there at (r ∷ l) zero h = absurd (omega arith)
  none_there at (r ∷ l) (suc n) h = none_there (at + r.bytes) l n (omega arith)

  pub takes_none : (l : List Present) → form c ≡ rules l → length l ≤ i
      → ◌≡◌ {A = Catalogue.Withdrawn} (record { number = 33; catalogue = c }) (withdrawing c i)
  unfolding withdrawing
  takes_none l e h = rw e (none_there 0 l i h)

  pub takes_one : (k : Kept) (x : OfForm c k) → i < k.rules → (at next : ℕ) → at ≡ begin_in k i → next ≡ begin_in k (i + 1)
      → (catalogue : List ℕ) → catalogue ≡ closed_at at (next - at) c
      → ◌≡◌ {A = Catalogue.Withdrawn} (record { number = 0; catalogue = catalogue }) (withdrawing c i)
  takes_one k x h at next a n catalogue e =
      let l = x.rules_present in
      let there : i < length l = omega (arith, x.counted) in
      let its_begin : at ≡ offset_of l i = a ∙ begins_are x i (omega arith) in
      let its_bytes : next - at ≡ (present_at l i).bytes = omega (arith, a, n, next_begin x i there) in
      let closed = is_closed (offset_of l i) (present_at l i).bytes c (record_inside c x.of_form i there) in
      rw (e, its_bytes, its_begin, closed)
      (sym (leaves c i (record { rules_present = l; of_form = x.of_form; there = there })))
