-- `catalogue` meets its contract, from what was read and put (`DropAnswered`).
use native.Mathlib.Nat.{sub-zero}
use native.Mathlib.Omega.{arith}
use mathlib.Core.Path.{sym, ap, ◌∙◌}
use Prim.Native.Nat.{ℕ}
use lib.ListN.{length, take, length-replicate}
use Rattle.paper.specs.Rule.{foreign_field}
use Rattle.paper_carry.specs.Spelling.{longest_rules}
use Rattle.catalogue_form.specs.Kept.{OfFormBefore}
use Rattle.catalogue_form.proofs.FormFound.{no_rules_by, some_rules_by}
use Rattle.carry_strays.proofs.DropAnswered.{and_promised, none_kept, within, all_dropped}
use Rattle.carry_strays.proofs.catalogue.Goals.{After-put_rules}
use Rattle.carry_strays.proofs.catalogue.Goals as goal

pub returns-in_default : goal.returns-in_default
returns-in_default c =
    let h = and_promised _ _ (none_kept _ (no_rules_by foreign_field _ (sym c.in_default.is ∙ c.find_before.ensures)) _) in
    record { whole = h.0; promised = h.1 }

-- the rules that stand
standing : (c : After-put_rules) → OfFormBefore c.args.catalogue.now c.in-Some.kept
standing c = some_rules_by foreign_field _ c.in-Some.kept (sym c.in-Some.is ∙ c.find_before.ensures)

pub slice_bounds-put-end : goal.slice_bounds-put-end
slice_bounds-put-end c =
    let x = standing (goal.at.slice_bounds-put-end c).After-put_rules in
    let room = ap length c.no_bytes-bytes.ensures ∙ length-replicate {A = ℕ} longest_rules 0 in
    omega (arith, x.its_used, within _ _ x.of_form, room, c.put_rules.auto.bytes)

pub returns : goal.returns
returns c =
    let x = standing (goal.at.returns c).After-put_rules in
    let used = c.in-Some.kept.used in
    let h =
    and_promised _ _
    (all_dropped _ _ x.of_form c.no_bytes-bytes.ensures _ x.counted c.put_rules.ensures _ _
    (ap (λ (n : ℕ). take n c.put_rules.new.bytes) (sub-zero used ∙ x.its_used)) c.put.ensures) in
    record { whole = h.0; promised = h.1 }
