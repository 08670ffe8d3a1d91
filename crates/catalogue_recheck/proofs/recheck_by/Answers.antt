-- `recheck_by` meets its contract, from what was read and listed (`Rechecking`). Assumes nothing.
use Prim.Native.Nat.{ℕ}
use native.Mathlib.Nat.{sub-zero}
use native.Mathlib.Omega.{arith}
use mathlib.Core.Path.{◌≡◌, sym, ap, ◌∙◌}
use lib.ListN.{length, take, length-replicate}
use Rattle.catalogue_form.proofs.FormFound.{no_rules, some_rules}
use Rattle.catalogue_recheck.specs.PairList.{longest_list}
use Rattle.catalogue_form.specs.Kept.{OfForm}
use Rattle.catalogue_recheck.proofs.PairBytes.{five_at_least}
use Rattle.catalogue_recheck.proofs.Rechecking.{rechecks_none, rechecks_too_short, list_fits, rechecks_listed}
use Rattle.catalogue_recheck.proofs.recheck_by.Goals.{After-no_bytes-bytes, In-Some}
use Rattle.catalogue_recheck.proofs.recheck_by.Goals as goal

pub returns-in_default : goal.returns-in_default
returns-in_default c = rechecks_none _ _ _ _ (no_rules _ (sym c.in_default.is ∙ c.find.ensures))

-- the rules that stand
standing : (c : In-Some) → OfForm c.args.catalogue.now c.in-Some.kept
standing c = some_rules _ c.in-Some.kept (sym c.in-Some.is ∙ c.find.ensures)

-- room for the longest list
room : (c : After-no_bytes-bytes) → length c.no_bytes-bytes.result ≡ longest_list
room c = ap length c.no_bytes-bytes.ensures ∙ length-replicate {A = ℕ} longest_list 0

pub list_all-n-requires : goal.list_all-n-requires
list_all-n-requires c =
    let p = goal.at.list_all-n-requires c in
    record { catalogue = standing p.In-Some; bytes = room p.After-no_bytes-bytes }

pub returns-then-list-n : goal.returns-then-list-n
returns-then-list-n c =
    let x = standing (goal.at.returns-then-list-n c).In-Some in
    rechecks_too_short c.args.how x (c.list_all-n.ensures x) _ c.if-list-n.true

pub slice_bounds-put-end : goal.slice_bounds-put-end
slice_bounds-put-end c =
    let p = goal.at.slice_bounds-put-end c in
    let x = standing p.In-Some in
    let r = room p.After-no_bytes-bytes in
    omega (arith, list_fits c.args.how x (c.list_all-n.ensures x) r, r, c.list_all-n.auto.bytes)

pub nonzero_div-result : goal.nonzero_div-result
nonzero_div-result c = omega (arith, c.pair_bytes.ensures, five_at_least c.args.how)

pub returns : goal.returns
returns c =
    let p = goal.at.returns c in
    let x = standing p.In-Some in
    rw c.pair_bytes.ensures
    (rechecks_listed c.args.how x (c.list_all-n.ensures x) (room p.After-no_bytes-bytes) _ c.if-list-n.false _ _
    (ap (λ (n : ℕ). take n c.list_all-n.new.bytes) (sub-zero c.list_all-n.result)) c.put.ensures)
