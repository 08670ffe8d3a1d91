-- `catalogue` meets its contract, from what was read and put (`CarryAnswered`).
use Prim.Native.Nat.{ℕ}
use native.Mathlib.Nat.{sub-zero}
use native.Mathlib.Omega.{arith}
use mathlib.Core.Path.{◌≡◌, sym, ap, ◌∙◌}
use lib.ListN.{length, take, length-replicate}
use Rattle.catalogue_form.specs.Kept.{OfForm}
use Rattle.catalogue_form.proofs.FormFound.{no_rules, some_rules}
use Rattle.paper_carry.specs.Spelling.{longest_rules}
use Rattle.carry_open.proofs.CarryAnswered.{and_promised, none_kept, within, too_full, all_put}
use Rattle.carry_open.proofs.catalogue.Goals.{After-put_rules-n}
use Rattle.carry_open.proofs.catalogue.Goals as goal

pub returns-in_default : goal.returns-in_default
returns-in_default c = let h = and_promised _ _ (none_kept _ (no_rules _ (sym c.in_default.is ∙ c.find.ensures))) in record { whole = h.0; promised = h.1 }

-- the rules that stand
standing : (c : After-put_rules-n) → OfForm c.args.catalogue.now c.in-Some.kept
standing c = some_rules _ c.in-Some.kept (sym c.in-Some.is ∙ c.find.ensures)

-- room for the longest rules
room : (c : After-put_rules-n) → length c.no_bytes-bytes.result ≡ longest_rules
room c = ap length c.no_bytes-bytes.ensures ∙ length-replicate {A = ℕ} longest_rules 0

pub returns-then-catalogue-n : goal.returns-then-catalogue-n
returns-then-catalogue-n c =
    let x = standing (goal.at.returns-then-catalogue-n c).After-put_rules-n in
    let h = and_promised _ _ (too_full _ _ x.of_form _ x.counted c.put_rules-n.ensures c.if-catalogue-n.true) in
    record { whole = h.0; promised = h.1 }

pub slice_bounds-put-end : goal.slice_bounds-put-end
slice_bounds-put-end c =
    let p = (goal.at.slice_bounds-put-end c).After-put_rules-n in
    let x = standing p in
    omega (arith, within _ _ x.of_form _ x.counted c.put_rules-n.ensures, room p, c.put_rules-n.auto.bytes)

pub returns : goal.returns
returns c =
    let p = (goal.at.returns c).After-put_rules-n in
    let x = standing p in
    let h =
    and_promised _ _
    (all_put _ _ x.of_form _ x.counted c.put_rules-n.ensures (room p) c.if-catalogue-n.false _ _
    (ap (λ (n : ℕ). take n c.put_rules-n.new.bytes) (sub-zero c.put_rules-n.result)) c.put.ensures) in
    record { whole = h.0; promised = h.1 }
