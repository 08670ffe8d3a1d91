-- `side` meets its contract: each way out is the case of the definition that the checks on the way leave (`RecordChecks`).
use Prim.Native.Nat.{ℕ, ◌<◌, ◌≤◌}
use mathlib.Core.Path.{refl, ◌∙◌, subst}
use lib.ListN.{length}
use Rattle.base_put.proofs.Counting.{counted_then}
use Rattle.write_records.proofs.RecordChecks.{side_refused, token_refused, side_put}
use Rattle.write_records.proofs.side.Goals as goal

pub returns-then-n-gt-SHEET_SIDE : goal.returns-then-n-gt-SHEET_SIDE
returns-then-n-gt-SHEET_SIDE c m e = side_refused _ m _ _ c.if-n-gt-SHEET_SIDE.true c.refuse.ensures

pub returns-then-good-n : goal.returns-then-good-n
returns-then-good-n c m e =
    let same = c.leading_tokens-good.ensures in
    let tokens = c.args.tokens in
    token_refused _ m tokens.now _ c.if-n-gt-SHEET_SIDE.false (subst (λ (n : ℕ). n < length tokens.now) same c.if-good-n.true)
    (c.refuse-then-good-n.ensures ∙ rw same)

pub returns : goal.returns
returns c m e =
    let tokens = c.args.tokens in
    let put = counted_then (counted_then c.put_all-marked.ensures c.put-measured.ensures) c.put_all.ensures in
    side_put _ m tokens.now _ c.if-n-gt-SHEET_SIDE.false (subst (λ (n : ℕ). length tokens.now ≤ n) c.leading_tokens-good.ensures c.if-good-n.false)
    _ e put refl
