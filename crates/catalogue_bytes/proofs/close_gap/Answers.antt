-- `close` closes a gap. Follows from the laws of `Gap`.
use Prim.Native.Nat.{ℕ}
use lib.ListN.{replicate}
use borrow.Author.Rules.{rules}
use native.Mathlib.Omega.{arith}
use mathlib.Core.Path.{ap, ◌∙◌}
use Rattle.catalogue_bytes.proofs.Gap.{gap_closed}
use Rattle.catalogue_bytes.proofs.close_gap.Goals as goal

pub returns : goal.returns
returns c =
    gap_closed c.args.at c.args.n c.args.catalogue.now c.requires _ _ _ _ (omega arith) c.copy_within.ensures.after c.copy_within.ensures.len (omega arith)
    (c.fill.ensures.after (search rules) ∙ ap (λ (k : ℕ). replicate k 0) (omega arith))
