-- `fixed_weight` meets its contract, by the library's sum.
use Prim.Native.Nat.{ℕ, ◌≤◌}
use native.Mathlib.Omega.{arith}
use mathlib.Core.Path.{◌≡◌, ◌∙◌}
use mathlib.Core.Bool.{◌&&◌}
use lib.ListN.{length}
use borrow.Author.Rules.{rules}
use borrow.Author.Tests.{tests}
use Rattle.std.proofs.Common.{of_calls}
use Rattle.std.specs.List.{sum_by}
use Rattle.std.proofs.lemmas.Iterator.{YieldsList-from_slice, YieldsList-from_map}
use Rattle.std.proofs.lemmas.Iterator.Consumers.{YieldsList-at, sum_by_from_yields_List, fits_by_from_yields_list}
use Rattle.paper.specs.Numbers.{longest_side}
use Rattle.paper_decide.specs.Letters.{one_if}
use Rattle.base_codes.specs.Inner.{is_char, tokens}
use Rattle.base_codes.proofs.Tokens.{tokens_length}
use Rattle.decide_letters.specs.PatternStack.{counted}
use Rattle.decide_letters.proofs.InSides.{weight_summed, weight_le}
use Rattle.decide_letters.proofs.sides.fixed_weight.Goals.{Start}
use Rattle.decide_letters.proofs.sides.fixed_weight.Goals as goal

abbrev its : Start → ℕ → ℕ
its s b = one_if (is_char b && counted s.args.counting b)

-- a side has 48 bytes
few : (s : Start) → sum_by (its s) (tokens s.args.side) ≤ longest_side
few s =
    let side = s.args.side in
    let long : length side ≡ longest_side = search rules in
    omega (arith, weight_summed (counted s.args.counting) (tokens side), weight_le (counted s.args.counting) (tokens side), tokens_length side)

pub sum-requires : goal.sum-requires
sum-requires c =
    let s = (goal.at.sum-requires c).Start in
    let f = few s in
    record {
      can = search of_calls;
      finite = search of_calls;
      fits =
          fits_by_from_yields_list _ _ c.map.result _
          (YieldsList-from_map _ (its s) (YieldsList-at c.map.ensures.source (YieldsList-from_slice (tokens c.args.side) (cc))) c.map.ensures.closure (λ x r q k. search (rules, tests)))
          (omega arith);
    }

pub returns : goal.returns
returns c =
    let s = (goal.at.returns c).Start in
    let f = few s in
    let e =
    sum_by_from_yields_List _ _ c.map.result _ c.sum.ensures.ran
    (YieldsList-from_map _ (its s) (YieldsList-at c.map.ensures.source (YieldsList-from_slice (tokens c.args.side) (cc))) c.map.ensures.closure (λ x r q k. search (rules, tests))) in
    (omega (arith, e), e ∙ weight_summed (counted c.args.counting) (tokens c.args.side))
