-- `length_of` meets its contract: the first byte that is no token stands behind them.
use native.Mathlib.Omega.{arith}
use mathlib.Core.Path.{◌≡◌, sym, ◌∙◌}
use mathlib.Core.Bool.{cond}
use lib.Dec.{eqb, ltb}
use lib.ListN.{length}
use Rattle.std.proofs.Common.{rules, tests, ℕ, Some, None}
use Rattle.std.proofs.lemmas.Iterator.{YieldsList-from_slice}
use Rattle.std.proofs.lemmas.Iterator.Search.{position_from_yields_List}
use Rattle.std.specs.List.{prefix_len}
use Rattle.paper.specs.Numbers.{longest_side}
use Rattle.base_codes.specs.Inner.{no_token, is_code, tokens}
use Rattle.base_codes.proofs.Tokens.{tokens_part, tokens_count, tokens_length, place_or_last}
use Rattle.base_codes.proofs.length_of.Goals as goal

pub returns : goal.returns
returns c =
    let side = c.args.side in
    let n = prefix_len is_code side in
    let found : c.position.result ≡ cond (ltb n (length side)) (Some n) None = position_from_yields_List (λ (b : ℕ). eqb b no_token) _ _ c.position.result c.position.ensures.ran (YieldsList-from_slice side c.iter.ensures.rest) (λ x b q k. search (rules, tests)) in
    let k : length (tokens side) ≡ n = tokens_count side in
    let l : length side ≡ longest_side = search rules in
    let e : c.unwrap_or.result ≡ length (tokens side) = c.unwrap_or.ensures ∙ rw (found, l) (place_or_last n longest_side (omega (arith, tokens_length side))) ∙ sym k in
    (omega (arith, tokens_length side), e, rw e (tokens_part side))
