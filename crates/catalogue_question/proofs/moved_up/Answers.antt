-- `moved_up` meets its contract: each code is moved up. Assumes nothing.
use Prim.Native.Nat.{◌<◌}
use native.Mathlib.Omega.{arith}
use mathlib.Core.Path.{◌≡◌, sym, ◌∙◌}
use mathlib.Core.List.{map}
use borrow.Author.Rules.{rules}
use lib.ListN.{length, get_or, length-map, get_or-map}
use Rattle.paper.specs.Numbers.{longest_side}
use lib.Seq.{ext_get_or}
use Rattle.catalogue_question.specs.PairCoded.{moved_code}
use Rattle.catalogue_question.proofs.moved_up.Goals as goal

pub returns : goal.returns
returns c =
    let m = c.map.ensures.items in
    let n : length c.args.side ≡ longest_side = search rules in
    ext_get_or 0 c.map.result (map moved_code c.args.side) (m.long ∙ sym (length-map c.args.side moved_code ∙ n))
    (λ i h.
    let below : i < longest_side = omega (arith, m.long) in
    let (p, q, k) = m.at i 0 0 below in
    let e : get_or c.map.result i 0 ≡ moved_code (get_or c.args.side i 0) = search rules in
    e ∙ sym (get_or-map moved_code c.args.side i 0))
