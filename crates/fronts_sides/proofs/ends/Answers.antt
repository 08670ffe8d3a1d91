-- `ends` meets its contract. The loop's invariant: the answer is that for what is left of both sides.
use mathlib.Core.Path.{sym, ap₂, ◌∙◌}
use mathlib.Core.List.{reverse}
use Rattle.std.proofs.lemmas.Iterator.{YieldsList-from_zip}
use Rattle.std.proofs.lemmas.Iterator.Adapters.{YieldsList-from_rev_slice}
use Rattle.std.proofs.lemmas.Iterator.Consumers.{YieldsList-turn, YieldsList-end}
use Rattle.std.proofs.lemmas.List.{length_push}
use Rattle.paper_fronts.specs.FixedFronts.{fronts_differ}
use Rattle.base_editions.specs.Editions.{paper_edition}
use Rattle.fronts_sides.proofs.FixedWalk.{bytes_at, told_there, alike_there, alike_whole, said_reverse}
use Rattle.fronts_sides.proofs.ends.Goals as goal

pub returns-in-Some-at_place : goal.returns-in-Some-at_place
returns-in-Some-at_place c =
    let e = paper_edition c.args.edition in
    let t = bytes_at (reverse c.args.left.now) (reverse c.args.right.now) _ _ _ (YieldsList-turn (YieldsList-from_zip {s = c.into_iter-a-iterator.result} (YieldsList-from_rev_slice {s = c.into_iter-a-iterator.result.a} c.args.left.now (cc)) (YieldsList-from_rev_slice {s = c.into_iter-a-iterator.result.b} c.args.right.now (cc))) c.loop-a.yielded _ c.loop-a.yielded_by c.next.result c.next.new.self (c.in-Some.field-0-0, c.in-Some.field-0-1) c.in-Some.is c.next.ensures.steps) in
    let told = sym c.at_place.ensures ∙ c.in-Some-at_place.is in
    told_there e (reverse c.args.left.now) (reverse c.args.right.now) _ _ _ c.loop-a.invariant t c.in-Some-at_place.differ told ∙ sym (ap₂ fronts_differ (said_reverse e c.args.left.now) (said_reverse e c.args.right.now))

pub loop-a-preserved : goal.loop-a-preserved
loop-a-preserved c =
    let e = paper_edition c.args.edition in
    let t = bytes_at (reverse c.args.left.now) (reverse c.args.right.now) _ _ _ (YieldsList-turn (YieldsList-from_zip {s = c.into_iter-a-iterator.result} (YieldsList-from_rev_slice {s = c.into_iter-a-iterator.result.a} c.args.left.now (cc)) (YieldsList-from_rev_slice {s = c.into_iter-a-iterator.result.b} c.args.right.now (cc))) c.loop-a.yielded _ c.loop-a.yielded_by c.next.result c.next.new.self (c.in-Some.field-0-0, c.in-Some.field-0-1) c.in-Some.is c.next.ensures.steps) in
    let told = sym c.at_place.ensures ∙ c.in_default.is in
    rw length_push (alike_there e (reverse c.args.left.now) (reverse c.args.right.now) _ _ _ c.loop-a.invariant t told)

pub returns : goal.returns
returns c =
    let e = paper_edition c.args.edition in
    let t = YieldsList-end (YieldsList-from_zip {s = c.into_iter-a-iterator.result} (YieldsList-from_rev_slice {s = c.into_iter-a-iterator.result.a} c.args.left.now (cc)) (YieldsList-from_rev_slice {s = c.into_iter-a-iterator.result.b} c.args.right.now (cc))) c.loop-a.yielded _ c.loop-a.yielded_by c.next.result c.next.new.self c.in-None.is c.next.ensures.steps in
    alike_whole e (reverse c.args.left.now) (reverse c.args.right.now) _ c.loop-a.invariant t.1 ∙ sym (ap₂ fronts_differ (said_reverse e c.args.left.now) (said_reverse e c.args.right.now))
