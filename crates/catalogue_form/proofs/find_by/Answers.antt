-- `find_by` meets its contract. The loop's invariant: the catalogue is read so far (`Reached`). The measure is what is left. Assumes nothing.
use Prim.Native.Nat.{◌+◌, ◌≤◌, ◌<◌}
use native.Mathlib.Omega.{arith}
use mathlib.Core.Path.{◌≡◌, sym, ap, ◌∙◌}
use mathlib.Core.Bool.{false}
use borrow.Author.Rules.{part_to_end}
use lib.ListN.{length, drop}
use Rattle.paper_catalogue.specs.Catalogue.{all_zero}
use Rattle.catalogue_form.specs.Kept.{unfit_by, kept_of, front_bytes}
use Rattle.catalogue_form.proofs.FrontBytes.{Next, some_front}
use Rattle.catalogue_form.proofs.Reached.{reached_start, reached_none, next_inside, reached_more, reached_end}
use Rattle.catalogue_form.proofs.find_by.Goals.{After-front_bytes, After-is_zero, In_ok-next, In-loop-begins}
use Rattle.catalogue_form.proofs.find_by.Goals as goal

pub loop-begins-init : goal.loop-begins-init
loop-begins-init c = reached_start _ _ _ c.no_begins-begins.ensures

pub slice_bounds-is_zero-count : goal.slice_bounds-is_zero-count
slice_bounds-is_zero-count c = c.loop-begins.invariant.inside

pub slice_bounds-is_zero-start : goal.slice_bounds-is_zero-start
slice_bounds-is_zero-start c = c.loop-begins.invariant.inside

-- the bytes that are left, zero or not
zeros : (c : After-is_zero) → c.is_zero.result ≡ all_zero (drop c.loop-begins.used c.args.catalogue.now)
zeros c = c.is_zero.ensures ∙ ap all_zero (part_to_end c.args.catalogue.now c.loop-begins.used)

not_zeros : (c : In-loop-begins) → all_zero (drop c.loop-begins.used c.args.catalogue.now) ≡ false
not_zeros c = sym (c.is_zero.ensures ∙ ap all_zero (part_to_end c.args.catalogue.now c.loop-begins.used)) ∙ c.loop-begins-test.true

pub slice_bounds-front_bytes-count : goal.slice_bounds-front_bytes-count
slice_bounds-front_bytes-count c = c.loop-begins.invariant.inside

pub slice_bounds-front_bytes-start : goal.slice_bounds-front_bytes-start
slice_bounds-front_bytes-start c = c.loop-begins.invariant.inside

-- the bytes of the rule that comes next
next-bytes : (c : After-front_bytes)
    → c.front_bytes.result ≡ front_bytes (unfit_by c.args.strict) c.loop-begins.rules (drop c.loop-begins.used c.args.catalogue.now)
next-bytes c =
    c.front_bytes.ensures
    ∙ ap (front_bytes (unfit_by c.args.strict) c.loop-begins.rules) (part_to_end c.args.catalogue.now c.loop-begins.used)

-- no rule comes next
pub returns-in_err-next : goal.returns-in_err-next
returns-in_err-next c =
    let p = goal.at.returns-in_err-next c in
    c.from_residual.ensures
    ∙ sym (ap kept_of (reached_none c.loop-begins.invariant (not_zeros p.In-loop-begins) (sym (next-bytes p.After-front_bytes) ∙ c.in_err-next.was)))

-- the rule that comes next
next-rule : (c : In_ok-next) → Next (unfit_by c.args.strict) c.loop-begins.rules (drop c.loop-begins.used c.args.catalogue.now) c.in_ok-next.next
next-rule c =
    some_front _ _ _ c.in_ok-next.next
    (sym c.in_ok-next.was
    ∙ c.front_bytes.ensures
    ∙ ap (front_bytes (unfit_by c.args.strict) c.loop-begins.rules) (part_to_end c.args.catalogue.now c.loop-begins.used))

-- it lies inside the catalogue
inside : (c : In_ok-next) →
    let next = c.in_ok-next.next in
    (0 < next) × (c.loop-begins.used + next ≤ length c.args.catalogue.now)
inside c = next_inside c.loop-begins.invariant (next-rule c)

pub overflow_add-used : goal.overflow_add-used
overflow_add-used c = omega (arith, (inside (goal.at.overflow_add-used c).In_ok-next).1)

pub overflow_add-rules : goal.overflow_add-rules
overflow_add-rules c = omega (arith, (next-rule (goal.at.overflow_add-rules c).In_ok-next).few)

pub offset_bounds-begins-rules : goal.offset_bounds-begins-rules
offset_bounds-begins-rules c = omega (arith, (next-rule (goal.at.offset_bounds-begins-rules c).In_ok-next).few)

pub bounds-begins-rules : goal.bounds-begins-rules
bounds-begins-rules c = omega (arith, (next-rule (goal.at.bounds-begins-rules c).In_ok-next).few)

pub loop-begins-smaller : goal.loop-begins-smaller
loop-begins-smaller c = omega (arith, (inside (goal.at.loop-begins-smaller c).In_ok-next).0, (inside (goal.at.loop-begins-smaller c).In_ok-next).1)

pub loop-begins-preserved : goal.loop-begins-preserved
loop-begins-preserved c =
    let p = goal.at.loop-begins-preserved c in
    reached_more c.loop-begins.invariant (not_zeros p.In-loop-begins) (next-rule p.In_ok-next)

pub returns : goal.returns
returns c = reached_end c.loop-begins.invariant (sym (zeros (goal.at.returns c).After-is_zero) ∙ c.loop-begins-test.false)
