-- `search::offer_children` meets its contract. Follows from what is ensured of each step, and from the law that what is offered so are
-- the children.
use native.Mathlib.Omega.{arith}
use mathlib.Core.Path.{ap, subst, ◌∙◌}
use Rattle.base_codes.specs.Inner.{left_struck, right_struck}
use Rattle.base_codes.specs.Coded.{Coded}
use Rattle.search_children.specs.Children.{left_strike, right_strike, as_child}
use Rattle.search_children.specs.Laid.{child_of}
use Rattle.search_run.specs.Lent.{Lent, tables_within}
use Rattle.search_run.specs.Run.{offer_slots}
use Rattle.search_children.proofs.Short.{left_strike_short, right_strike_short}
use Rattle.search_run.proofs.search.Children.{denoted_is, children_offered}
use Rattle.search_run.proofs.search.offer_children.Goals as goal

pub offer_puts-requires : goal.offer_puts-requires
offer_puts-requires c =
    let r = c.requires.roomy in record {
      roomy = record { fits = omega (arith, c.offer-two.auto.work, c.offer-one.auto.work); most = r.most; within = c.offer-two.ensures.within; numbered = r.numbered };
      entered_nonzero = omega (arith, c.requires.entered_nonzero, c.offer-one.ensures.more, c.offer-two.ensures.more);
      row_lt_set_fields = (c.front_with-left.ensures.0, c.front_with-right.ensures.0);
    }

pub returns : goal.returns
returns c =
    let a = c.args in
    record {
      within = c.offer_puts.ensures.within;
      more = omega (arith, c.offer-one.ensures.more, c.offer-two.ensures.more, c.offer_puts.ensures.more);
      lent = λ R k t e h.
          let x = left_strike a.tables.now.last k in
          let y = right_strike a.tables.now.last k in
          let one = offer_slots a.room a.parent R (as_child left_struck x) in
          let two = offer_slots a.room a.parent one (as_child right_struck y) in
          let left-child = c.strike_left.ensures ∙ ap (λ (u : Coded). child_of (left_strike a.tables.now.last u)) (denoted_is h e) in
          let right_child = c.strike_right.ensures ∙ ap (λ (u : Coded). child_of (right_strike a.tables.now.last u)) (denoted_is h e) in
          let Lent-one = c.offer-one.ensures.lent R x t left-child (λ u f. left_strike_short a.tables.now.last h f) in
          let lent_two = c.offer-two.ensures.lent one y Lent-one right_child (λ u f. right_strike_short a.tables.now.last h f) in
          subst (Lent c.offer_puts.new.work c.offer_puts.result)
          (children_offered h e (tables_within a.tables.now) a.room a.parent R _ _
          (c.front_with-left.ensures.1 a.tables.now.taking.now) (c.front_with-right.ensures.1 a.tables.now.taking.now))
          (c.offer_puts.ensures.lent two k lent_two e h);
    }
