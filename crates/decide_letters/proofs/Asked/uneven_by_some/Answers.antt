-- `uneven_by_some` meets its contract. The loop's invariant: by none of the tokens before this one the sides are uneven.
use native.Mathlib.Numerals.{add-one}
use mathlib.Core.Path.{refl, sym, ap, ◌∙◌}
use lib.ListN.{drop_of_length-le}
use lib.Seq.{drop-cons}
use Rattle.paper.specs.Lists.{any}
use Rattle.paper.proofs.base.Tests.{true_false}
use Rattle.decide_letters.specs.LettersCoded.{uneven_by_one}
use Rattle.decide_letters.specs.Uneven.{uneven_asked}
use Rattle.decide_letters.proofs.Tried.{tried_one, tried_on}
use Rattle.decide_letters.proofs.Asked.uneven_by_some.Goals as goal

pub loop-b-init : goal.loop-b-init
loop-b-init c = (c.requires, refl)

pub uneven_by_one-requires : goal.uneven_by_one-requires
uneven_by_one-requires c = c.loop-b.invariant.0

pub returns-then-uneven_by_one : goal.returns-then-uneven_by_one
returns-then-uneven_by_one c =
    let p = uneven_by_one (uneven_asked c.args.self.now) c.args.space in
    record {
      uneven =
          tried_one p (drop-cons c.tokens_of-b-items.result.now c.loop-b.b-index 0 c.loop-b-test.true) (sym c.uneven_by_one.ensures.uneven ∙ c.if-uneven_by_one.true)
          ∙ c.loop-b.invariant.1 ∙ ap (any p) c.tokens_of-b-items.ensures;
      seen = λ e. absurd (true_false refl e);
    }

pub loop-b-preserved : goal.loop-b-preserved
loop-b-preserved c =
    let p = uneven_by_one (uneven_asked c.args.self.now) c.args.space in (
      c.uneven_by_one.ensures.seen c.if-uneven_by_one.false,
      rw (add-one c.loop-b.b-index)
          (tried_on p (drop-cons c.tokens_of-b-items.result.now c.loop-b.b-index 0 c.loop-b-test.true) (sym c.uneven_by_one.ensures.uneven ∙ c.if-uneven_by_one.false)
          ∙ c.loop-b.invariant.1),
    )

pub returns : goal.returns
returns c =
    let p = uneven_by_one (uneven_asked c.args.self.now) c.args.space in
    record {
      uneven =
          sym (ap (any p) (drop_of_length-le c.tokens_of-b-items.result.now c.loop-b-test.false))
          ∙ c.loop-b.invariant.1 ∙ ap (any p) c.tokens_of-b-items.ensures;
      seen = λ _. c.loop-b.invariant.0;
    }
