-- `uneven_by_one` meets its contract, test by test.
use Prim.Native.Nat.{ℕ}
use mathlib.Core.Path.{◌≡◌, sym, ap, ◌∙◌}
use Rattle.paper_decide.specs.Letters.{this_one}
use Rattle.decide_letters.specs.Uneven.{uneven_asked}
use Rattle.decide_letters.proofs.Tried.{no_character, is_space, was_seen, is_tried, seen_more}
use Rattle.decide_letters.proofs.Asked.uneven_by_one.Goals as goal

pub returns-then-b-ge-FIELD_CODE : goal.returns-then-b-ge-FIELD_CODE
returns-then-b-ge-FIELD_CODE c =
    record {
      uneven = sym (no_character (uneven_asked c.args.self.now) c.args.space c.args.b c.if-b-ge-FIELD_CODE.true);
      seen = λ _. c.requires;
    }

pub returns-then-space-c : goal.returns-then-space-c
returns-then-space-c c =
    record {
      uneven = sym (is_space (uneven_asked c.args.self.now) c.args.space c.args.b (c.if-space-c.true ∙ c.wide-c.ensures));
      seen = λ _. c.requires;
    }

pub returns-then-seen-c : goal.returns-then-seen-c
returns-then-seen-c c =
    let u = uneven_asked c.args.self.now in
    record {
      uneven = sym (was_seen u c.args.space c.args.b (ap (λ (x : ℕ). u (this_one x)) (sym c.wide-c.ensures) ∙ c.requires.even c.wide-c.result c.if-seen-c.true));
      seen = λ _. c.requires;
    }

pub returns : goal.returns
returns c =
    let u = uneven_asked c.args.self.now in
    let space = c.args.space in
    let its = c.wide-c.ensures in
    record {
      uneven =
          c.uneven.ensures ∙ ap (λ (x : ℕ). u (this_one x)) its
          ∙ sym (is_tried u space c.args.b c.if-b-ge-FIELD_CODE.false (λ (e : space ≡ c.args.b). c.if-space-c.false (e ∙ sym its)));
      seen = λ e. seen_more u _ c.wide-c.result c.requires (sym c.uneven.ensures ∙ e);
    }
