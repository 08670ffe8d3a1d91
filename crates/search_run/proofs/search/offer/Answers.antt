-- `search::offer` meets its contract: a search that has ended rests, and a child goes by its fate. Follows from the laws of a child
-- offered.
use mathlib.Core.Path.{◌≡◌, sym, ◌∙◌}
use mathlib.Core.Bool.{true, false}
use borrow.Author.Rules.{rules}
use Rattle.search_run.specs.Run.{is_going}
use Rattle.search_children.proofs.Short.{child_dropped, child_above, child_made}
use Rattle.search_run.proofs.search.Offers.{offered_ended, offered_above, offered_made}
use Rattle.search_run.proofs.search.offer.Goals.{Else-not-is_going}
use Rattle.search_run.proofs.search.offer.Goals as goal

pub returns-then-not-is_going : goal.returns-then-not-is_going
returns-then-not-is_going c =
    let a = c.args in
    let h : is_going a.run.status ≡ false = sym c.is_going.ensures ∙ c.if-not-is_going.true in
    record { within = search rules; more = search rules; lent = λ R x l b s. offered_ended l a.room a.parent a.step x h }

-- past the first test the search is going
going : (c : Else-not-is_going) → is_going c.args.run.status ≡ true
going c = sym c.is_going.ensures ∙ c.if-not-is_going.false

pub returns-in-Dropped : goal.returns-in-Dropped
returns-in-Dropped c =
    record {
      within = search rules;
      more = search rules;
      lent = λ R x l b s. rw (child_dropped x (sym b ∙ c.in-Dropped.is)) l;
    }

pub returns-in-Above : goal.returns-in-Above
returns-in-Above c =
    let a = c.args in
    record {
      within = search rules;
      more = search rules;
      lent = λ R x l b s.
          rw (child_above x (sym b ∙ c.in-Above.is))
          (offered_above l a.room a.parent a.step (going (goal.at.returns-in-Above c).Else-not-is_going));
    }

pub returns-in-Made : goal.returns-in-Made
returns-in-Made c =
    let a = c.args in
    record {
      within = c.offer_made.ensures.within;
      more = c.offer_made.ensures.more;
      lent = λ R x l b s.
          let k = child_made x c.in-Made.s (sym b ∙ c.in-Made.is) in
          rw k.1
          (offered_made l a.room a.parent a.step k.0 (going (goal.at.returns-in-Made c).Else-not-is_going)
          (c.offer_made.ensures.lent k.0 R.slots k.2 (s k.0 k.1) l.kept (sym l.entered)));
    }
