-- `search::offer_puts` meets its contract. The loop's invariant: the children by the characters below c are offered. Follows from the
-- laws of the characters that are left out.
use Prim.Native.Nat.{ℕ, ◌<◌}
use native.Mathlib.Omega.{arith}
use native.Mathlib.Nat.{le_refl}
use mathlib.Core.Path.{refl, sym, ap, subst, ◌∙◌}
use mathlib.Core.List.{List}
use Rattle.paper.specs.Lists.{each, upto}
use Rattle.paper.specs.Numbers.{most_characters, set_fields}
use Rattle.paper.specs.Search.{Child}
use Rattle.search_fronts.specs.Fronts.{Front, with_row, set_by}
use Rattle.base_places.specs.Masks.{within}
use Rattle.base_codes.specs.Coded.{Coded}
use Rattle.search_children.specs.Children.{put_child, put_of}
use Rattle.search_children.specs.Laid.{child_of}
use Rattle.search_run.specs.Lent.{Lent}
use Rattle.search_run.specs.Run.{Running, offer_slots}
use Rattle.search_children.proofs.Short.{put_short, put_taken, put_not_taken}
use Rattle.search_run.proofs.search.Children.{denoted_is}
use Rattle.search_run.proofs.search.Offers.{lent_more}
use Rattle.search_run.proofs.search.Puts.{by_character, none_first, none_left}
use Rattle.search_run.proofs.search.offer_puts.Goals.{At-loop-c, In-loop-c, Start, then-both_take, else-both_take}
use Rattle.search_run.proofs.search.offer_puts.Goals as goal

-- the fronts, with their rows
abbrev left-front : Start → Front
left-front p = with_row p.args.tables.now.taking.now p.args.left

abbrev right-front : Start → Front
right-front p = with_row p.args.tables.now.taking.now p.args.right

pub loop-c-init : goal.loop-c-init
loop-c-init c =
    let starts = c.may_be_put-candidates in
    let a = c.args in (
      omega (arith, c.within-characters.ensures.0, starts.ensures.starts.0),
      refl,
      record {
        within = c.requires.roomy.within;
        more = le_refl _;
        lent = λ R k l e h. rw (none_first c.within-characters.result k (left-front (goal.at.loop-c-init c).Start) (right-front (goal.at.loop-c-init c).Start) starts.result.start starts.ensures.starts) l;
      },
    )

-- the number of a row and that of a character lie in the table
rows-below : (c : At-loop-c)
    → (c.args.left.row < set_fields) × (c.args.right.row < set_fields)
rows-below c = c.requires.row_lt_set_fields

character-below : (c : In-loop-c) → c.loop-c.c < most_characters
character-below c =
    omega (arith, c.within-characters.ensures.1, c.may_be_put-candidates.ensures.ends.0, c.loop-c-test.true)

pub offset_bounds-taking-l : goal.offset_bounds-taking-l
offset_bounds-taking-l c = omega (arith, rows-below (goal.at.offset_bounds-taking-l c).At-loop-c)

pub offset_bounds-taking-c : goal.offset_bounds-taking-c
offset_bounds-taking-c c = omega (arith, character-below (goal.at.offset_bounds-taking-c c).In-loop-c)

pub bounds-taking-l : goal.bounds-taking-l
bounds-taking-l c = (rows-below (goal.at.bounds-taking-l c).At-loop-c).0

pub bounds-taking-c : goal.bounds-taking-c
bounds-taking-c c = character-below (goal.at.bounds-taking-c c).In-loop-c

pub offset_bounds-taking-r : goal.offset_bounds-taking-r
offset_bounds-taking-r c = omega (arith, rows-below (goal.at.offset_bounds-taking-r c).At-loop-c)

pub offset_bounds-taking-c-in-loop-c : goal.offset_bounds-taking-c-in-loop-c
offset_bounds-taking-c-in-loop-c c = omega (arith, character-below (goal.at.offset_bounds-taking-c-in-loop-c c).In-loop-c)

pub bounds-taking-r : goal.bounds-taking-r
bounds-taking-r c = (rows-below (goal.at.bounds-taking-r c).At-loop-c).1

pub bounds-taking-c-in-loop-c : goal.bounds-taking-c-in-loop-c
bounds-taking-c-in-loop-c c = character-below (goal.at.bounds-taking-c-in-loop-c c).In-loop-c

pub offer-now-requires : goal.offer-now-requires
offer-now-requires c =
    let v = c.loop-c.invariant.2 in record {
      roomy = record { fits = omega arith; most = c.requires.roomy.most; within = v.within; numbered = c.requires.roomy.numbered };
      entered_nonzero = omega (arith, c.requires.entered_nonzero, v.more);
    }

pub loop-c-preserved : goal.loop-c-preserved
loop-c-preserved c =
    let i = c.loop-c.c in
    let v = c.loop-c.invariant.2 in
    let a = c.args in
    let below : i < most_characters = character-below (goal.at.loop-c-preserved c).In-loop-c in
    let next : i < within a.tables.now.characters = omega (arith, c.within-characters.ensures.0, c.may_be_put-candidates.ensures.ends.0, c.loop-c-test.true) in
    let b = c.both_take in
    let l = left-front (goal.at.loop-c-preserved c).Start in
    let r = right-front (goal.at.loop-c-preserved c).Start in
    let done : Running → Coded → Running = λ R k. offer_slots a.room a.parent R (each (by_character k l r) (upto i)) in (
      omega arith,
      elim c.if-both_take.branch [
        | then-both_take w ↦ rw w.work-is (w.offer-now.auto.work ∙ c.loop-c.invariant.1)
        | else-both_take w ↦ rw w.work-is c.loop-c.invariant.1
      ],
      elim c.if-both_take.branch [
        | then-both_take w ↦ record {
          within = rw w.now-is w.offer-now.ensures.within;
          more = rw w.now-is (omega (arith, v.more, w.offer-now.ensures.more));
          lent = λ R k t e h.
              lent_more a.room a.parent R (by_character k l r) i
              (rw (w.work-is, w.now-is)
              (w.offer-now.ensures.lent (done R k) (put_of k l r i) (v.lent R k t e h)
              (w.put-child.ensures ∙ ap (λ (x : Coded). child_of (put_child x i (set_by l i) (set_by r i))) (denoted_is h e)
              ∙ sym (ap child_of (put_taken k l r i b.result b.ensures w.if-both_take.true)))
              (λ u f. put_short l r i below h f)));
        }
        | else-both_take w ↦ record {
          within = rw w.now-is v.within;
          more = rw w.now-is v.more;
          lent = λ R k t e h.
              lent_more a.room a.parent R (by_character k l r) i
              (rw (w.work-is, w.now-is, put_not_taken k l r i b.result b.ensures w.if-both_take.false) (v.lent R k t e h));
        }
      ],
    )

pub shape_of-work : goal.shape_of-work
shape_of-work c = c.loop-c.invariant.1

pub returns : goal.returns
returns c =
    let l = c.loop-c in
    let ends = c.may_be_put-candidates in
    let a = c.args in
    let v = l.invariant.2 in
    record {
      within = v.within;
      more = v.more;
      lent = λ R k t e h.
          subst (λ (x : List (Child Coded ℕ)). Lent l.work l.now (offer_slots a.room a.parent R x))
          (none_left (within a.tables.now.characters) k (left-front (goal.at.returns c).Start) (right-front (goal.at.returns c).Start) ends.result.end l.c (rw c.within-characters.ensures.0 at ends.ensures.ends) (omega arith) l.invariant.0) (v.lent R k t e h);
    }
