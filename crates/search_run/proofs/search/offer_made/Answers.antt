-- `search::offer_made` meets its contract: the child goes by what `look_up` finds, and by the room that is left. Follows from the laws of
-- a child offered.
use Prim.Native.Nat.{◌≤◌}
use native.Mathlib.Omega.{arith}
use mathlib.Core.Path.{◌≡◌, refl, sym, ◌∙◌}
use mathlib.Core.List.{List}
use lib.ListN.{length}
use borrow.Author.Rules.{rules}
use Rattle.paper.proofs.base.Tests.{le_leb}
use Rattle.paper.specs.Numbers.{situation_bytes}
use Rattle.base_codes.specs.Coded.{Coded, as_struct, Short}
use Rattle.search_buckets.specs.Buckets.{Kept, EnteredAt}
use Rattle.search_run.specs.Run.{enter_slot}
use Rattle.search_slots.specs.Slots.{Slot}
use Rattle.search_run.proofs.search.Keys.{key_put, bucket_put}
use Rattle.search_run.proofs.search.Offers.{offered_seen, offered_new}
use Rattle.search_run.proofs.search.offer_made.Goals.{After-look_up-seen}
use Rattle.search_run.proofs.search.offer_made.Goals as goal

-- what the look_up finds
looked : (c : After-look_up-seen) →
    let a = c.args in
    (k : Coded) (ss : List Slot) → a.s ≡ as_struct k → Short k → Kept a.work.now ss → length ss ≡ a.n → EnteredAt ss k c.look_up-seen.result
looked c k ss e s h l =
    let b = bucket_put k e c.key_of-key.ensures s c.args.work.now (omega (arith, c.requires.roomy.fits, c.requires.roomy.within)) c.bucket_of-b.ensures in
    c.look_up-seen.ensures k ss b.0 (key_put k e c.key_of-key.ensures) b.1 s h l

pub returns-then-is_some : goal.returns-then-is_some
returns-then-is_some c =
    let a = c.args in
    record {
      within = search rules;
      more = search rules;
      lent = λ k ss e s h l.
          rw (offered_seen a.room a.parent ss a.step k c.look_up-seen.result (sym c.is_some.ensures ∙ c.if-is_some.true) (looked (goal.at.returns-then-is_some c).After-look_up-seen k ss e s h l))
          (record { kept = h; entered = sym l; status = refl });
    }

pub returns-then-room-n : goal.returns-then-room-n
unfolding enter_slot
returns-then-room-n c =
    let a = c.args in
    record {
      within = omega (arith, c.no_room.ensures.0, c.requires.roomy.within);
      more = omega (arith, c.no_room.ensures.0);
      lent = λ k ss e s h l.
          rw (offered_new a.room a.parent ss a.step k c.look_up-seen.result (sym c.is_some.ensures ∙ c.if-is_some.false) (looked (goal.at.returns-then-room-n c).After-look_up-seen k ss e s h l), le_leb a.room (length ss) (omega arith))
          (record { kept = h; entered = c.no_room.ensures.0 ∙ sym l; status = c.no_room.ensures.1 });
    }

pub returns : goal.returns
returns c =
    let a = c.args in
    let room : situation_bytes ≤ length a.work.now = omega (arith, c.requires.roomy.fits, c.requires.roomy.within) in
    record {
      within = c.enter_with.ensures.within;
      more = c.enter_with.ensures.more;
      lent = λ k ss e s h l.
          rw (offered_new a.room a.parent ss a.step k c.look_up-seen.result (sym c.is_some.ensures ∙ c.if-is_some.false) (looked (goal.at.returns c).After-look_up-seen k ss e s h l))
          (c.enter_with.ensures.lent k ss (key_put k e c.key_of-key.ensures)
          (bucket_put k e c.key_of-key.ensures s a.work.now room c.bucket_of-b.ensures) s h l);
    }
