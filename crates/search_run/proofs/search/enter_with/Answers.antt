-- `search::enter_with` meets its contract: one slot more. Follows from what `write_slot` and `is_finished` ensure.
use native.Mathlib.Omega.{arith}
use mathlib.Core.Path.{◌≡◌, refl, sym, ◌∙◌}
use mathlib.Core.Bool.{true, false}
use lib.ListN.{length, length-append}
use borrow.Author.Rules.{rules}
use Rattle.paper.proofs.base.Tests.{lt_leb}
use Rattle.base_codes.specs.Coded.{finished_coded}
use Rattle.search_run.specs.Run.{enter_slot}
use Rattle.search_run.proofs.search.enter_with.Goals as goal

pub returns-then-is_finished : goal.returns-then-is_finished
unfolding enter_slot
returns-then-is_finished c =
    let room = c.args.room in
    record {
      within = search rules;
      more = search rules;
      lent = λ k ss bytes b s h l.
          let f : finished_coded k ≡ true = sym (c.is_finished.ensures k s bytes) ∙ c.if-is_finished.true in
          rw (lt_leb room (length ss) (omega arith), f)
          (record { kept = c.write_slot.ensures k ss (omega (arith, c.requires.roomy.fits), omega (arith, c.requires.roomy.most), b.0) bytes b.1 s h l; entered = rw length-append (omega arith); status = refl });
    }

pub returns : goal.returns
unfolding enter_slot
returns c =
    let room = c.args.room in
    record {
      within = search rules;
      more = search rules;
      lent = λ k ss bytes b s h l.
          let f : finished_coded k ≡ false = sym (c.is_finished.ensures k s bytes) ∙ c.if-is_finished.false in
          rw (lt_leb room (length ss) (omega arith), f)
          (record { kept = c.write_slot.ensures k ss (omega (arith, c.requires.roomy.fits), omega (arith, c.requires.roomy.most), b.0) bytes b.1 s h l; entered = rw length-append (omega arith); status = refl });
    }
