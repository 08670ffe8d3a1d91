-- What is told of a text: what spelling it is by the rules.
--   told_no_text, told_no_room, told_spelt_out : by the bytes and by the room
--   and_promised                               : with it all that is promised
-- Follows from how long the spelling is (`SpeltWalk`).
use Prim.Native.Nat.{ℕ, ◌+◌, ◌≤◌, ◌<◌}
use native.Mathlib.Omega.{arith}
use mathlib.Core.Path.{◌≡◌, sym, subst}
use mathlib.Core.Bool.{true, false}
use mathlib.Core.List.{List}
use Rattle.std.proofs.Common.{Ok, Err}
use lib.ListN.{length}
use Rattle.paper.proofs.base.Tests.{lt_ltb, le_ltb}
use Rattle.paper_spell.specs.FullAscii.{spelt, is_text}
use Rattle.paper_spell.specs.Spell.{SpellAnswer, put_bytes, spelling_text, SpellPromised}
use Rattle.paper_spell.proofs.Promised.{spell_promised}
use Rattle.base_put.specs.Counted.{last_place, Counted}
use Rattle.base_put.proofs.Counting.{counted_length, counted_in_front}
use Rattle.spell_text.specs.SpeltNumbers.{told_spelt, shifts_in}
use Rattle.spell_text.specs.declared.SpellError.TheVariants.{NotInTable, TooShort}
use Rattle.spell_text.proofs.SpeltWalk.{spelt_shifts}

-- bytes that are put in front of a buffer that has room, or not
pub put_short : (bytes out : List ℕ) → length out < length bytes → told_spelt (Err TooShort) out ≡ put_bytes bytes out
put_short bytes out h = rw (lt_ltb (length out) (length bytes) h)

pub put_whole : {bytes out after : List ℕ} {n : ℕ} → length out ≤ last_place → length bytes ≤ length out → Counted out after 0 n bytes
    → told_spelt (Ok n) after ≡ put_bytes bytes out
put_whole {bytes} {out} top h p =
    rw (le_ltb (length out) (length bytes) h, counted_length p (omega arith), counted_in_front p (omega arith) h)

module _ (text out : List ℕ) where
  pub told_no_text : is_text text ≡ false → told_spelt (Err NotInTable) out ≡ spelling_text text out
  unfolding spelling_text
  told_no_text e = rw e

  module _ (e : is_text text ≡ true) where
    pub told_no_room : length out < length text + shifts_in text → told_spelt (Err TooShort) out ≡ spelling_text text out
    unfolding spelling_text
    told_no_room h = rw e (put_short (spelt text) out (omega (arith, spelt_shifts text)))

    pub told_spelt_out : {after : List ℕ} {n : ℕ} → length out ≤ last_place → length text + shifts_in text ≤ length out → Counted out after 0 n (spelt text)
        → told_spelt (Ok n) after ≡ spelling_text text out
    unfolding spelling_text
    told_spelt_out top h p = rw e (put_whole top (omega (arith, spelt_shifts text)) p)

  pub and_promised : (s : SpellAnswer) → s ≡ spelling_text text out → (s ≡ spelling_text text out) × SpellPromised text out s
  and_promised s e = (e, subst (SpellPromised text out) (sym e) (spell_promised text out))
