-- What is told of a spelt text: what reading it back is by the rules.
--   told_no_text, told_no_room, told_read : by what was read and by the room
--   and_promised                          : with it all that is promised
-- Follows from what is put (`Puts`), and from how long what is read back can be (`Texts` of `paper_spell`).
use Prim.Native.Nat.{ℕ, ◌≤◌, ◌<◌}
use native.Mathlib.Omega.{arith}
use mathlib.Core.Path.{◌≡◌, refl, sym, ap, ◌∙◌, subst}
use mathlib.Core.List.{List, [], ◌∷◌, ◌++◌}
use lib.ListN.{length}
use Rattle.std.proofs.Common.{Option, Some, None, Ok, Err}
use Rattle.paper_spell.specs.FullAscii.{ReadBack, text, read_back}
use Rattle.paper_spell.specs.Spell.{SpellAnswer, reading_spelt, ReadPromised}
use Rattle.paper_spell.proofs.Promised.{read_promised}
use Rattle.paper_spell.proofs.Texts.{text_length}
use Rattle.base_put.specs.Counted.{last_place}
use Rattle.base_put.proofs.Counting.{counted_length}
use Rattle.spell_text.specs.SpeltNumbers.{told_spelt}
use Rattle.spell_text.specs.declared.SpellError.TheVariants.{NotInTable, TooShort}
use Rattle.spell_text.proofs.SpellAnswered.{put_short, put_whole}
use Rattle.spell_back.specs.BackPut.{Puts, refused, put}

-- nothing is put into no bytes
pub none_put : (e : List ℕ) → length e ≡ 0 → (out : List ℕ) → e ++ out ≡ out
none_put [] h out = refl
none_put (b ∷ e) h out = absurd (omega arith)

module _ (spelt out : List ℕ) (top : length spelt ≤ last_place) where
  -- the text that was put, and how long it is
  length_of : {d e : List ℕ} {n : ℕ} {x : ReadBack} → read_back spelt ≡ x → Puts d e (Some n) x → (t : List ℕ) × ((read_back spelt ≡ text t) × (n ≡ length t))
  length_of e (put t n p) = (t, (e, counted_length p (omega (arith, text_length spelt t e))))

  pub told_no_text : {d e : List ℕ} {x : ReadBack} → read_back spelt ≡ x → Puts d e None x → told_spelt (Err NotInTable) out ≡ reading_spelt spelt out
  unfolding reading_spelt
  told_no_text e refused = rw e

  module _ {d e : List ℕ} {n : ℕ} (p : Puts d e (Some n) (read_back spelt)) where
    pub told_no_room : length out < n → told_spelt (Err TooShort) out ≡ reading_spelt spelt out
    unfolding reading_spelt
    told_no_room h = let (t, (e, long)) = length_of refl p in rw e (put_short t out (omega (arith, long)))

    read_by : {after : List ℕ} {r : Option ℕ} {x : ReadBack} → length out ≤ last_place → n ≤ length out → read_back spelt ≡ x → Puts out after r x
        → told_spelt (Ok n) after ≡ reading_spelt spelt out
    unfolding reading_spelt
    read_by high h f refused = let (t, (e, long)) = length_of refl p in let z : ◌≡◌ {A = ℕ} 0 1 = cc (e, f) in absurd (omega arith)
    read_by high h f (put u m q) =
        let (t, (e, long)) = length_of refl p in
        let same : t ≡ u = cc (e, f) in
        let many : n ≡ m = long ∙ ap length same ∙ sym (counted_length q (omega (arith, text_length spelt u f))) in
        rw (f, many) (put_whole high (omega (arith, long, ap length same)) q)

    pub told_read : {after : List ℕ} {r : Option ℕ} → length out ≤ last_place → n ≤ length out → Puts out after r (read_back spelt)
        → told_spelt (Ok n) after ≡ reading_spelt spelt out
    told_read high h q = read_by high h refl q

pub and_promised : (spelt out : List ℕ) (s : SpellAnswer) → s ≡ reading_spelt spelt out → (s ≡ reading_spelt spelt out) × ReadPromised spelt out s
and_promised spelt out s e = (e, subst (ReadPromised spelt out) (sym e) (read_promised spelt out))
