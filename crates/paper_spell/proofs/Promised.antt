-- What is promised of spelling and of reading back: of all bytes and every buffer.
--   spell_promised : SpellPromised given out (spelling_text given out)
--   read_promised  : ReadPromised values out (reading_spelt values out)
-- Follows from `Texts`.
use Prim.Native.Nat.{ℕ}
use native.Mathlib.Omega.{arith}
use mathlib.Core.Path.{◌≡◌, refl, sym, ap, ◌∙◌}
use mathlib.Core.Bool.{true}
use mathlib.Core.List.{List, ◌++◌}
use lib.Dec.{ltb}
use lib.ListN.{length, take, drop}
use lib.Seq.{take-append_seam, drop-append_seam}
use Rattle.paper.proofs.base.Tests.{cond_by, true_false, ltb_true, ltb_false}
use Rattle.paper_spell.specs.FullAscii.{spelt, is_text, ReadBack, no_text, text, read_back}
use Rattle.paper_spell.specs.Spell.{put_bytes, spelling_text, reading_of, reading_spelt, SpellPromised, ReadPromised}
use Rattle.paper_spell.proofs.Texts.{read_spelt_text, spelt_unlike, spelt_again, spelt_values, spelt_length, text_length}

abbrev Equal : ℕ → ℕ → Type 0
Equal m n = m ≡ n

module _ (given out : List ℕ) where
  -- what stands in front of the buffer afterwards
  in_front_is : take (length (spelt given)) (spelt given ++ drop (length (spelt given)) out) ≡ spelt given
  in_front_is = take-append_seam (spelt given) (drop (length (spelt given)) out)

  good : is_text given ≡ true → SpellPromised given out (put_bytes (spelt given) out)
  good e =
      cond_by (SpellPromised given out) (ltb (length out) (length (spelt given)))
      (λ h. let low = ltb_true (length out) (length (spelt given)) h in record {
        spells = λ (z : Equal 46 0). absurd (omega arith);
        values = λ (z : Equal 46 0). absurd (omega arith);
        reads_back = λ (z : Equal 46 0). absurd (omega arith);
        alone = λ (z : Equal 46 0). absurd (omega arith);
        refused = (λ (z : Equal 46 45). absurd (omega arith), λ f. absurd (true_false e f));
        short = (λ _. (e, low), λ _. refl);
        enough = λ room _. omega (arith, low, spelt_length given);
        behind = refl;
        unchanged = λ _. (refl, refl);
      })
      (λ h. let high = ltb_false (length out) (length (spelt given)) h in record {
        spells = λ _. in_front_is;
        values = λ _. rw in_front_is (spelt_values given e);
        reads_back = λ _. rw in_front_is (read_spelt_text given e);
        alone = λ _ other f same. spelt_unlike other given f e (same ∙ in_front_is);
        refused = (λ (z : Equal 0 45). absurd (omega arith), λ f. absurd (true_false e f));
        short = (λ (z : Equal 0 46). absurd (omega arith), λ k. absurd (omega (arith, high, k.1)));
        enough = λ _ (z : Equal 0 46). omega arith;
        behind = drop-append_seam (spelt given) (drop (length (spelt given)) out);
        unchanged = λ n. absurd (n refl);
      })

  pub spell_promised : SpellPromised given out (spelling_text given out)
  unfolding spelling_text
  spell_promised =
      cond_by (SpellPromised given out) (is_text given) good
      (λ e. record {
        spells = λ (z : Equal 45 0). absurd (omega arith);
        values = λ (z : Equal 45 0). absurd (omega arith);
        reads_back = λ (z : Equal 45 0). absurd (omega arith);
        alone = λ (z : Equal 45 0). absurd (omega arith);
        refused = (λ _. e, λ _. refl);
        short = (λ (z : Equal 45 46). absurd (omega arith), λ k. absurd (true_false k.0 e));
        enough = λ _ (z : Equal 45 46). omega arith;
        behind = refl;
        unchanged = λ _. (refl, refl);
      })

module _ (values out : List ℕ) where
  not_both : (t : List ℕ) → no_text ≡ text t → ⊥
  not_both t e = let z : ◌≡◌ {A = ℕ} 0 1 = cc in omega arith

  same_text : (t u : List ℕ) → text t ≡ text u → t ≡ u
  same_text t u e = cc

  one_text : (t u : List ℕ) → read_back values ≡ text t → is_text u ≡ true → spelt u ≡ values → t ≡ u
  one_text t u e f same = same_text t u (sym e ∙ ap read_back (sym same) ∙ read_spelt_text u f)

  by_reading : (r : ReadBack) → read_back values ≡ r → ReadPromised values out (reading_of r out)
  by_reading no_text e = record {
    characters = λ (z : Equal 45 0). absurd (omega arith);
    spelt_again = λ (z : Equal 45 0). absurd (omega arith);
    reads_back = λ t f same. absurd (not_both t (sym e ∙ ap read_back (sym same) ∙ read_spelt_text t f));
    refused = (λ _. e, λ _. refl);
    short = (λ (z : Equal 45 46). absurd (omega arith), λ k. absurd (not_both k.0 (sym e ∙ k.1.0)));
    enough = λ _ (z : Equal 45 46). omega arith;
    behind = refl;
    unchanged = λ _. (refl, refl);
  }
  by_reading (text t) e =
      let again = spelt_again values t e in
      let front : take (length t) (t ++ drop (length t) out) ≡ t = take-append_seam t (drop (length t) out) in
      cond_by (ReadPromised values out) (ltb (length out) (length t))
      (λ h. let low = ltb_true (length out) (length t) h in record {
        characters = λ (z : Equal 46 0). absurd (omega arith);
        spelt_again = λ (z : Equal 46 0). absurd (omega arith);
        reads_back = λ u f same. (λ (z : Equal 46 0). absurd (omega arith), λ (z : Equal 46 45). omega arith);
        refused = (λ (z : Equal 46 45). absurd (omega arith), λ k. absurd (not_both t (sym k ∙ e)));
        short = (λ _. (t, (e, low)), λ _. refl);
        enough = λ room _. omega (arith, low, text_length values t e);
        behind = refl;
        unchanged = λ _. (refl, refl);
      })
      (λ h. let high = ltb_false (length out) (length t) h in record {
        characters = λ _. rw front again.0;
        spelt_again = λ _. rw front again.1;
        reads_back = λ u f same. (λ _. front ∙ one_text t u e f same, λ (z : Equal 0 45). omega arith);
        refused = (λ (z : Equal 0 45). absurd (omega arith), λ k. absurd (not_both t (sym k ∙ e)));
        short = (
          λ (z : Equal 0 46). absurd (omega arith),
          λ k. absurd (omega (arith, high, ap length (same_text t k.0 (sym e ∙ k.1.0)), k.1.1)),
        );
        enough = λ _ (z : Equal 0 46). omega arith;
        behind = drop-append_seam t (drop (length t) out);
        unchanged = λ n. absurd (n refl);
      })

  pub read_promised : ReadPromised values out (reading_spelt values out)
  unfolding reading_spelt
  read_promised = by_reading (read_back values) refl
