-- What the fields hold once each is changed by whether it stands, and once 68 65 0 42, behind `ED` 196 193 0 127, is written out: any number of the n
-- characters.
--   changed_length : as many fields
--   changed_at     : what each of them holds
--   changed_by     : what is so of all that the fields hold, and stays so, is so of it
--   changed_same   : where no field changes, it is what it was
--   changed_alike  : by the fields that stand, whatever tells which these are
--   opened_by, opened_same : the same of the pattern written out; NoneOpen stands held → opened n stands 0 held ≡ held
-- By induction over the fields.
use Prim.Native.Nat.{ℕ, zero, suc, ◌+◌, ◌<◌}
use native.Mathlib.Nat.{add-zero, zero-add}
use native.Mathlib.Omega.{arith}
use mathlib.Core.Path.{◌≡◌, refl, sym, ap, ◌∙◌}
use mathlib.Core.Bool.{Bool, cond}
use mathlib.Core.List.{List, [], ◌∷◌}
use lib.ListN.{length, get_or}
use Rattle.paper.specs.Pattern.{Held, some_text, pattern}
use Rattle.paper.proofs.base.Tests.{cond_by}
use Rattle.paper.proofs.base.Lists.{cons_eq}
use Rattle.paper_carry.specs.Opened.{written_out, spelt_held, changed, with_open, opened, NoneOpen}

next_field : (a f : ℕ) → a + suc f ≡ suc a + f
next_field a f = omega arith

module _ (how : Bool → Held → Held) (stands : ℕ → Bool) where
  pub changed_length : (held : List Held) (a : ℕ) → length (changed how stands a held) ≡ length held
  changed_length [] a = refl
  changed_length (h ∷ held) a = ap suc (changed_length held (suc a))

  pub changed_at : (held : List Held) (a f : ℕ) → f < length held
      → get_or (changed how stands a held) f some_text ≡ how (stands (a + f)) (get_or held f some_text)
  changed_at [] a f k = absurd (omega arith)
  changed_at (h ∷ held) a zero k = rw (add-zero a)
  changed_at (h ∷ held) a (suc f) k = changed_at held (suc a) f (omega arith) ∙ rw (next_field a f)

  pub changed_by : (P : Held → Type 0) → ((b : Bool) (h : Held) → P h → P (how b h))
      → (held : List Held) (a : ℕ) → ((f : ℕ) → P (get_or held f some_text)) → (f : ℕ) → P (get_or (changed how stands a held) f some_text)
  changed_by P stays [] a p f = p f
  changed_by P stays (h ∷ held) a p zero = stays (stands a) h (p 0)
  changed_by P stays (h ∷ held) a p (suc f) = changed_by P stays held (suc a) (λ i. p (suc i)) f

  pub changed_still : (held : List Held) (a f : ℕ) → how (stands (a + f)) some_text ≡ some_text → get_or held f some_text ≡ some_text
      → get_or (changed how stands a held) f some_text ≡ some_text
  changed_still [] a f s e = refl
  changed_still (h ∷ held) a zero s e = ap (how (stands a)) e ∙ ap (λ (k : ℕ). how (stands k) some_text) (sym (add-zero a)) ∙ s
  changed_still (h ∷ held) a (suc f) s e =
      changed_still held (suc a) f (ap (λ (k : ℕ). how (stands k) some_text) (sym (next_field a f)) ∙ s) e

  same_from : (held : List Held) (a : ℕ) → ((f : ℕ) → how (stands (a + f)) (get_or held f some_text) ≡ get_or held f some_text)
      → changed how stands a held ≡ held
  same_from [] a same = refl
  same_from (h ∷ held) a same =
      cons_eq (ap (λ (k : ℕ). how (stands k) h) (sym (add-zero a)) ∙ same 0)
      (same_from held (suc a) (λ f. ap (λ (k : ℕ). how (stands k) (get_or held f some_text)) (sym (next_field a f)) ∙ same (suc f)))

  pub changed_same : (held : List Held) → ((f : ℕ) → how (stands f) (get_or held f some_text) ≡ get_or held f some_text) → changed how stands 0 held ≡ held
  changed_same held same = same_from held 0 (λ f. ap (λ (k : ℕ). how (stands k) (get_or held f some_text)) (zero-add f) ∙ same f)

pub changed_alike : (how : Bool → Held → Held) (s t : ℕ → Bool) (held : List Held) (a : ℕ) → ((f : ℕ) → f < length held → s (a + f) ≡ t (a + f))
    → changed how s a held ≡ changed how t a held
changed_alike how s t [] a h = refl
changed_alike how s t (x ∷ held) a h =
    cons_eq (ap (λ (b : Bool). how b x) (ap s (sym (add-zero a)) ∙ h 0 (omega arith) ∙ ap t (add-zero a)))
    (changed_alike how s t held (suc a) (λ f k. ap s (sym (next_field a f)) ∙ h (suc f) (omega arith) ∙ ap t (next_field a f)))

-- The pattern written out.
module _ (n : ℕ) (stands : ℕ → Bool) where
  module _ (P : Held → Type 0) (out : P (pattern (written_out n))) where
    spelt_by : (h : Held) → P h → P (spelt_held n h)
    spelt_by some_text p = out
    spelt_by (pattern q) p = p

    pub opened_by : (held : List Held) (a : ℕ) → ((f : ℕ) → P (get_or held f some_text)) → (f : ℕ) → P (get_or (opened n stands a held) f some_text)
    opened_by held a p = changed_by (with_open n) stands P (λ b h k. cond_by P b (λ _. spelt_by h k) (λ _. k)) held a p

  still : (h : Held) → (h ≡ some_text → ⊥) → spelt_held n h ≡ h
  still some_text not_open = absurd (not_open refl)
  still (pattern p) not_open = refl

  pub opened_same : (held : List Held) → NoneOpen stands held → opened n stands 0 held ≡ held
  opened_same held none =
      changed_same (with_open n) stands held
      (λ f. cond_by (λ (x : Held). x ≡ get_or held f some_text) (stands f) (λ e. still (get_or held f some_text) (none f e)) (λ _. refl))
