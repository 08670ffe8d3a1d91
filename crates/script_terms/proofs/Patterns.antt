-- The spelling of the bytes of a good pattern is the pattern's expression.
--   spelt_reads  : where a pattern is read from an offset on, its expression is spelt there, and what is left is the same
--   spelt_judged : judge (codes e s) ≡ judged p → term_spelt e s ≡ expression e p
-- By induction on how the pattern is read (`Reader` of `paper_laws`).
use Prim.Native.Nat.{ℕ, zero, suc, ◌+◌, ◌≤◌, ◌<◌}
use native.Mathlib.Nat.{add-zero}
use native.Mathlib.Omega.{arith}
use mathlib.Core.Path.{◌≡◌, refl, sym, ap, ◌∙◌, subst}
use mathlib.Core.List.{List, ◌∷◌}
use lib.ListN.{length, get_or, drop, length-drop, length-map}
use lib.Seq.{get_or-drop, drop-drop}
use Rattle.paper.specs.Numbers.{empty_code, range_code, then_code, or_code, many_code}
use Rattle.paper.specs.Alphabet.{Edition, code, codes}
use Rattle.paper.specs.Pattern.{Pattern}
use Rattle.paper.specs.Written.{part, judged, judge}
use Rattle.paper.proofs.base.Tests.{lt_leb, le_ltb, neq_eqb}
use Rattle.paper_laws.proofs.places.Reader.{is_then, is_or, Reads, a_character, empty_text, a_range, both_parts, starred, Judges, as_pattern, judges, shorter}
use Rattle.paper_script.specs.Script.{expression}
use Rattle.script_terms.specs.Spelt.{TermSpelling, spelt_at, term_spelt}

-- what is spelt from the offset on is the expression of p, and `rest` is left behind it
pub record SpeltAs (ed : Edition) (s : List ℕ) (p : Pattern) (rest : List ℕ) (x : TermSpelling) : Type 0 where
  pub bytes : x.put ≡ expression ed p
  pub behind : drop x.next s ≡ rest

module _ (ed : Edition) (s : List ℕ) where
  -- the bytes at an offset
  first_there : (i b : ℕ) (t : List ℕ) → drop i s ≡ b ∷ t → get_or s i 0 ≡ b
  first_there i b t e = ap (λ (k : ℕ). get_or s k 0) (sym (add-zero i)) ∙ sym (get_or-drop i s 0 0) ∙ ap (λ (l : List ℕ). get_or l 0 0) e

  rest_there : (i k : ℕ) (t : List ℕ) → drop i s ≡ t → drop (i + k) s ≡ drop k t
  rest_there i k t e = sym (drop-drop k i s) ∙ ap (drop k) e

  more_there : (i b : ℕ) (t : List ℕ) → drop i s ≡ b ∷ t → i < length s
  more_there i b t e = let l = sym (length-drop i s) ∙ ap length e in omega (arith, l)

  pub spelt_reads : {t starts rest : List ℕ} {p : Pattern} → Reads t (part p starts rest) → (n i : ℕ) → length t ≤ n → drop i s ≡ t
      → SpeltAs ed s p rest (spelt_at ed n s i)
  spelt_reads (a_character {b = b} {s = t} h) zero i k e = absurd (omega arith)
  spelt_reads (a_character {b = b} {s = t} h) (suc n) i k e =
      let there = first_there i b t e in
      rw (lt_leb (length s) i (more_there i b t e), there, neq_eqb b many_code (λ (x : b ≡ many_code). omega arith), neq_eqb b then_code (λ (x : b ≡ then_code). omega arith), neq_eqb b or_code (λ (x : b ≡ or_code). omega arith), neq_eqb b range_code (λ (x : b ≡ range_code). omega arith), neq_eqb b empty_code (λ (x : b ≡ empty_code). omega arith))
      (record { bytes = refl; behind = rest_there i 1 (b ∷ t) e })
  spelt_reads (empty_text {s = t}) zero i k e = absurd (omega arith)
  spelt_reads (empty_text {s = t}) (suc n) i k e =
      rw (lt_leb (length s) i (more_there i empty_code t e), first_there i empty_code t e)
      (record { bytes = refl; behind = rest_there i 1 (empty_code ∷ t) e })
  spelt_reads (a_range {lo = lo} {hi = hi} {s = t} g h) zero i k e = absurd (omega arith)
  spelt_reads (a_range {lo = lo} {hi = hi} {s = t} g h) (suc n) i k e =
      let l = sym (length-drop i s) ∙ ap length e in
      let at-lo = first_there (i + 1) lo (hi ∷ t) (rest_there i 1 (range_code ∷ lo ∷ hi ∷ t) e) in
      let at-hi = first_there (i + 2) hi t (rest_there i 2 (range_code ∷ lo ∷ hi ∷ t) e) in
      rw (lt_leb (length s) i (more_there i range_code (lo ∷ hi ∷ t) e), first_there i range_code (lo ∷ hi ∷ t) e, le_ltb (length s) (i + 3) (omega (arith, l)), at-lo, at-hi)
      (record { bytes = refl; behind = rest_there i 3 (range_code ∷ lo ∷ hi ∷ t) e })
  spelt_reads (starred {s = t} d) zero i k e = absurd (omega arith)
  spelt_reads (starred {s = t} d) (suc n) i k e =
      let inside = spelt_reads d n (i + 1) (omega arith) (rest_there i 1 (many_code ∷ t) e) in
      rw (lt_leb (length s) i (more_there i many_code t e), first_there i many_code t e)
      (record { bytes = rw inside.bytes; behind = inside.behind })
  spelt_reads (both_parts {s = t} is_then a b) zero i k e = absurd (omega arith)
  spelt_reads (both_parts {s = t} is_then a b) (suc n) i k e =
      let first = spelt_reads a n (i + 1) (omega arith) (rest_there i 1 (then_code ∷ t) e) in
      let second = spelt_reads b n (spelt_at ed n s (i + 1)).next (omega (arith, shorter a)) first.behind in
      rw (lt_leb (length s) i (more_there i then_code t e), first_there i then_code t e)
      (record { bytes = rw (first.bytes, second.bytes); behind = second.behind })
  spelt_reads (both_parts {s = t} is_or a b) zero i k e = absurd (omega arith)
  spelt_reads (both_parts {s = t} is_or a b) (suc n) i k e =
      let first = spelt_reads a n (i + 1) (omega arith) (rest_there i 1 (or_code ∷ t) e) in
      let second = spelt_reads b n (spelt_at ed n s (i + 1)).next (omega (arith, shorter a)) first.behind in
      rw (lt_leb (length s) i (more_there i or_code t e), first_there i or_code t e)
      (record { bytes = rw (first.bytes, second.bytes); behind = second.behind })

spelt_whole : (ed : Edition) (s : List ℕ) (p : Pattern) → Judges (codes ed s) (judged p) → term_spelt ed s ≡ expression ed p
unfolding term_spelt
spelt_whole ed s p (as_pattern d h) = (spelt_reads ed (codes ed s) d (length s) 0 (omega (arith, length-map s (code ed))) refl).bytes

pub spelt_judged : (ed : Edition) (s : List ℕ) (p : Pattern) → judge (codes ed s) ≡ judged p → term_spelt ed s ≡ expression ed p
spelt_judged ed s p e = spelt_whole ed s p (subst (Judges (codes ed s)) e (judges (codes ed s)))
