-- The stack of a pattern's codes has the pattern's weights on top.
--   made_other  : what a code makes that is no operator
--   stack_reads : stack_of counts (pattern_code p ++ rest) ≡ pattern_weights counts p ∷ stack_of counts rest, if the leaves take characters
--   body_read   : where a body has the codes of what a field may hold, its weights are the field's
-- Follows by induction on the pattern.
use Prim.Native.Nat.{ℕ, ◌≤◌, ◌<◌}
use native.Mathlib.Omega.{arith}
use mathlib.Core.Path.{◌≡◌, refl, sym, ap, ◌∙◌}
use mathlib.Core.Bool.{Bool}
use mathlib.Core.List.{List, [], ◌∷◌, ◌++◌, append_assoc, append-nil}
use lib.Dec.{leb}
use lib.ListN.{get_or, take, drop, length-take}
use lib.Seq.{take_all}
use Rattle.paper.specs.Numbers.{most_characters, empty_code, range_code, then_code, or_code, many_code, pattern_bytes}
use Rattle.paper.specs.Alphabet.{Edition, codes}
use Rattle.paper.specs.Pattern.{char, range, Pattern, leaf, empty, then, either, many, Held, some_text, pattern}
use Rattle.paper.specs.Saying.{pattern_code}
use Rattle.paper.specs.Taken.{LeafTakes, leaves_take}
use Rattle.paper.specs.Written.{judged, judge}
use Rattle.paper.proofs.base.Tests.{eq_eqb, neq_eqb, both_true, and_left, and_right, le_leb, leb_true, eqb_same}
use Rattle.paper.proofs.base.Lists.{cons_eq}
use Rattle.paper_laws.proofs.saying.Code.{judged_code, takes_more}
use Rattle.paper_laws.proofs.sheets.Asked.{GoodHeld}
use Rattle.paper_decide.specs.Letters.{one_if, Weights, fixed_weight, weights_then, weights_either, weights_many, pattern_weights, held_weights}
use Rattle.base_question.specs.declared.Body.{Body}
use Rattle.decide_letters.specs.PatternStack.{weightless, uses, made, stack_of}
use Rattle.decide_letters.specs.LettersCoded.{bytes_at, body_weights}

-- a leaf's characters
char_below : {c : ℕ} → LeafTakes most_characters (char c) → c < most_characters
char_below {c} h = h.character c (eqb_same c)

rises : {lo hi : ℕ} → LeafTakes most_characters (range lo hi) → lo ≤ hi
rises {lo} {hi} h =
    let low = leb_true lo h.some (and_left (leb lo h.some) (leb h.some hi) h.taken) in
    let high = leb_true h.some hi (and_right (leb lo h.some) (leb h.some hi) h.taken) in
    omega arith

high_below : {lo hi : ℕ} → LeafTakes most_characters (range lo hi) → hi < most_characters
high_below {lo} {hi} h = h.character hi (both_true (le_leb lo hi (rises h)) (le_leb hi hi (omega arith)))

module _ (counts : ℕ → Bool) where
  pub made_other : (b lo hi : ℕ) (v w : Weights) → (b ≡ then_code → ⊥) → (b ≡ or_code → ⊥) → (b ≡ many_code → ⊥) → (b ≡ range_code → ⊥)
      → (b ≡ empty_code → ⊥) → made counts b lo hi v w ≡ fixed_weight (one_if (counts b))
  made_other b lo hi v w p q r s t =
      rw (neq_eqb b then_code p, neq_eqb b or_code q, neq_eqb b many_code r, neq_eqb b range_code s, neq_eqb b empty_code t)

  -- a character
  uses_none : (c : ℕ) → c < most_characters → uses c ≡ 0
  uses_none c h =
      rw (
        neq_eqb c then_code (λ (e : c ≡ then_code). omega arith),
        neq_eqb c or_code (λ (e : c ≡ or_code). omega arith),
        neq_eqb c range_code (λ (e : c ≡ range_code). omega arith),
        neq_eqb c many_code (λ (e : c ≡ many_code). omega arith),
      )

  char_reads : (c : ℕ) (rest : List ℕ) → c < most_characters → stack_of counts (c ∷ rest) ≡ fixed_weight (one_if (counts c)) ∷ stack_of counts rest
  char_reads c rest h =
      cons_eq
      (made_other c (get_or rest 0 0) (get_or rest 1 0) (get_or (stack_of counts rest) 0 weightless) (get_or (stack_of counts rest) 1 weightless)
      (λ (e : c ≡ then_code). omega arith) (λ (e : c ≡ or_code). omega arith) (λ (e : c ≡ many_code). omega arith)
      (λ (e : c ≡ range_code). omega arith) (λ (e : c ≡ empty_code). omega arith))
      (ap (λ (n : ℕ). drop n (stack_of counts rest)) (uses_none c h))

  -- an operator of two patterns, and what stands on the stack before it
  abbrev joined : (Weights → Weights → Weights) → List Weights → List Weights
  joined op s = op (get_or s 0 weightless) (get_or s 1 weightless) ∷ drop 2 s

  both_read : (a b : Pattern) (rest : List ℕ)
      → stack_of counts (pattern_code a ++ (pattern_code b ++ rest)) ≡ pattern_weights counts a ∷ stack_of counts (pattern_code b ++ rest)
      → stack_of counts (pattern_code b ++ rest) ≡ pattern_weights counts b ∷ stack_of counts rest
      → stack_of counts ((pattern_code a ++ pattern_code b) ++ rest) ≡ pattern_weights counts a ∷ pattern_weights counts b ∷ stack_of counts rest
  both_read a b rest e f = ap (stack_of counts) (append_assoc (pattern_code a) (pattern_code b) rest) ∙ e ∙ cons_eq refl f

  pub stack_reads : (p : Pattern) → leaves_take most_characters p → (rest : List ℕ)
      → stack_of counts (pattern_code p ++ rest) ≡ pattern_weights counts p ∷ stack_of counts rest
  stack_reads (leaf (char c)) h rest = char_reads c rest (char_below h)
  stack_reads (leaf (range lo hi)) h rest =
      let up = rises h in
      let low : lo < most_characters = omega (arith, high_below h) in
      cons_eq refl (ap (drop 2) (char_reads lo (hi ∷ rest) low ∙ cons_eq refl (char_reads hi rest (high_below h))))
  stack_reads empty h rest = refl
  stack_reads (then a b) h rest =
      ap (joined weights_then) (both_read a b rest (stack_reads a h.0 (pattern_code b ++ rest)) (stack_reads b h.1 rest))
  stack_reads (either a b) h rest =
      ap (joined weights_either) (both_read a b rest (stack_reads a h.0 (pattern_code b ++ rest)) (stack_reads b h.1 rest))
  stack_reads (many a) h rest = ap (λ (s : List Weights). weights_many (get_or s 0 weightless) ∷ drop 1 s) (stack_reads a h rest)

-- What the bytes at a body say: nothing where the field is open, else the codes of its pattern, no more than a pattern may have.
abbrev pub Says : Edition → List ℕ → Body → Held → Type 0
Says e s b some_text = b.length ≡ 0
Says e s b (pattern p) = (0 < b.length) × (b.length ≤ pattern_bytes) × (pattern_code p ≡ codes e (take b.length (drop b.start s)))

-- as they were judged
pub says_judged : (e : Edition) (s : List ℕ) (b : Body) (p : Pattern) → 0 < b.length → b.length ≤ pattern_bytes
    → judge (codes e (take b.length (drop b.start s))) ≡ judged p → Says e s b (pattern p)
says_judged e s b p some short its = (some, short, judged_code (codes e (take b.length (drop b.start s))) its)

pub body_read : (counts : ℕ → Bool) (n : ℕ) → n ≤ most_characters → (e : Edition) (s : List ℕ) (b : Body) (h : Held) → GoodHeld n h → Says e s b h
    → body_weights counts e s b ≡ held_weights counts h
unfolding body_weights
body_read counts n most e s b some_text good none = rw (eq_eqb b.length 0 none)
body_read counts n most e s b (pattern p) good its =
    let there = take b.length (drop b.start s) in
    let whole : bytes_at b s ≡ there = take_all pattern_bytes there (omega (arith, length-take b.length (drop b.start s), its.1)) in
    rw (neq_eqb b.length 0 (λ (z : b.length ≡ 0). omega (arith, its.0)))
    (ap (λ (l : List ℕ). get_or (stack_of counts (codes e l)) 0 weightless) whole
    ∙ ap (λ (l : List ℕ). get_or (stack_of counts l) 0 weightless) (sym (append-nil (pattern_code p) ∙ its.2))
    ∙ ap (λ (s : List Weights). get_or s 0 weightless) (stack_reads counts p (takes_more n most_characters most p good.0) []))
