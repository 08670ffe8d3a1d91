-- The spaces of the hidden fields, as they were read, are the paper's:
--   spaced_agrees  : with them the texts are the paper's (`TextSteps.spaced`)
--   missing_within : and the others stand in the bytes as before
-- Of a good question. Follows from the length of a label by inner codes being the paper's.
use Prim.Native.Nat.{ℕ, ◌+◌, ◌-◌, ◌≤◌, ◌<◌}
use native.Mathlib.Omega.{arith}
use mathlib.Core.Path.{◌≡◌, refl, sym, ap₂, ◌∙◌, fun_ext}
use mathlib.Core.Bool.{cond}
use mathlib.Core.List.{List, [], ◌∷◌, ◌++◌}
use lib.Dec.{eqb}
use lib.ListN.{length, get_or, set, replicate, length-set, length-append}
use Rattle.paper.specs.Numbers.{most_characters, fields, hidden_left, hidden_right}
use Rattle.paper.specs.Equation.{chr, fld, Side, label}
use Rattle.paper.specs.Question.{Question}
use Rattle.paper.proofs.base.Tests.{by_bool, eqb_true, eqb_symmetric, neq_eqb, lt_ltb, le_ltb}
use Rattle.paper_laws.proofs.sheets.Asked.{GoodSide, GoodQuestion, good_most}
use Rattle.paper_laws.proofs.sheets.Hidden.{in_range_has_set}
use Rattle.paper_way.specs.TextSteps.{spaced}
use Rattle.base_codes.specs.Inner.{field_code, side_code}
use Rattle.search_children.proofs.CodedSides.{KnownSide, known_side, field_of_code}
use Rattle.way_records.specs.Spans.{text_at, Within, label_coded, with_missing}
use Rattle.way_records.proofs.Reading.{get_d_set}
use Rattle.way_walk.proofs.TextsCoded.{text_long}

known_good : (n : ℕ) → n ≤ most_characters → (side : Side) → GoodSide n side → KnownSide side
known_good n most side g = known_side side (λ t d. in_range_has_set n most t (g.tokens t d))

module _ (x : ℕ) (bytes ends own : List ℕ) (w : Within bytes ends own) where
  label_agrees : (side : Side) → KnownSide side → length (label (text_at x bytes ends own) side) ≡ label_coded own (side_code side)
  label_agrees [] k = refl
  label_agrees (chr a ∷ side) k =
      let h : a < field_code = omega (arith, k.0) in
      rw (lt_ltb a field_code h) (omega (arith, label_agrees side k.1))
  label_agrees (fld f ∷ side) k =
      let here : length (text_at x bytes ends own f ++ label (text_at x bytes ends own) side) ≡ get_or own f 0 + label_coded own (side_code side) =
      length-append (text_at x bytes ends own f) (label (text_at x bytes ends own) side)
      ∙ ap₂ (λ (a : ℕ) (b : ℕ). a + b) (text_long x bytes ends own w f) (label_agrees side k.1) in
      rw (le_ltb (field_code + f) field_code (omega arith), field_of_code f) here

  module _ (l r : ℕ) where
    missing_at : (f : ℕ) → get_or (with_missing own l r) f 0 ≡ cond (eqb hidden_right f) (l - r) (cond (eqb hidden_left f) (r - l) (get_or own f 0))
    missing_at f =
        get_d_set (set own hidden_left (r - l)) hidden_right (l - r) f (omega (arith, length-set own hidden_left (r - l), w.left_many))
        ∙ rw (get_d_set own hidden_left (r - l) f (omega (arith, w.left_many)))

    missing_own : (f : ℕ) → f < fields → get_or (with_missing own l r) f 0 ≡ get_or own f 0
    missing_own f h =
        missing_at f
        ∙ rw (neq_eqb hidden_right f (λ (e : hidden_right ≡ f). omega arith), neq_eqb hidden_left f (λ (e : hidden_left ≡ f). omega arith))

    pub missing_within : Within bytes ends (with_missing own l r)
    missing_within =
        record {
          ends_many = w.ends_many;
          left_many = length-set (set own hidden_left (r - l)) hidden_right (l - r) ∙ length-set own hidden_left (r - l) ∙ w.left_many;
          in_front = λ f h. rw (missing_own f h) (w.in_front f h);
          in_bytes = w.in_bytes;
        }

    -- a text with the spaces that were found
    missing_text : (f : ℕ) → text_at x bytes ends (with_missing own l r) f
        ≡ cond (eqb f hidden_left) (replicate (r - l) x) (cond (eqb f hidden_right) (replicate (l - r) x) (text_at x bytes ends own f))
    missing_text f =
        rw (missing_at f, eqb_symmetric hidden_right f, eqb_symmetric hidden_left f)
        (by_bool (eqb f hidden_left)
        (λ e.
        let same : f ≡ hidden_left = eqb_true f hidden_left e in
        rw (e, neq_eqb f hidden_right (λ (i : f ≡ hidden_right). omega arith), le_ltb f fields (omega arith)))
        (λ e.
        rw e
        (by_bool (eqb f hidden_right)
        (λ i.
        let same : f ≡ hidden_right = eqb_true f hidden_right i in
        rw (i, le_ltb f fields (omega arith)))
        (λ i. rw i))))

module _ (q : Question) (g : GoodQuestion q) (bytes ends own : List ℕ) (w : Within bytes ends own) where
  abbrev x : ℕ
  x = q.alphabet.space

  left_long : length (label (text_at x bytes ends own) q.left) ≡ label_coded own (side_code q.left)
  left_long = label_agrees x bytes ends own w q.left (known_good q.alphabet.characters (good_most g) q.left g.left)

  right_long : length (label (text_at x bytes ends own) q.right) ≡ label_coded own (side_code q.right)
  right_long = label_agrees x bytes ends own w q.right (known_good q.alphabet.characters (good_most g) q.right g.right)

  pub spaced_agrees : spaced q (text_at x bytes ends own)
      ≡ text_at x bytes ends (with_missing own (label_coded own (side_code q.left)) (label_coded own (side_code q.right)))
  spaced_agrees = fun_ext (λ f.
      sym
      (missing_text x bytes ends own w (label_coded own (side_code q.left)) (label_coded own (side_code q.right)) f
      ∙ ap₂
      (λ (l : ℕ) (r : ℕ).
      cond (eqb f hidden_left) (replicate (r - l) x) (cond (eqb f hidden_right) (replicate (l - r) x) (text_at x bytes ends own f)))
      (sym left_long) (sym right_long)))
