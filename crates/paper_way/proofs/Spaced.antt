-- The hidden fields hold the spaces that the shorter label lacks:
--   spaced_solves : texts that solve the sheet's question solve the word equation, with these for the hidden fields
--   spaced_own    : a field of the sheet keeps its text
-- Follows from the laws of trailing spaces: where two labels are the same but for them, the longer one is the shorter with spaces behind it.
use Prim.Native.Nat.{ℕ, ◌+◌, ◌-◌, ◌≤◌, ◌<◌}
use native.Mathlib.Omega.{arith}
use mathlib.Core.Path.{◌≡◌, refl, sym, ap, ◌∙◌}
use mathlib.Core.List.{List, ◌++◌, append_assoc, append-nil}
use lib.Dec.{leb}
use lib.ListN.{length, take, replicate, length-append, length-replicate, replicate-append-replicate}
use lib.Seq.{take_at}
use Rattle.paper.specs.Numbers.{fields, hidden_left, hidden_right}
use Rattle.paper.specs.Pattern.{Holds}
use Rattle.paper.specs.Equation.{is_field, stands_in, Texts, label, Same, Over}
use Rattle.paper.specs.Question.{Question, held_by, Solution, hidden, Equated}
use Rattle.paper.proofs.base.Tests.{by_bool, left_true, right_true, neq_eqb, leb_true, leb_false}
use Rattle.paper.proofs.base.Lists.{any_append}
use Rattle.paper_laws.proofs.equations.Labels.{label_same, label_with}
use Rattle.paper_laws.proofs.equations.TrailingSpaces.{same_padded}
use Rattle.paper_laws.proofs.sheets.Asked.{GoodQuestion, fields_known, good_space}
use Rattle.paper_laws.proofs.sheets.Hidden.{spaces_fit, spaces_over, held_own, by_standing}
use Rattle.paper_way.specs.TextSteps.{spaced}

-- the longer label is the shorter with spaces behind it
module _ (x : ℕ) where
  -- where the left one has no more characters
  padded_left : (l m : List ℕ) (n k : ℕ) → length l ≤ length m → l ++ replicate n x ≡ m ++ replicate k x → l ++ replicate (length m - length l) x ≡ m
  padded_left l m n k h e =
      let d = length m - length l in
      let counts : length l + n ≡ length m + k =
      rw (length-append, length-append, length-replicate, length-replicate) at (ap length e) in
      let parts : n ≡ d + k = omega arith in
      let here : l ++ replicate n x ≡ (l ++ replicate d x) ++ replicate k x =
      ap (λ (j : ℕ). l ++ replicate j x) parts ∙ ap (λ (w : List ℕ). l ++ w) (sym (replicate-append-replicate d k x))
      ∙ sym (append_assoc l (replicate d x) (replicate k x)) in
      let long : length (l ++ replicate d x) ≡ length m = rw (length-append, length-replicate) (omega arith) in
      sym (take_at (l ++ replicate d x) (replicate k x) (length m) long)
      ∙ ap (take (length m)) (sym here ∙ e)
      ∙ take_at m (replicate k x) (length m) refl

  none_missing : (l : List ℕ) (a b : ℕ) → a ≤ b → l ++ replicate (a - b) x ≡ l
  none_missing l a b h = let z : a - b ≡ 0 = omega arith in rw z (append-nil l)

  missing : (l m : List ℕ) → Same x l m → l ++ replicate (length m - length l) x ≡ m ++ replicate (length l - length m) x
  missing l m s =
      let (n, k, e) = same_padded x l m s in
      by_bool (leb (length l) (length m))
      (λ h.
      let le = leb_true (length l) (length m) h in
      padded_left l m n k le e ∙ sym (none_missing m (length l) (length m) le))
      (λ h.
      let lt = leb_false (length l) (length m) h in
      let le : length m ≤ length l = omega arith in
      none_missing l (length m) (length l) le ∙ sym (padded_left m l k n le (sym e)))

module _ (q : Question) (texts : Texts) where
  pub spaced_own : (f : ℕ) → f < fields → spaced q texts f ≡ texts f
  spaced_own f h =
      rw (neq_eqb f hidden_left (λ (e : f ≡ hidden_left). omega arith), neq_eqb f hidden_right (λ (e : f ≡ hidden_right). omega arith))

  module _ (g : GoodQuestion q) where
    pub label_own_left : label (spaced q texts) q.left ≡ label texts q.left
    label_own_left =
        label_same (spaced q texts) texts q.left
        (λ f e.
        spaced_own f
        (fields_known q g f (any_append (is_field f) q.left q.right ∙ left_true (stands_in f q.left) (stands_in f q.right) e)))

    pub label_own_right : label (spaced q texts) q.right ≡ label texts q.right
    label_own_right =
        label_same (spaced q texts) texts q.right
        (λ f e.
        spaced_own f
        (fields_known q g f (any_append (is_field f) q.left q.right ∙ right_true (stands_in f q.left) (stands_in f q.right) e)))

    pub spaced_solves : Solution q texts → Equated (hidden q) (spaced q texts)
    spaced_solves x =
        let space = q.alphabet.space in
        let l = label texts q.left in
        let r = label texts q.right in
        record {
          same_label =
              label_with (spaced q texts) q.left hidden_left
              ∙ ap (λ (w : List ℕ). w ++ replicate (length r - length l) space) label_own_left
              ∙ missing space l r x.same_label
              ∙ ap (λ (w : List ℕ). w ++ replicate (length l - length r) space) (sym label_own_right)
              ∙ sym (label_with (spaced q texts) q.right hidden_right);
          over =
              by_standing q g (λ (f : ℕ). Over q.alphabet.characters (spaced q texts f))
              (λ f e h. rw (spaced_own f h) (x.over f e))
              (spaces_over space (length r - length l) q.alphabet.characters (good_space g))
              (spaces_over space (length l - length r) q.alphabet.characters (good_space g));
          holds =
              by_standing q g (λ (f : ℕ). Holds (held_by (hidden q) f) (spaced q texts f))
              (λ f e h. rw (spaced_own f h, held_own q f h) (x.holds f e))
              (spaces_fit space (length r - length l))
              (spaces_fit space (length l - length r));
        }
