-- What is promised of the fixed fronts and ends, of all bytes and every number of an edition.
--   fronts_promised : FrontsPromised n left right (fronts_told n left right)
-- Follows from `NoSameLabel`.
use Prim.Native.Nat.{ℕ}
use native.Mathlib.Omega.{arith}
use mathlib.Core.Path.{◌≡◌, refl, sym, subst, ◌∙◌}
use mathlib.Core.Logic.{◌⊎◌, inl, inr, ⊎_elim}
use mathlib.Core.Bool.{true, cond, ◌&&◌}
use mathlib.Core.List.{List}
use lib.Dec.{eqb}
use Rattle.paper.specs.Alphabet.{Edition, edition_1, edition_2, alphabet_of}
use Rattle.paper.specs.Equation.{Texts, label, Same}
use Rattle.paper.specs.Saying.{edition_byte}
use Rattle.paper.proofs.base.Tests.{cond_by, eqb_true, and_left, and_right}
use Rattle.paper_fronts.specs.FixedFronts.{fixed_differ, side_said, are_tokens, bytes_differ, fronts_told, FrontsPromised}
use Rattle.paper_fronts.proofs.NoSameLabel.{no_same_label}

-- an edition is known by its number
one_edition : (e d : Edition) → edition_byte e ≡ edition_byte d → e ≡ d
one_edition edition_1 edition_1 h = refl
one_edition edition_1 edition_2 h = let z : ◌≡◌ {A = ℕ} 0 2 = h in absurd (omega arith)
one_edition edition_2 edition_1 h = let z : ◌≡◌ {A = ℕ} 2 0 = h in absurd (omega arith)
one_edition edition_2 edition_2 h = refl

module _ (n : ℕ) (left right : List ℕ) where
  -- what 1 says: the bytes differ in the edition of that number
  pub record Differ : Type 0 where
    pub edition : Edition
    pub number : edition_byte edition ≡ n
    pub differ : bytes_differ edition left right ≡ true

  -- what is told is 0, or it is 1 and the bytes differ
  abbrev Tells : ℕ → Type 0
  Tells r = (r ≡ 0) ⊎ ((r ≡ 1) × Differ)

  of_edition : (e : Edition) → edition_byte e ≡ n → Tells (cond (bytes_differ e left right) 1 0)
  of_edition e h = cond_by Tells (bytes_differ e left right) (λ d. inr (refl, record { edition = e; number = h; differ = d })) (λ _. inl refl)

  tells : Tells (fronts_told n left right)
  unfolding fronts_told
  tells =
      cond_by Tells (eqb n (edition_byte edition_1))
      (λ h. of_edition edition_1 (sym (eqb_true n (edition_byte edition_1) h)))
      (λ _.
      cond_by Tells (eqb n (edition_byte edition_2))
      (λ h. of_edition edition_2 (sym (eqb_true n (edition_byte edition_2) h)))
      (λ _. inl refl))

  -- 1 says that they differ
  one_says : fronts_told n left right ≡ 1 → Differ
  one_says one = ⊎_elim (λ none. let z : ◌≡◌ {A = ℕ} 0 1 = sym none ∙ one in absurd (omega arith)) (λ d. d.1) tells

  differ_in : (d : Differ) (e : Edition) → edition_byte e ≡ n → bytes_differ e left right ≡ true
  differ_in d e h =
      subst (λ (its : Edition). bytes_differ its left right ≡ true) (one_edition d.edition e (d.number ∙ sym h)) d.differ

  -- bytes that differ: no texts make the same label, and all bytes are tokens
  module _ (e : Edition) (h : bytes_differ e left right ≡ true) where
    abbrev x : ℕ
    x = (alphabet_of e).space

    differing : fixed_differ x (side_said e left) (side_said e right) ≡ true
    unfolding bytes_differ
    differing = and_left (fixed_differ x (side_said e left) (side_said e right)) (are_tokens e left && are_tokens e right) h

    both_tokens : are_tokens e left && are_tokens e right ≡ true
    unfolding bytes_differ
    both_tokens = and_right (fixed_differ x (side_said e left) (side_said e right)) (are_tokens e left && are_tokens e right) h

    none_the_same : (texts : Texts) → Same x (label texts (side_said e left)) (label texts (side_said e right)) → ⊥
    none_the_same = no_same_label x (side_said e left) (side_said e right) differing

  apart_in : fronts_told n left right ≡ 1 → (e : Edition) → edition_byte e ≡ n → (texts : Texts)
      → Same (alphabet_of e).space (label texts (side_said e left)) (label texts (side_said e right)) → ⊥
  apart_in one e h = none_the_same e (differ_in (one_says one) e h)

  pub fronts_promised : FrontsPromised n left right (fronts_told n left right)
  fronts_promised =
      record {
        zero_or_one = ⊎_elim inl (λ d. inr d.0) tells;
        apart = apart_in;
        no_clash =
            λ one e h q a l r texts s.
            apart_in one e h texts (rw (← a, ← l, ← r) s.same_label);
        said_of =
            λ one.
            let d = one_says one in
            let e = d.edition in
            let both = both_tokens e d.differ in
            (e, (d.number, (and_left (are_tokens e left) (are_tokens e right) both, and_right (are_tokens e left) (are_tokens e right) both)));
      }
