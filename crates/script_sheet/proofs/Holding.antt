-- What a field may hold, and the bytes that its expression is spelt from.
--   spelt_spaces : a hidden field
--   spelt_open   : a field without a pattern
--   spelt_body   : a field with one: the bytes that stand in the sheet
--   body_within  : they lie within it
-- Follows from where a field's pattern stands (`Standing` of `read_sheet`), and from the spelling of good patterns (`Patterns` of `script_terms`).
use Prim.Native.Nat.{ℕ, ◌+◌, ◌≤◌, ◌<◌}
use native.Mathlib.Omega.{arith}
use mathlib.Core.Path.{◌≡◌, refl, sym, ap, ◌∙◌, subst}
use mathlib.Core.List.{List}
use lib.Dec.{ltb}
use lib.ListN.{length, get_or, take, drop}
use Rattle.paper.specs.Numbers.{fields, set_fields}
use Rattle.paper.specs.Pattern.{some_text}
use Rattle.paper.specs.Alphabet.{Alphabet, Edition, edition_1, edition_2, alphabet_of, edition_of, code}
use Rattle.paper.specs.Question.{Question, held_by, any_spaces, hidden}
use Rattle.paper_laws.proofs.sheets.Asked.{sheet_good}
use Rattle.paper.proofs.base.Tests.{cond_by, cond_true, lt_ltb, ltb_true}
use Rattle.paper_script.specs.Script.{expression_of}
use Rattle.paper_script.proofs.Length.{held_own, held_hidden}
use Rattle.script_terms.specs.Spelt.{term_spelt}
use Rattle.script_terms.proofs.Patterns.{spelt_judged}
use Rattle.base_question.specs.Bodies.{nowhere}
use Rattle.base_question.specs.declared.Body.{Body}
use Rattle.read_fields.proofs.PatternsStanding.{Stands, stands_none, stands_one}
use Rattle.read_sheet.specs.SheetRead.{bodies_of}
use Rattle.read_sheet.proofs.SheetPatterns.{sheet_stands}
use Rattle.script_sheet.specs.WrittenOut.{AsksIn, some_bytes, spaces_bytes, body_of, BodiesWithin}

pub body_within : (sheet : List ℕ) (bodies : List Body) → BodiesWithin sheet bodies → (f : ℕ) (b : Body) → b ≡ body_of bodies f → b.start + b.length ≤ length sheet
body_within sheet bodies w f b e =
    subst (λ (x : Body). x.start + x.length ≤ length sheet) (sym e)
    (cond_by (λ (x : Body). x.start + x.length ≤ length sheet) (ltb f fields) (λ h. w f (ltb_true f fields h)) (λ _. omega arith))

-- the bytes of a hidden field's pattern and of an open field's, all of them, by the edition
spaces_alike : (e : Edition) → expression_of e (any_spaces (alphabet_of e).space) ≡ term_spelt e (take 2 (drop 0 (spaces_bytes e)))
unfolding term_spelt code
spaces_alike edition_1 = refl
spaces_alike edition_2 = refl

some_alike : (e : Edition) → expression_of e some_text ≡ term_spelt e (take 8 (drop 0 (some_bytes e)))
unfolding term_spelt code
some_alike edition_1 = refl
some_alike edition_2 = refl

module _ (e : Edition) (sheet : List ℕ) (q : Question) (asks : AsksIn e sheet q) where
  in_edition : q.alphabet ≡ alphabet_of e
  in_edition = (sheet_good sheet q asks.asks).alphabet ∙ ap alphabet_of (sym asks.its_edition)

  pub spelt_spaces : (f : ℕ) → fields ≤ f → f < set_fields → (l : List ℕ) → l ≡ spaces_bytes e
      → expression_of e (held_by (hidden q) f) ≡ term_spelt e (take 2 (drop 0 l))
  spelt_spaces f h k l same =
      ap (expression_of e) (held_hidden q f h k) ∙ ap (λ (a : Alphabet). expression_of e (any_spaces a.space)) in_edition ∙ spaces_alike e
      ∙ ap (λ (m : List ℕ). term_spelt e (take 2 (drop 0 m))) (sym same)

  module _ (f : ℕ) (h : f < fields) (b : Body) (i : b ≡ body_of (bodies_of sheet) f) where
    stands : Stands e sheet b (held_by q f)
    stands =
        let its = get_or (bodies_of sheet) f nowhere in
        let there = i ∙ cond_true (ltb f fields) its nowhere (lt_ltb f fields h) in
        rw asks.its_edition (subst (λ (x : Body). Stands (edition_of q.alphabet) sheet x (held_by q f)) (sym there) (sheet_stands sheet q asks.asks f h))

    pub spelt_open : b.length ≡ 0 → (l : List ℕ) → l ≡ some_bytes e → expression_of e (held_by (hidden q) f) ≡ term_spelt e (take 8 (drop 0 l))
    spelt_open z l same =
        ap (expression_of e) (held_own q f h ∙ stands_none stands z) ∙ some_alike e ∙ ap (λ (m : List ℕ). term_spelt e (take 8 (drop 0 m))) (sym same)

    pub spelt_body : (b.length ≡ 0 → ⊥) → expression_of e (held_by (hidden q) f) ≡ term_spelt e (take b.length (drop b.start sheet))
    spelt_body z =
        let there = stands_one stands (omega (arith, z)) in
        ap (expression_of e) (held_own q f h ∙ there.holds) ∙ sym (spelt_judged e (take b.length (drop b.start sheet)) there.its there.its_bytes)
