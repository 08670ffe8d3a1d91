-- The expression at an offset of a pattern's codes, operator first as they stand, and the offset behind it: for all bytes, by what they say in the
-- edition. Of the bytes of a good pattern it is the pattern's expression (`Patterns.spelt_judged` of the proofs).
use Rattle.std.specs.Prelude.{ℕ, zero, suc, ◌+◌, ◌≡◌, cond, List, [], leb, ltb, eqb, length, get_or}
use Rattle.paper.specs.Numbers.{empty_code, range_code, then_code, or_code, many_code}
use Rattle.paper.specs.Alphabet.{Edition, codes}
use Rattle.paper_script.specs.Bytes.{bytes}
use Rattle.paper_script.specs.Script.{one_character, range_expression, two, any_number}
use Rattle.base_put.specs.Counted.{Counted}
use Rattle.script_terms.specs.declared.Spelt.{Spelt}

pub record TermSpelling : Type 0 where
  pub put : List ℕ
  pub next : ℕ

abbrev pub term_spelling : List ℕ → ℕ → TermSpelling
term_spelling put next = record { put = put; next = next }

-- a range, lo and hi; nothing where the bytes run out
abbrev pub range_spelling : Edition → List ℕ → ℕ → TermSpelling
range_spelling e s i =
    cond (ltb (length s) (i + 3)) (term_spelling [] (length s)) (term_spelling (range_expression e (get_or s (i + 1) 0) (get_or s (i + 2) 0)) (i + 3))

-- what is no operator
abbrev pub single_spelling : Edition → List ℕ → ℕ → TermSpelling
single_spelling e s i =
    cond (eqb (get_or s i 0) range_code) (range_spelling e s i)
    (cond (eqb (get_or s i 0) empty_code) (term_spelling (bytes "(str.to_re \"\")") (i + 1)) (term_spelling (one_character e (get_or s i 0)) (i + 1)))

abbrev pub spelt_at : Edition → ℕ → List ℕ → ℕ → TermSpelling
spelt_at e zero s i = term_spelling [] i
spelt_at e (suc n) s i =
    let a = spelt_at e n s (i + 1) in
    let b = spelt_at e n s a.next in
    cond (leb (length s) i) (term_spelling [] i)
    (cond (eqb (get_or s i 0) many_code) (term_spelling (any_number a.put) a.next)
    (cond (eqb (get_or s i 0) then_code) (term_spelling (two (bytes "(re.++ ") a.put b.put) b.next)
    (cond (eqb (get_or s i 0) or_code) (term_spelling (two (bytes "(re.union ") a.put b.put) b.next)
    (single_spelling e s i))))

-- of a pattern's bytes, from the first on
unfoldable pub term_spelt : Edition → List ℕ → List ℕ
term_spelt e s = (spelt_at e (length s) (codes e s) 0).put

-- the operator of two expressions, by its code
abbrev pub operator_opened : ℕ → List ℕ
operator_opened b = cond (eqb b then_code) (bytes "(re.++ ") (bytes "(re.union ")

-- what was put into d from `at` on, and is told, is this spelling
pub record Spells (d e : List ℕ) (at : ℕ) (r : Spelt) (x : TermSpelling) : Type 0 where
  pub puts : Counted d e at r.end x.put
  pub goes_on : r.next ≡ x.next
