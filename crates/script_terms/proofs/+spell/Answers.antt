-- `spell` meets its contract. Each way out is a law of `Spelling`.
use Prim.Native.Nat.{◌<◌}
use native.Mathlib.Omega.{arith}
use mathlib.Core.Path.{◌≡◌, sym, ◌∙◌}
use lib.ListN.{length, get_or}
use Rattle.paper.specs.Numbers.{many_code, then_code, or_code}
use Rattle.paper.specs.Alphabet.{codes}
use Rattle.base_editions.specs.Editions.{paper_edition}
use Rattle.script_terms.proofs.CodesAt.{as_many_codes}
use Rattle.script_terms.proofs.Spelling.{behind_first, as_single, as_many, as_two}
use Rattle.script_terms.proofs.+spell.Goals as goal

pub returns-then-b : goal.returns-then-b
returns-then-b t c = λ n h.
    let a = c.args in
    let e = paper_edition a.edition in
    as_many e (codes e a.s.now) a.i (omega (arith, as_many_codes e a.s.now, c.if-s-i.false)) n h (sym c.code_at-b.ensures ∙ c.if-b.true)
    c.put_all-open.ensures c.spell-a.ensures c.put-end.ensures

pub returns-then-b-lt-THEN_CODE : goal.returns-then-b-lt-THEN_CODE
returns-then-b-lt-THEN_CODE t c = λ n h.
    let a = c.args in
    let e = paper_edition a.edition in
    let s = codes e a.s.now in
    let b = get_or s a.i 0 in
    as_single e s a.i (omega (arith, as_many_codes e a.s.now, c.if-s-i.false)) n h
    (λ (x : b ≡ many_code). c.if-b.false (c.code_at-b.ensures ∙ x))
    (λ (x : b ≡ then_code). omega (arith, c.if-b-lt-THEN_CODE.true, c.code_at-b.ensures, x))
    (λ (x : b ≡ or_code). omega (arith, c.if-b-lt-THEN_CODE.true, c.code_at-b.ensures, x))
    c.spell_single.ensures

pub returns-then-b-gt-OR_CODE : goal.returns-then-b-gt-OR_CODE
returns-then-b-gt-OR_CODE t c = λ n h.
    let a = c.args in
    let e = paper_edition a.edition in
    let s = codes e a.s.now in
    let b = get_or s a.i 0 in
    as_single e s a.i (omega (arith, as_many_codes e a.s.now, c.if-s-i.false)) n h
    (λ (x : b ≡ many_code). c.if-b.false (c.code_at-b.ensures ∙ x))
    (λ (x : b ≡ then_code). omega (arith, c.if-b-gt-OR_CODE.true, c.code_at-b.ensures, x))
    (λ (x : b ≡ or_code). omega (arith, c.if-b-gt-OR_CODE.true, c.code_at-b.ensures, x))
    c.spell_single-then-b-gt-OR_CODE.ensures

pub spell-second-requires : goal.spell-second-requires
spell-second-requires t c =
    let a = c.args in
    let e = paper_edition a.edition in
    let s = codes e a.s.now in
    let there : a.i < length s = omega (arith, as_many_codes e a.s.now, c.if-s-i.false) in
    (omega (arith, behind_first e s a.i there (length s) c.spell-first.ensures (omega arith), c.if-s-i.false, c.decreases), tt)

pub returns : goal.returns
returns t c = λ n h.
    let a = c.args in
    let e = paper_edition a.edition in
    as_two e (codes e a.s.now) a.i (omega (arith, as_many_codes e a.s.now, c.if-s-i.false)) n h
    (omega (arith, c.code_at-b.ensures, c.if-b-lt-THEN_CODE.false)) (omega (arith, c.code_at-b.ensures, c.if-b-gt-OR_CODE.false))
    (rw c.code_at-b.ensures at c.operator-open.ensures) c.spell-first.ensures
    c.put-gap.ensures c.spell-second.ensures c.put-end-2.ensures
