-- `is_token` meets its contract, by the laws of a byte's code.
use Prim.Native.Nat.{ℕ, ◌-◌, ◌≤◌}
use native.Mathlib.Omega.{arith}
use mathlib.Core.Path.{◌≡◌, sym, ap, ◌∙◌}
use lib.Dec.{ltb}
use Rattle.paper.specs.Numbers.{fields}
use Rattle.paper.specs.Alphabet.{Edition, alphabet_of}
use Rattle.base_editions.specs.Editions.{paper_edition}
use Rattle.base_editions.specs.declared.Alphabet.{Alphabet}
use Rattle.fronts_sides.proofs.TokenBytes.{character_token, before_none, by_field}
use Rattle.fronts_sides.proofs.is_token.Goals.{After-alphabet_of-own, After-codes_from-from}
use Rattle.fronts_sides.proofs.is_token.Goals as goal

-- the edition, the byte, and how many characters there are
module _ (k : After-alphabet_of-own) where
  abbrev its_edition : Edition
  its_edition = paper_edition k.args.edition

  abbrev its_byte : ℕ
  its_byte = k.args.b

  own : k.alphabet_of-own.result.characters ≡ (alphabet_of its_edition).characters
  own = ap (λ (a : Alphabet). a.characters) k.alphabet_of-own.ensures

pub returns-then-b-own : goal.returns-then-b-own
returns-then-b-own c = sym (character_token (paper_edition c.args.edition) c.args.b (omega (arith, own (goal.at.returns-then-b-own c).After-alphabet_of-own, c)))

-- the byte is no character
other : (f : After-codes_from-from) → (alphabet_of (paper_edition f.args.edition)).characters ≤ f.args.b
other f = omega (arith, ap (λ (a : Alphabet). a.characters) f.alphabet_of-own.ensures, f.if-b-own.false)

pub returns-then-b-from : goal.returns-then-b-from
returns-then-b-from c =
    sym (before_none (paper_edition c.args.edition) c.args.b (other (goal.at.returns-then-b-from c).After-codes_from-from) (omega (arith, c.codes_from-from.ensures, c)))

pub returns : goal.returns
returns c =
    ap (λ (n : ℕ). ltb (c.args.b - n) fields) c.codes_from-from.ensures
    ∙ sym (by_field (paper_edition c.args.edition) c.args.b (other (goal.at.returns c).After-codes_from-from) (omega (arith, c.codes_from-from.ensures, c)))
