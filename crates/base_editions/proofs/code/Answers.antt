-- `code` meets its contract, by the laws of a byte's code. Assumes nothing.
use Prim.Native.Nat.{ℕ}
use native.Mathlib.Omega.{arith}
use mathlib.Core.Path.{◌≡◌, sym, ap}
use Rattle.paper.specs.Alphabet.{Edition, alphabet_of, codes_from}
use Rattle.base_editions.specs.declared.Alphabet.{Alphabet}
use Rattle.paper_laws.proofs.sheets.Editions.{code_character}
use Rattle.base_editions.specs.Editions.{paper_edition}
use Rattle.base_editions.proofs.Codes.{before_codes, among_codes, behind_codes}
use Rattle.base_editions.proofs.code.Lts as lts
use Rattle.base_editions.proofs.code.Tie.{the-claims}
use Rattle.base_editions.proofs.code.Reads.{Pre, Post}
use Rattle.base_editions.proofs.code.Goals as goal

abbrev The-After-struct_known : Type 0
The-After-struct_known = lts.After-struct_known the-claims Pre Post

-- the edition, the byte, and what the callees say of the edition
abbrev edition : The-After-struct_known → Edition
edition k = paper_edition k.args.edition

abbrev byte : The-After-struct_known → ℕ
byte k = k.args.b

own : (k : The-After-struct_known) → k.alphabet_of-own.result.characters ≡ (alphabet_of (edition k)).characters
own k = ap (λ (a : Alphabet). a.characters) k.alphabet_of-own.ensures

from : (k : The-After-struct_known) → k.codes_from-from.result ≡ codes_from (edition k)
from k = k.codes_from-from.ensures

pub returns-then-b-own : goal.returns-then-b-own
returns-then-b-own c = sym (code_character (edition c.before) (byte c.before) (omega (arith, own c.before, c)))

pub returns-then-b-from : goal.returns-then-b-from
returns-then-b-from c =
    sym (before_codes (edition c.before.before) (byte c.before.before) (omega (arith, own c.before.before, c.before, c)) (omega (arith, from c.before.before, c)))

pub returns-then-b-from-lt-FIELDS : goal.returns-then-b-from-lt-FIELDS
returns-then-b-from-lt-FIELDS c =
    let e = edition c.before.before.before in
    let b = byte c.before.before.before in
    let own = own c.before.before.before in
    let from = from c.before.before.before in
    rw (from) (sym (among_codes e b (omega (arith, c.before.before, c.before, c)) (omega (arith, c.before, c)) (omega (arith, c.before, c))))

pub returns : goal.returns
returns c =
    sym (behind_codes (edition c.before.before.before) (byte c.before.before.before) (omega (arith, own c.before.before.before, c.before.before, c.before, c)) (omega (arith, from c.before.before.before, c.before, c)) (omega (arith, from c.before.before.before, c.before, c)))
