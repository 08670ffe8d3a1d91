-- `sides::body` meets its contract: each way out is the case of the definition that the checks on the way leave. Assumes nothing.
use Prim.Native.Nat.{ℕ, ◌+◌, ◌-◌, ◌≤◌, ◌<◌}
use native.Mathlib.Nat.{add_assoc}
use native.Mathlib.Omega.{arith}
use mathlib.Core.Path.{◌≡◌, sym, ap, ◌∙◌}
use mathlib.Core.Bool.{true, false, cond}
use mathlib.Core.List.{List, map}
use borrow.Author.Tests.{le-ltb}
use lib.ListN.{length, take, drop, length-drop, length-map}
use lib.Seq.{length-take-le}
use Rattle.paper.specs.Lists.{all, leading}
use Rattle.paper.specs.Alphabet.{Edition, code, codes}
use Rattle.paper.specs.Sheet.{read, fault, wrong_token, is_token, token, body, byte_at, side_record}
use Rattle.base_editions.specs.Editions.{paper_edition}
use Rattle.read_side.proofs.SideBytes.{side_laid, codes_of_tokens, fewer_lead, all_lead}
use Rattle.read_side.proofs.body.Goals as goal

-- the codes of its body
abbrev its-codes : Edition → List ℕ → ℕ → List ℕ
its-codes e s at = codes e (body s (at + 3) (byte_at s (at + 2)))

-- it is what is lent
lent : (s : List ℕ) (at : ℕ) → let n = byte_at s (at + 2) in take ((at + 3 + n) - (at + 3)) (drop (at + 3) s) ≡ body s (at + 3) n
lent s at =
    let n = byte_at s (at + 2) in
    let e : (at + 3 + n) - (at + 3) ≡ n = omega arith in
    rw e

-- all its bytes are there
there : (e : Edition) (s : List ℕ) (at : ℕ) → 3 + byte_at s (at + 2) ≤ length s - at → length (its-codes e s at) ≡ byte_at s (at + 2)
there e s at h =
    let n = byte_at s (at + 2) in
    length-map (body s (at + 3) n) (code e) ∙ length-take-le n (drop (at + 3) s) (omega (arith, length-drop (at + 3) s))

-- how many tokens lead it
led : (e : Edition) (s : List ℕ) (at k : ℕ)
    → k ≡ leading is_token (codes e (take ((at + 3 + byte_at s (at + 2)) - (at + 3)) (drop (at + 3) s))) → leading is_token (its-codes e s at) ≡ k
led e s at k h = ap (λ (b : List ℕ). leading is_token (codes e b)) (sym (lent s at)) ∙ sym h

-- the tokens are judged
not-all : (e : Edition) (s : List ℕ) (at k : ℕ) → 3 + byte_at s (at + 2) ≤ length s - at → leading is_token (its-codes e s at) ≡ k
    → k < byte_at s (at + 2) → all is_token (its-codes e s at) ≡ false
not-all e s at k h l m = fewer_lead is_token (its-codes e s at) (omega (arith, there e s at h, l))

all-tokens : (e : Edition) (s : List ℕ) (at k : ℕ) → 3 + byte_at s (at + 2) ≤ length s - at → leading is_token (its-codes e s at) ≡ k
    → byte_at s (at + 2) ≤ k → all is_token (its-codes e s at) ≡ true
all-tokens e s at k h l m = all_lead is_token (its-codes e s at) (omega (arith, there e s at h, l))

-- the checks before the tokens are passed
past-length : (e : Edition) (s : List ℕ) (at : ℕ) → 3 ≤ length s - at → byte_at s (at + 2) ≤ 24 → 3 + byte_at s (at + 2) ≤ length s - at
    → side_record e s at
    ≡ cond (all is_token (its-codes e s at)) (read (map token (its-codes e s at)) (at + (3 + byte_at s (at + 2))))
    (fault wrong_token (at + 3 + leading is_token (its-codes e s at)))
unfolding side_record
past-length e s at h k l = simp (le-ltb _ _ h, le-ltb _ _ k, le-ltb _ _ l)

pub returns-then-tokens-len : goal.returns-then-tokens-len
returns-then-tokens-len c =
    let e = paper_edition c.args.edition in
    let s = c.args.s.now in
    let at = c.args.at in
    let l = led e s at _ c.leading_tokens-tokens.ensures in
    let n = not-all e s at _ c.if-left-len.false l c.if-tokens-len.true in
    rw (past-length e s at c.if-left-lt3.false c.if-len-gt-SHEET_SIDE.false c.if-left-len.false, n, l)

pub returns : goal.returns
returns c =
    let e = paper_edition c.args.edition in
    let s = c.args.s.now in
    let at = c.args.at in
    let h = all-tokens e s at _ c.if-left-len.false (led e s at _ c.leading_tokens-tokens.ensures) c.if-tokens-len.false in
    -- the inner codes of the side are the codes of its bytes
    let coded = rw (lent s at) at c.codes_of.ensures ∙ side_laid e (body s (at + 3) (byte_at s (at + 2))) (omega (arith, there e s at c.if-left-len.false, length-map (body s (at + 3) (byte_at s (at + 2))) (code e))) in
    rw (past-length e s at c.if-left-lt3.false c.if-len-gt-SHEET_SIDE.false c.if-left-len.false, h, codes_of_tokens (its-codes e s at) h, coded) (simp (← add_assoc))
