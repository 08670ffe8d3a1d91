-- A rule by what its parts are, and the fields above 3 that its side names. Follows from the definition of `rule_front` by its cases, and from
-- what a token's inner code is.
use Prim.Native.Nat.{ℕ, zero, suc, ◌+◌, ◌-◌, ◌≤◌, ◌<◌}
use native.Mathlib.Omega.{arith}
use mathlib.Core.Path.{◌≡◌, refl, ap₂, ◌∙◌}
use mathlib.Core.Bool.{Bool, true, false, ◌||◌, or-false}
use mathlib.Core.List.{List, [], ◌∷◌, map, Memᴰ}
use lib.Dec.{leb, ltb}
use lib.ListN.{length, replicate}
use Rattle.std.specs.Prelude.{Ok}
use Rattle.paper.specs.Lists.{any}
use Rattle.paper.specs.Numbers.{characters, rule_fields, longest_side}
use Rattle.paper.specs.Alphabet.{edition_1}
use Rattle.paper.specs.Equation.{Token, chr, fld, Side}
use Rattle.paper.specs.Rule.{foreign_token, foreign_field, rule_front}
use Rattle.paper.specs.Sheet.{Fault, fault, read, cut_short, wrong_mark, LE, RU, bytes_left, next_is, marked, marked_side, Records, faulty, records, Fields, open_fields, read_patterns}
use Rattle.paper.proofs.base.Tests.{by_bool, lt_ltb, le_ltb, le_leb, lt_leb, leb_true, leb_false, neq_eqb}
use Rattle.paper.proofs.base.Lists.{any_append}
use Rattle.paper_laws.proofs.sheets.Asked.{InRange, GoodSide, marked_good}
use Rattle.base_codes.specs.Inner.{field_code, no_token, token_code, side_code, padded}
use Rattle.base_places.specs.WorkedOut.{worked_out}
use Rattle.base_places.specs.declared.PlaceTables.{PlaceTables}
use Rattle.base_question.specs.declared.Body.{Body}
use Rattle.read_fields.specs.Bodies.{bodies_in}
use Rattle.read_rule.specs.RuleRead.{foreign_code, rule_bodies, rule_of}

-- a token's inner code is foreign exactly if the token is
code_foreign : (t : Token) → InRange characters t → foreign_code (token_code t) ≡ foreign_token t
code_foreign (chr c) h = rw (lt_leb (field_code + rule_fields) c (omega arith))
code_foreign (fld f) h =
    by_bool (leb rule_fields f)
    (λ e. let k = leb_true rule_fields f e in
    rw (e, le_leb (field_code + rule_fields) (field_code + f) (omega arith), neq_eqb (field_code + f) no_token (λ z. omega arith)))
    (λ e. let k = leb_false rule_fields f e in rw (e, lt_leb (field_code + rule_fields) (field_code + f) (omega arith)))

codes_foreign : (side : Side) → ((t : Token) → Memᴰ t side → InRange characters t) → any foreign_code (side_code side) ≡ any foreign_token side
codes_foreign [] h = refl
codes_foreign (t ∷ side) h =
    ap₂ ◌||◌ (code_foreign t (h t (Memᴰ.head refl))) (codes_foreign side (λ u d. h u (Memᴰ.tail d)))

none_foreign : (n : ℕ) → any foreign_code (replicate n no_token) ≡ false
none_foreign zero = refl
none_foreign (suc n) = none_foreign n

side_foreign : (side : Side) → GoodSide characters side → any foreign_code (padded (side_code side)) ≡ any foreign_token side
side_foreign side g =
    any_append foreign_code (side_code side) (replicate (longest_side - length (side_code side)) no_token)
    ∙ rw (none_foreign (longest_side - length (side_code side)), codes_foreign side g.tokens) (or-false (any foreign_token side))

-- what the patterns' records of the rule give
abbrev pub patterns_of : List ℕ → Records Fields
patterns_of s = read_patterns edition_1 (suc (length s)) s 2 open_fields

module _ (s : List ℕ) where
  pub short : length s < 2 → rule_front s ≡ faulty cut_short (length s)
  unfolding rule_front
  short h = rw (lt_ltb (length s) 2 h)

  pub unmarked : 2 ≤ length s → next_is RU s 0 ≡ false → rule_front s ≡ faulty wrong_mark 0
  unfolding rule_front next_is
  unmarked h e = let m : marked RU s 0 ≡ false = rw (le_ltb (bytes_left s 0) 2 (omega arith)) at e in rw (le_ltb (length s) 2 h, m)

  module _ (h : 2 ≤ length s) (e : next_is RU s 0 ≡ true) where
    mark : marked RU s 0 ≡ true
    unfolding next_is
    mark = rw (le_ltb (bytes_left s 0) 2 (omega arith)) at e

    pub patterns_fault : (x : Fault) (at : ℕ) → patterns_of s ≡ faulty x at → rule_front s ≡ faulty x at
    unfolding rule_front
    patterns_fault x at p = rw (le_ltb (length s) 2 h, mark, p)

    module _ (fs : Fields) (at : ℕ) (p : patterns_of s ≡ records fs at) where
      pub side_fault : (x : Fault) (place : ℕ) → marked_side edition_1 LE s at ≡ fault x place → rule_front s ≡ faulty x place
      unfolding rule_front
      side_fault x place f = rw (le_ltb (length s) 2 h, mark, p, f)

      module _ (l : Side) (next : ℕ) (f : marked_side edition_1 LE s at ≡ read l next) where
        stands : rule_front s ≡ records (record { side = l; fields = fs }) next
        unfolding rule_front
        stands = rw (le_ltb (length s) 2 h, mark, p, f)

        good_side : GoodSide characters l
        good_side = rw f at (marked_good edition_1 LE s at)

        pub whole : (codes : List ℕ) (tables : List PlaceTables) (foreign : Bool) (bodies : List Body)
            → codes ≡ padded (side_code l) → tables ≡ map worked_out fs.held → foreign ≡ (ltb rule_fields fs.above || any foreign_code codes)
            → bodies ≡ bodies_in s 2
            → Ok (record { bytes = next; foreign = foreign; side = codes; fields = tables; bodies = bodies }) ≡ rule_of (rule_bodies s) (rule_front s)
        unfolding foreign_field rule_bodies
        whole codes tables foreign bodies a b c d = rw (stands, c, a, b, d, side_foreign l good_side)
