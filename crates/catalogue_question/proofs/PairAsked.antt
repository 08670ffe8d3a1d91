-- What two good rules' code asks is their pair (`pair_is`), a good question (`pair_good`). Follows from the laws of good rules.
use Prim.Native.Nat.{ℕ, zero, suc, ◌+◌, ◌-◌}
use native.Mathlib.Omega.{arith}
use mathlib.Core.Path.{◌≡◌, refl, sym, ap, ap₂, ◌∙◌}
use mathlib.Core.List.{List, [], ◌∷◌, ◌++◌, map, Memᴰ}
use lib.ListN.{length, take, replicate, length-map}
use Rattle.paper.specs.Numbers.{rule_fields, longest_side}
use Rattle.paper.specs.Alphabet.{code_39}
use Rattle.paper.specs.Equation.{Token, chr, fld, Side}
use Rattle.paper.specs.Rule.{Rule, moved_up, pair}
use Rattle.paper.proofs.base.Tests.{le_leb, lt_leb, lt_ltb}
use Rattle.paper.proofs.base.Lists.{map_append}
use Rattle.paper_laws.proofs.sheets.Asked.{GoodQuestion}
use Rattle.paper_catalogue.proofs.GoodRule.{GoodRule, OwnToken, pair_asks}
use Rattle.base_places.specs.WorkedOut.{worked_out}
use Rattle.base_places.specs.declared.PlaceTables.{PlaceTables}
use Rattle.base_places.proofs.ByNumber.{by_number}
use Rattle.base_codes.specs.Inner.{field_code, no_token, token_code, side_code, padded}
use Rattle.base_editions.specs.Editions.{alphabet_code}
use Rattle.base_question.specs.Asked.{question_of}
use Rattle.base_question.specs.declared.Body.{Body}
use Rattle.catalogue_question.specs.PairCoded.{moved_code, joined, pair_question}

-- the code of a rule's own token moves up as the token does
moved_code_is : (t : Token) → OwnToken t → moved_code (token_code t) ≡ token_code (moved_up t)
moved_code_is (chr c) h = rw (lt_leb field_code c (omega arith))
moved_code_is (fld f) h =
    let e : field_code + f + rule_fields ≡ field_code + (rule_fields + f) = omega arith in
    rw (le_leb field_code (field_code + f) (omega arith), lt_ltb (field_code + f + rule_fields) no_token (omega arith)) e

moved_codes : (side : Side) → ((t : Token) → Memᴰ t side → OwnToken t) → map moved_code (side_code side) ≡ side_code (map moved_up side)
moved_codes [] h = refl
moved_codes (t ∷ side) h =
    ap₂ ◌∷◌ (moved_code_is t (h t (Memᴰ.head refl))) (moved_codes side (λ u d. h u (Memᴰ.tail d)))

moved_none : (n : ℕ) → map moved_code (replicate n no_token) ≡ replicate n no_token
moved_none zero = refl
moved_none (suc n) = ap (λ (l : List ℕ). no_token ∷ l) (moved_none n)

moved_padded : (side : Side) → ((t : Token) → Memᴰ t side → OwnToken t)
    → map moved_code (padded (side_code side)) ≡ padded (side_code (map moved_up side))
moved_padded side own =
    let l : length (side_code side) ≡ length (side_code (map moved_up side)) =
    length-map side token_code ∙ sym (length-map (map moved_up side) token_code ∙ length-map side moved_up) in
    rw
    (map_append moved_code (side_code side) (replicate (longest_side - length (side_code side)) no_token), moved_none (longest_side - length (side_code side)), moved_codes side own, l)

take_map : {A B : Type 0} (f : A → B) (n : ℕ) (l : List A) → take n (map f l) ≡ map f (take n l)
take_map f zero l = refl
take_map f (suc n) [] = refl
take_map f (suc n) (x ∷ l) = ap (λ (m : List _). f x ∷ m) (take_map f n l)

-- a side and the fields' tables are those of the rule
pub record CodeOf (r : Rule) (side : List ℕ) (fields : List PlaceTables) : Type 0 where
  pub good : GoodRule r
  pub side_is : side ≡ padded (side_code r.side)
  pub fields_are : fields ≡ map worked_out r.fields.held

module _ (r s : Rule) (g : GoodRule r) (h : GoodRule s) where
  pub pair_good : GoodQuestion (pair r s)
  pair_good = pair_asks r s g h (pair r s) refl

  joins : joined (map worked_out r.fields.held) (map worked_out s.fields.held) ≡ map worked_out (pair r s).held
  unfolding pair
  joins =
      ap₂ ◌++◌ (take_map worked_out rule_fields r.fields.held) (take_map worked_out rule_fields s.fields.held)
      ∙ sym (map_append worked_out (take rule_fields r.fields.held) (take rule_fields s.fields.held))

  asked_is : (bodies : List Body)
      → pair_question (padded (side_code r.side)) (padded (side_code s.side)) (map worked_out r.fields.held) (map worked_out s.fields.held) bodies
      ≡ question_of (pair r s) bodies
  unfolding pair pair_question
  asked_is bodies =
      let fields = joins ∙ by_number (pair r s).held pair_good.held.each_field in
      λ i. record { alphabet = alphabet_code code_39; left = padded (side_code r.side); right = moved_padded s.side h.tokens i; fields = fields i; bodies = bodies }

pub pair_is : {r s : Rule} {left right : List ℕ} {first second : List PlaceTables} → CodeOf r left first → CodeOf s right second
    → (bodies : List Body) → pair_question left right first second bodies ≡ question_of (pair r s) bodies
pair_is {r} {s} a b bodies = rw (a.side_is, b.side_is, a.fields_are, b.fields_are) (asked_is r s a.good b.good bodies)
