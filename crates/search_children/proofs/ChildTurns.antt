-- Laws of sides as lists of tokens: turn by turn, what striking and putting do, and what is made when all tokens are passed. Follows from the definitions
-- by induction on the side.
use Prim.Native.Nat.{ℕ, ◌+◌, ◌≤◌, ◌<◌}
use native.Mathlib.Numerals.{add-one}
use native.Mathlib.Omega.{arith}
use mathlib.Core.Path.{◌≡◌, refl, sym, ap, ◌∙◌}
use mathlib.Core.Bool.{Bool, true, false, not, ◌&&◌, ◌||◌}
use mathlib.Core.List.{List, [], ◌∷◌, ◌++◌, append_assoc, append-nil}
use lib.Dec.{leb, eqb}
use lib.ListN.{length, get_or, take, drop, set}
use lib.Seq.{take-suc, take-suc-set}
use Rattle.paper.specs.Lists.{only, keep}
use Rattle.paper.proofs.base.Tests.{eq_eqb, neq_eqb}
use Rattle.base_codes.specs.Inner.{field_code, no_token, tokens}
use Rattle.base_codes.proofs.Tokens.{tokens_part, tokens_more, tokens_end, tokens_none}
use Rattle.search_children.specs.Children.{strike_codes, put_codes}

-- the tokens of a loop's first turns, and of one turn more
pub keep_append : (p : ℕ → Bool) (l m : List ℕ) → keep p (l ++ m) ≡ keep p l ++ keep p m
keep_append p [] m = refl
keep_append p (x ∷ l) m = rw (keep_append p l m, append_assoc)

put_append : (c a b : ℕ) (l m : List ℕ) → put_codes c a b (l ++ m) ≡ put_codes c a b l ++ put_codes c a b m
put_append c a b [] m = refl
put_append c a b (x ∷ l) m = rw (put_append c a b l m, append_assoc)

module _ (side : List ℕ) (i : ℕ) (h : i < length side) where
  pub strike_more : (b : ℕ) → strike_codes b (take (i + 1) side) ≡ strike_codes b (take i side) ++ only (not (eqb (get_or side i 0) b)) (get_or side i 0)
  strike_more b = rw (add-one, take-suc side i 0 h, keep_append (λ (x : ℕ). not (eqb x b)), append-nil)

  pub put_more : (c a b : ℕ) → put_codes c a b (take (i + 1) side) ≡ put_codes c a b (take i side) ++ (only (leb field_code (get_or side i 0) && (eqb (get_or side i 0) a || eqb (get_or side i 0) b)) c ++ (get_or side i 0 ∷ []))
  put_more c a b = rw (add-one, take-suc side i 0 h, put_append c a b)

-- one token more in the front of the bytes
pub pushed : (d : List ℕ) (n x : ℕ) → n < length d → take (n + 1) (set d n x) ≡ take n d ++ (x ∷ [])
pushed d n x h = rw add-one (take-suc-set d n x h)

-- one token more, if a test is passed
pub only_taken : (made next : List ℕ) (t : Bool) (x : ℕ) → t ≡ true → next ≡ made ++ (x ∷ []) → next ≡ made ++ only t x
only_taken made next t x e h = rw e h

pub only_left : (made next : List ℕ) (t : Bool) (x : ℕ) → t ≡ false → next ≡ made → next ≡ made ++ only t x
only_left made next t x e h = rw (e, append-nil) h

-- What is made of the first i tokens of a side.
pub record Written (codes : List ℕ → List ℕ) (side : List ℕ) (i : ℕ) (made : List ℕ) : Type 0 where
  pub is : made ≡ codes (take i side)
  pub passed : length (tokens side) ≡ i + length (tokens (drop i side))

module _ {codes : List ℕ → List ℕ} {side : List ℕ} {i : ℕ} {made : List ℕ} (w : Written codes side i made) where
  -- one token more
  written_more : i < length side → (get_or side i 0 ≡ no_token → ⊥) → (next more : List ℕ) → next ≡ made ++ more
      → codes (take (i + 1) side) ≡ codes (take i side) ++ more → Written codes side (i + 1) next
  written_more h n next more p e =
      record {
        is = rw (p, w.is) (sym e);
        passed = omega (arith, w.passed, tokens_more side i h (neq_eqb (get_or side i 0) no_token n));
      }

  -- no token is behind them
  all_passed : length (tokens (drop i side)) ≡ 0 → made ≡ codes (tokens side)
  all_passed z =
      let f : i ≡ length (tokens side) = omega (arith, w.passed) in
      let all : take i side ≡ tokens side = rw f (tokens_part side) in
      w.is ∙ ap codes all

  pub written_end : i < length side → get_or side i 0 ≡ no_token → made ≡ codes (tokens side)
  written_end h e = all_passed (tokens_end side i h (eq_eqb (get_or side i 0) no_token e))

  pub written_all : length side ≤ i → made ≡ codes (tokens side)
  written_all h = all_passed (tokens_none side i h)

-- one token more of a side that is struck, and of one into which a character is put
module _ {side : List ℕ} {i : ℕ} {made : List ℕ} (h : i < length side) (n : get_or side i 0 ≡ no_token → ⊥) where
  pub struck_more : (b : ℕ) → Written (strike_codes b) side i made → (next : List ℕ) → next ≡ made ++ only (not (eqb (get_or side i 0) b)) (get_or side i 0)
      → Written (strike_codes b) side (i + 1) next
  struck_more b w next p = written_more w h n next (only (not (eqb (get_or side i 0) b)) (get_or side i 0)) p (strike_more side i h b)

  pub put_before : (c a b : ℕ) → Written (put_codes c a b) side i made → (next : List ℕ)
      → next ≡ made ++ only (leb field_code (get_or side i 0) && (eqb (get_or side i 0) a || eqb (get_or side i 0) b)) c → Written (put_codes c a b) side (i + 1) (next ++ (get_or side i 0 ∷ []))
  put_before c a b w next p =
      let t = leb field_code (get_or side i 0) && (eqb (get_or side i 0) a || eqb (get_or side i 0) b) in
      written_more w h n (next ++ (get_or side i 0 ∷ [])) (only t c ++ (get_or side i 0 ∷ [])) (rw (p, append_assoc))
      (put_more side i h c a b)
