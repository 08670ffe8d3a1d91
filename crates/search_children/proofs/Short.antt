-- What a caller goes by: the situation that a struct holds is short; the struct that is made for a short one holds it; what is made of a
-- short situation is short; what the fate of a child says of the definition. Follows from the definitions in Coded and Laid and from the
-- laws of a side's tokens.
use Prim.Native.Nat.{ℕ, ◌<◌}
use native.Mathlib.Omega.{arith}
use mathlib.Core.Path.{◌≡◌, refl, subst, ◌∙◌}
use mathlib.Core.Bool.{Bool, true, false, cond, ◌&&◌, ◌||◌, not}
use mathlib.Core.List.{List, [], ◌∷◌}
use lib.Dec.{leb, eqb}
use lib.ListN.{length, drop, length-set}
use Rattle.paper.specs.Lists.{all, only, keep}
use Rattle.paper.specs.Numbers.{most_characters, set_fields, longest_side}
use Rattle.paper.proofs.base.Lists.{all_true, every_all, all_append, mem_keep}
use Rattle.paper.proofs.base.Tests.{cond_by, both_true, and_left, and_right, or_left_false, or_right_false, not_is_false, false_not, leb_true, neq_eqb}
use Rattle.base_codes.specs.Inner.{field_code, no_token, is_code, is_field_code, field_of, front}
use Rattle.base_codes.proofs.Tokens.{all_drop}
use Rattle.base_codes.specs.Coded.{Coded, as_struct, Short}
use Rattle.search_children.specs.Children.{Settled, dropped, above, made, strike_codes, put_codes, dead_sides, left_strike, right_strike, put_of}
use Rattle.search_trim.specs.Trimming.{alike_in_front}
use Rattle.search_children.specs.Children.{judged_sides, settle, with_set, struck, put_child, may_end_at}
use Rattle.search_children.specs.Laid.{child_of}
use Rattle.search_fronts.specs.Fronts.{Front, set_by, both_take}
use Rattle.base_codes.specs.declared.Situation.{Situation}
use Rattle.search_children.specs.declared.Child.TheVariants.{Dropped, Above, Made}

-- a child, and what the definition says of it
pub child_dropped : (x : Settled) → child_of x ≡ Dropped → x ≡ dropped
child_dropped dropped f = refl
child_dropped above f = absurd (let z : ◌≡◌ {A = ℕ} 0 1 = cc in omega arith)
child_dropped (made t) f = absurd (let z : ◌≡◌ {A = ℕ} 0 1 = cc in omega arith)

pub child_above : (x : Settled) → child_of x ≡ Above → x ≡ above
child_above dropped f = absurd (let z : ◌≡◌ {A = ℕ} 0 1 = cc in omega arith)
child_above above f = refl
child_above (made t) f = absurd (let z : ◌≡◌ {A = ℕ} 0 1 = cc in omega arith)

pub child_made : (x : Settled) (at : Situation) → child_of x ≡ Made at → (t : Coded) × (x ≡ made t) × (at ≡ as_struct t)
child_made dropped at f = absurd (let z : ◌≡◌ {A = ℕ} 0 1 = cc in omega arith)
child_made above at f = absurd (let z : ◌≡◌ {A = ℕ} 0 1 = cc in omega arith)
child_made (made t) at f = (t, refl, (cc))

-- the tokens of what is left, struck, put
all_keep : (p q : ℕ → Bool) (l : List ℕ) → all p l ≡ true → all p (keep q l) ≡ true
all_keep p q l h = every_all p (keep q l) (λ x d. all_true p l h (mem_keep q l d).0)

all_only : (p : ℕ → Bool) (t : Bool) (x : ℕ) → p x ≡ true → all p (only t x) ≡ true
all_only p true x h = both_true h refl
all_only p false x h = refl

all_put : (p : ℕ → Bool) (c a b : ℕ) (l : List ℕ) → p c ≡ true → all p l ≡ true → all p (put_codes c a b l) ≡ true
all_put p c a b [] k h = refl
all_put p c a b (x ∷ l) k h =
    rw all_append
    (both_true (all_only p (leb field_code x && (eqb x a || eqb x b)) c k) (both_true (and_left (p x) (all p l) h) (all_put p c a b l k (and_right (p x) (all p l) h))))

-- sides of tokens that are judged and made are those of a short situation
module _ (l r sets : List ℕ) (e : length sets ≡ set_fields) (p : all is_code l ≡ true) (q : all is_code r ≡ true) where
  judged_short : {t : Coded} → judged_sides l r sets ≡ made t → Short t
  unfolding judged_sides
  judged_short {t} =
      cond_by (λ (x : Settled). x ≡ made t → Short t) (dead_sides l r)
      (λ _ (f : dropped ≡ made t). absurd (let z : ◌≡◌ {A = ℕ} 0 1 = cc in omega arith))
      (λ _. cond_by (λ (x : Settled). x ≡ made t → Short t) (not (leb (length l) longest_side) || not (leb (length r) longest_side))
      (λ _ (f : above ≡ made t). absurd (let z : ◌≡◌ {A = ℕ} 0 1 = cc in omega arith))
      (λ (g : (not (leb (length l) longest_side) || not (leb (length r) longest_side)) ≡ false) (f : made (record { left = l; right = r; sets = sets }) ≡ made t).
      let h : record { left = l; right = r; sets = sets } ≡ t = cc in
      subst Short h
      (record {
        left = leb_true (length l) longest_side (not_is_false (or_left_false (not (leb (length l) longest_side)) (not (leb (length r) longest_side)) g));
        right = leb_true (length r) longest_side (not_is_false (or_right_false (not (leb (length l) longest_side)) (not (leb (length r) longest_side)) g));
        sets = e;
        left_tokens = p;
        right_tokens = q;
      })))

settle_short : (l r sets : List ℕ) {t : Coded} → length sets ≡ set_fields → all is_code l ≡ true → all is_code r ≡ true → settle l r sets ≡ made t → Short t
unfolding settle
settle_short l r sets e p q =
    let n = alike_in_front l r in
    judged_short (drop n l) (drop n r) sets e (all_drop is_code n l p) (all_drop is_code n r q)

with_set_length : (b m : ℕ) (sets : List ℕ) → length (with_set b m sets) ≡ length sets
with_set_length b m sets =
    cond_by (λ (l : List ℕ). length l ≡ length sets) (is_field_code b) (λ _. length-set sets (field_of b) m) (λ _. refl)

-- a child under a test is made only where the test passes
made_under : {t : Coded} (b : Bool) (x : Settled) → cond b x dropped ≡ made t → (b ≡ true) × (x ≡ made t)
made_under true x f = (refl, f)
made_under false x f = absurd (let z : ◌≡◌ {A = ℕ} 0 1 = cc in omega arith)

-- a child of a short situation is short
struck_short : {k t : Coded} (b : ℕ) → Short k → struck k b ≡ made t → Short t
unfolding struck
struck_short {k} b h =
    settle_short (strike_codes b k.left) (strike_codes b k.right) (with_set b 0 k.sets)
    (with_set_length b 0 k.sets ∙ h.sets)
    (all_keep is_code (λ (x : ℕ). not (eqb x b)) k.left h.left_tokens)
    (all_keep is_code (λ (x : ℕ). not (eqb x b)) k.right h.right_tokens)

put_child_short : {k t : Coded} (c m n : ℕ) → is_code c ≡ true → Short k → put_child k c m n ≡ made t → Short t
unfolding put_child
put_child_short {k} c m n i h =
    let a = front k.left in
    let b = front k.right in
    settle_short (put_codes c a b k.left) (put_codes c a b k.right) (with_set b n (with_set a m k.sets))
    (with_set_length b n (with_set a m k.sets) ∙ with_set_length a m k.sets ∙ h.sets)
    (all_put is_code c a b k.left i h.left_tokens)
    (all_put is_code c a b k.right i h.right_tokens)

pub left_strike_short : {k t : Coded} (last : List ℕ) → Short k → left_strike last k ≡ made t → Short t
unfolding left_strike
left_strike_short {k} last h f =
    let b = front k.left in
    struck_short b h (made_under (may_end_at k.sets last b) (struck k b) f).1

pub right_strike_short : {k t : Coded} (last : List ℕ) → Short k → right_strike last k ≡ made t → Short t
unfolding right_strike
right_strike_short {k} last h f =
    let b = front k.right in
    struck_short b h (made_under (may_end_at k.sets last b && not (eqb b (front k.left))) (struck k b) f).1

pub put_short : {k t : Coded} (l r : Front) (c : ℕ) → c < most_characters → Short k → put_of k l r c ≡ made t → Short t
unfolding put_of
put_short {k} l r c i h f =
    put_child_short c (set_by l c) (set_by r c) (false_not (neq_eqb c no_token (λ e. omega arith))) h (made_under (both_take l r c) (put_child k c (set_by l c) (set_by r c)) f).1

-- the child by a character, by whether both fronts take it
pub put_taken : (k : Coded) (l r : Front) (c : ℕ) (b : Bool) → b ≡ both_take l r c → b ≡ true → put_of k l r c ≡ put_child k c (set_by l c) (set_by r c)
unfolding put_of
put_taken k l r c b e f = rw (← e, f)

pub put_not_taken : (k : Coded) (l r : Front) (c : ℕ) (b : Bool) → b ≡ both_take l r c → b ≡ false → put_of k l r c ≡ dropped
unfolding put_of
put_not_taken k l r c b e f = rw (← e, f)
