-- Sides by their codes: what is done to the codes of a side is what the paper does to its tokens. Tests of tokens, strikes, puts,
-- trimming, dead, finished.
-- Holds of known tokens, those that a situation may have: 01's characters, and the fields that it has sets for.
-- Follows from the codes of known tokens being different, by induction on sides.
use Prim.Native.Nat.{ℕ, ◌+◌, ◌<◌}
use native.Mathlib.Omega.{arith}
use mathlib.Core.Path.{◌≡◌, refl, sym, ap, ap₂, ◌∙◌}
use mathlib.Core.Bool.{Bool, true, false, not, ◌&&◌, ◌||◌, or-false}
use mathlib.Core.List.{List, [], ◌∷◌, ◌++◌, map, Memᴰ}
use lib.Dec.{leb, eqb}
use lib.ListN.{drop}
use Rattle.paper.specs.Lists.{any, only, keep, same_by, member}
use Rattle.paper.specs.Numbers.{most_characters, set_fields}
use Rattle.paper.specs.Equation.{Token, chr, fld, Side, is_field}
use Rattle.paper.specs.Situation.{Acceptor, Sides, trim, same_token, Kind, is_finished, is_dead, is_open, kind_of, strike_in, put_in, front_field, front_fields, kind_finished}
use Rattle.paper.proofs.base.Tests.{by_bool, cond_by, true_false, not_true, same_tests, neq_eqb, eq_eqb, eqb_true, eqb_symmetric, lt_leb, le_leb, lt_ltb, le_ltb}
use Rattle.paper.proofs.base.Lists.{cons_eq, map_append, any_append, NoDup, none, more, member_true}
use Rattle.paper_laws.proofs.sheets.Hidden.{HasSet}
use Rattle.paper_laws.proofs.equations.Moves.{front_fields_different}
use Rattle.base_codes.specs.Inner as Inner
use Rattle.base_codes.specs.Inner.{field_code, no_token, token_code, side_code, is_char, field_of, front}
use Rattle.base_codes.specs.Coded.{none as no_tokens}
use Rattle.search_children.specs.Children.{strike_codes, put_codes, dead_sides}
use Rattle.search_trim.specs.Trimming.{alike_in_front}

-- a token that a situation may have
abbrev pub Known : Token → Type 0
Known (chr c) = c < most_characters
Known (fld f) = f < set_fields

abbrev pub KnownSide : Side → Type 0
KnownSide [] = Unit {0}
KnownSide (t ∷ side) = Known t × KnownSide side

-- the tokens of a question that can be searched are known
has_set_known : (t : Token) → HasSet t → Known t
has_set_known (chr c) h = h
has_set_known (fld f) h = h

pub known_side : (side : Side) → ((t : Token) → Memᴰ t side → HasSet t) → KnownSide side
known_side [] h = tt
known_side (t ∷ side) h =
    (has_set_known t (h t (Memᴰ.head refl)), known_side side (λ u d. h u (Memᴰ.tail d)))

-- characters and fields have different codes
char_is_char : (c : ℕ) → c < most_characters → is_char c ≡ true
char_is_char c h = lt_ltb c field_code (omega arith)

field_not_char : (f : ℕ) → is_char (field_code + f) ≡ false
field_not_char f = le_ltb (field_code + f) field_code (omega arith)

char_below : (c : ℕ) → c < most_characters → leb field_code c ≡ false
char_below c h = lt_leb field_code c (omega arith)

field_from : (f : ℕ) → leb field_code (field_code + f) ≡ true
field_from f = le_leb field_code (field_code + f) (omega arith)

pub char_not_field : (c : ℕ) → c < most_characters → Inner.is_field_code c ≡ false
char_not_field c h = rw (char_below c h)

pub field_is_field : (f : ℕ) → f < set_fields → Inner.is_field_code (field_code + f) ≡ true
field_is_field f h = rw (field_from f, lt_ltb (field_code + f) no_token (omega arith))

pub field_of_code : (f : ℕ) → field_of (field_code + f) ≡ f
field_of_code f = omega arith

eqb_field : (f g : ℕ) → eqb (field_code + f) (field_code + g) ≡ eqb f g
eqb_field f g =
    same_tests (eqb (field_code + f) (field_code + g)) (eqb f g)
    (λ e. eq_eqb f g (let h = eqb_true (field_code + f) (field_code + g) e in omega arith))
    (λ e. eq_eqb (field_code + f) (field_code + g) (let h = eqb_true f g e in omega arith))

char_field : (c f : ℕ) → c < most_characters → eqb c (field_code + f) ≡ false
char_field c f h = neq_eqb c (field_code + f) (λ e. omega arith)

-- the test of tokens
token_coded : (x y : Token) → Known x → Known y → eqb (token_code x) (token_code y) ≡ same_token x y
token_coded (chr a) (chr b) h k = refl
token_coded (chr a) (fld g) h k = char_field a g h
token_coded (fld f) (chr b) h k = eqb_symmetric (field_code + f) b ∙ char_field b f k
token_coded (fld f) (fld g) h k = eqb_field f g

pub same_sides : (l m : Side) → KnownSide l → KnownSide m → same_by eqb (side_code l) (side_code m) ≡ same_by same_token l m
same_sides [] [] h k = refl
same_sides [] (y ∷ m) h k = refl
same_sides (x ∷ l) [] h k = refl
same_sides (x ∷ l) (y ∷ m) h k = ap₂ ◌&&◌ (token_coded x y h.0 k.0) (same_sides l m h.1 k.1)

-- is it the code of the field?
pub code_of_field : (f : ℕ) (x : Token) → Known x → eqb (token_code x) (field_code + f) ≡ is_field f x
code_of_field f (chr c) h = char_field c f h
code_of_field f (fld g) h = eqb_field g f ∙ eqb_symmetric g f

map_only {ℓ κ} : {A : Type ℓ} {B : Type κ} (f : A → B) (b : Bool) (x : A) → map f (only b x) ≡ only b (f x)
map_only f true x = refl
map_only f false x = refl

pub strike_coded : (f : ℕ) (side : Side) → KnownSide side → strike_codes (field_code + f) (side_code side) ≡ side_code (strike_in f side)
strike_coded f [] h = refl
strike_coded f (t ∷ side) h =
    let other = not (is_field f t) in
    rw (code_of_field f t h.0, map_append token_code (only other t) (strike_in f side), map_only token_code other t)
    (ap (λ (l : List ℕ). only other (token_code t) ++ l) (strike_coded f side h.1))

-- a code in front is the field's, where the field is in front; 255 is no field's
pub front_coded : (h : ℕ) (side : Side) → h < set_fields → KnownSide side
    → eqb (field_code + h) (front (side_code side)) ≡ member h (front_field side)
front_coded h [] b k = neq_eqb (field_code + h) no_token (λ e. omega arith)
front_coded h (chr a ∷ side) b k = eqb_symmetric (field_code + h) a ∙ char_field a h k.0
front_coded h (fld f ∷ side) b k = eqb_field h f ∙ sym (or-false (eqb h f))

-- what is left of r without the members of l has the same members, but those of l
kept_member : (h : ℕ) (l r : List ℕ) → member h l ≡ false → member h (keep (λ (g : ℕ). not (any (eqb g) l)) r) ≡ member h r
kept_member h l [] n = refl
kept_member h l (g ∷ r) n =
    by_bool (any (eqb g) l)
    (λ m.
    let d : eqb h g ≡ false = not_true (eqb h g) (λ e. true_false (rw (← (eqb_true h g e)) at m) n) in
    rw (m, d) (kept_member h l r n))
    (λ m. rw m (ap (λ (b : Bool). eqb h g || b) (kept_member h l r n)))

other_member : (h : ℕ) (l r : List ℕ) → (member h l || member h (keep (λ (g : ℕ). not (any (eqb g) l)) r)) ≡ (member h l || member h r)
other_member h l r = by_bool (member h l) (λ m. rw m) (λ m. rw m (kept_member h l r m))

pub front_member : (h : ℕ) (l r : Side) → h < set_fields → KnownSide l → KnownSide r
    → member h (front_fields l r) ≡ (eqb (field_code + h) (front (side_code l)) || eqb (field_code + h) (front (side_code r)))
front_member h l r b k m =
    any_append (eqb h) (front_field l) (keep (λ (g : ℕ). not (any (eqb g) (front_field l))) (front_field r))
    ∙ other_member h (front_field l) (front_field r)
    ∙ sym (ap₂ ◌||◌ (front_coded h l b k) (front_coded h r b m))

-- the tokens of some fields
abbrev is_of : List ℕ → Token → Bool
is_of fs (chr c) = false
is_of fs (fld h) = member h fs

-- c put before the tokens that pass a test
abbrev put_where : ℕ → (Token → Bool) → Side → Side
put_where c p [] = []
put_where c p (t ∷ side) = only (p t) (chr c) ++ (t ∷ put_where c p side)

put_codes_where : (c : ℕ) (l r side : Side) → KnownSide l → KnownSide r → KnownSide side
    → put_codes c (front (side_code l)) (front (side_code r)) (side_code side) ≡ side_code (put_where c (is_of (front_fields l r)) side)
put_codes_where c l r [] h k m = refl
put_codes_where c l r (chr a ∷ side) h k m = rw (char_below a m.0) (cons_eq refl (put_codes_where c l r side h k m.1))
put_codes_where c l r (fld g ∷ side) h k m =
    let fs = front_fields l r in
    rw (field_from g, ← front_member g l r m.0 h k)
    (rw (map_append token_code (only (member g fs) (chr c)) (fld g ∷ put_where c (is_of fs) side), map_only token_code (member g fs) (chr c))
    (ap (λ (x : List ℕ). only (member g fs) c ++ ((field_code + g) ∷ x)) (put_codes_where c l r side h k m.1)))

-- one field, then others: where the one is not among them
put_in_where : (c f : ℕ) (fs : List ℕ) (side : Side) → member f fs ≡ false
    → put_where c (is_of fs) (put_in c f side) ≡ put_where c (is_of (f ∷ fs)) side
put_in_where c f fs [] n = refl
put_in_where c f fs (chr a ∷ side) n = cons_eq refl (put_in_where c f fs side n)
put_in_where c f fs (fld g ∷ side) n =
    by_bool (eqb f g)
    (λ e.
    let m : member g fs ≡ false = rw (eqb_true f g e) at n in
    rw (e, eqb_symmetric g f ∙ e, m) (cons_eq refl (cons_eq refl (put_in_where c f fs side n))))
    (λ e.
    rw (e, eqb_symmetric g f ∙ e)
    (ap (λ (x : Side). only (member g fs) (chr c) ++ (fld g ∷ x)) (put_in_where c f fs side n)))

put_none_where : (c : ℕ) (side : Side) → put_where c (is_of []) side ≡ side
put_none_where c [] = refl
put_none_where c (chr a ∷ side) = cons_eq refl (put_none_where c side)
put_none_where c (fld g ∷ side) = cons_eq refl (put_none_where c side)

-- c put before the fields, one after the other
abbrev pub put_in_all : ℕ → List ℕ → Side → Side
put_in_all c [] side = side
put_in_all c (f ∷ fs) side = put_in_all c fs (put_in c f side)

put_all_where : (c : ℕ) (side : Side) {fs : List ℕ} → NoDup fs → put_where c (is_of fs) side ≡ put_in_all c fs side
put_all_where c side none = put_none_where c side
put_all_where c side (more {x = f} {l = fs} n d) =
    sym (put_in_where c f fs side (not_true (member f fs) (λ e. n (member_true f fs e)))) ∙ put_all_where c (put_in c f side) d

-- putting before the tokens in front, wherever they stand
pub put_coded : (c : ℕ) (l r side : Side) → KnownSide l → KnownSide r → KnownSide side
    → put_codes c (front (side_code l)) (front (side_code r)) (side_code side) ≡ side_code (put_in_all c (front_fields l r) side)
put_coded c l r side h k m =
    put_codes_where c l r side h k m ∙ ap side_code (put_all_where c side (front_fields_different l r))

-- Dropping as many codes as are alike in front is trimming.
pub record Trims (l r : Side) : Type 0 where
  pub left : drop (alike_in_front (side_code l) (side_code r)) (side_code l) ≡ side_code (trim l r).l
  pub right : drop (alike_in_front (side_code l) (side_code r)) (side_code r) ≡ side_code (trim l r).r

pub trim_coded : (l r : Side) → KnownSide l → KnownSide r → Trims l r
trim_coded [] r h k = record { left = refl; right = refl }
trim_coded (fld f ∷ l) [] h k = record { left = refl; right = refl }
trim_coded (fld f ∷ l) (y ∷ r) h k = record { left = rw (field_not_char f); right = rw (field_not_char f) }
trim_coded (chr a ∷ l) [] h k = record { left = refl; right = refl }
trim_coded (chr a ∷ l) (fld g ∷ r) h k =
    let n : is_char a && eqb a (field_code + g) ≡ false = rw (char_is_char a h.0, char_field a g h.0) in
    record { left = rw n; right = rw n }
trim_coded (chr a ∷ l) (chr b ∷ r) h k =
    let t = trim_coded l r h.1 k.1 in
    by_bool (eqb a b)
    (λ e. record { left = rw (char_is_char a h.0, e) t.left; right = rw (char_is_char a h.0, e) t.right })
    (λ e. record { left = rw (char_is_char a h.0, e); right = rw (char_is_char a h.0, e) })

-- dead: of trimmed sides
abbrev pub kind_dead : Kind → Bool
kind_dead is_finished = false
kind_dead is_dead = true
kind_dead is_open = false

pub dead_coded : (l r : Side) → KnownSide l → KnownSide r
    → dead_sides (side_code (trim l r).l) (side_code (trim l r).r) ≡ kind_dead (kind_of (trim l r).l (trim l r).r)
dead_coded [] [] h k = refl
dead_coded [] (chr b ∷ r) h k = rw (char_is_char b k.0)
dead_coded [] (fld g ∷ r) h k = rw (field_not_char g)
dead_coded (fld f ∷ l) r h k = rw (field_not_char f)
dead_coded (chr a ∷ l) [] h k = rw (char_is_char a h.0)
dead_coded (chr a ∷ l) (fld g ∷ r) h k = rw (char_is_char a h.0, field_not_char g)
dead_coded (chr a ∷ l) (chr b ∷ r) h k =
    by_bool (eqb a b)
    (λ e. rw e (dead_coded l r h.1 k.1))
    (λ e. rw (e, e, char_is_char a h.0, char_is_char b k.0))

-- finished
pub finished_sides : {P : Type 0} (A : Acceptor P) (l r : Side)
    → (no_tokens (side_code l) && no_tokens (side_code r)) ≡ kind_finished A (kind_of l r)
finished_sides A [] [] = refl
finished_sides A [] (chr b ∷ r) = refl
finished_sides A [] (fld g ∷ r) = refl
finished_sides A (fld f ∷ l) r = refl
finished_sides A (chr a ∷ l) [] = refl
finished_sides A (chr a ∷ l) (fld g ∷ r) = refl
finished_sides A (chr a ∷ l) (chr b ∷ r) = by_bool (eqb a b) (λ e. rw e) (λ e. rw e)

-- known tokens stay so
known_only : (b : Bool) (t : Token) (side : Side) → Known t → KnownSide side → KnownSide (only b t ++ side)
known_only true t side h k = (h, k)
known_only false t side h k = k

pub known_strike : (f : ℕ) (side : Side) → KnownSide side → KnownSide (strike_in f side)
known_strike f [] h = tt
known_strike f (t ∷ side) h = known_only (not (is_field f t)) t (strike_in f side) h.0 (known_strike f side h.1)

pub known_put : (c f : ℕ) (side : Side) → c < most_characters → KnownSide side → KnownSide (put_in c f side)
known_put c f [] b h = tt
known_put c f (t ∷ side) b h = known_only (is_field f t) (chr c) (t ∷ put_in c f side) b (h.0, known_put c f side b h.1)

pub known_put_all : (c : ℕ) (fs : List ℕ) (side : Side) → c < most_characters → KnownSide side → KnownSide (put_in_all c fs side)
known_put_all c [] side b h = h
known_put_all c (f ∷ fs) side b h = known_put_all c fs (put_in c f side) b (known_put c f side b h)

pub known_trim : (l r : Side) → KnownSide l → KnownSide r → KnownSide (trim l r).l × KnownSide (trim l r).r
known_trim [] r h k = (h, k)
known_trim (fld f ∷ l) r h k = (h, k)
known_trim (chr a ∷ l) [] h k = (h, k)
known_trim (chr a ∷ l) (fld g ∷ r) h k = (h, k)
known_trim (chr a ∷ l) (chr b ∷ r) h k =
    cond_by (λ (t : Sides). KnownSide t.l × KnownSide t.r) (eqb a b) (λ e. known_trim l r h.1 k.1) (λ e. (h, k))
