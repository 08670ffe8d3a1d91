-- The hidden fields (request K3): the question with its hidden fields, and the sheet's own.
--   own_solves        : texts that solve the word equation with the hidden fields solve the sheet's question
--   hidden_solves     : texts that solve the sheet's question solve the word equation, with some spaces for the hidden fields
--   hidden_searchable : the code can search it: its tokens are characters and fields that have place sets, its patterns are good
--   hidden_known      : its fields have place sets
--   hidden_plain      : it is plain where the sheet's question is
--   hidden_short      : its sides have at most one token more
--   standing_hidden   : the fields with an answer record are those that stand in the sheet's sides
-- All of good questions. Follows from the laws of trailing spaces, since a hidden field may hold any number of spaces and nothing else, and its
-- number is none that a sheet may name.
use Prim.Native.Nat.{ℕ, zero, suc, ◌+◌, ◌≤◌, ◌<◌}
use native.Mathlib.Omega.{arith}
use mathlib.Core.Path.{◌≡◌, refl, sym, ap, ap₂, ◌∙◌, subst}
use mathlib.Core.Logic.{⊎_elim}
use mathlib.Core.Bool.{Bool, true, false, cond, not, ◌||◌, or-false}
use mathlib.Core.List.Memᴰ
use mathlib.Core.List.{List, [], ◌∷◌, ◌++◌, map, append_assoc, Memᴰ}
use lib.Dec.{eqb}
use lib.ListN.{length, get_or, replicate, length-append, length-map, get_or-append}
use Rattle.paper.specs.Lists.{upto}
use Rattle.paper.specs.Numbers.{most_characters, fields, hidden_left, hidden_right, set_fields, sheet_side}
use Rattle.paper.specs.Pattern.{char, leaf, many, Held, some_text, Fits, one, none, more, Holds}
use Rattle.paper.specs.Equation.{Token, chr, fld, Side, is_field, stands_in, Texts, label, Over}
use Rattle.paper.specs.Plain.{each_once, plain}
use Rattle.paper.specs.Question.{Question, held_by, Solution, any_spaces, hidden, Equated}
use Rattle.paper.specs.Outcome.{standing}
use Rattle.paper.proofs.base.Tests.{true_false, not_true, or_is_true, or_left_false, or_right_false, left_true, right_true, and_left, and_right, both_true, eqb_true, eqb_same, neq_eqb, eq_eqb}
use Rattle.paper.proofs.base.Lists.{cons_eq, any_append, length_from, mem_upto, mem_cons_by}
use Rattle.paper.proofs.base.Listed.{keep_same, get_or_map_upto}
use Rattle.paper_laws.proofs.equations.Labels.{label_same, label_with}
use Rattle.paper_laws.proofs.equations.TrailingSpaces.{padded_same, same_padded}
use Rattle.paper_laws.proofs.sheets.Asked.{InRange, GoodSide, GoodHeld, GoodQuestion, fields_known, good_space, good_most}

-- The texts that a hidden field may hold: any number of spaces.
fits_spaces : (x : ℕ) {w : List ℕ} → Fits (many (leaf (char x))) w → (n : ℕ) × (w ≡ replicate n x)
fits_spaces x none = (0, refl)
fits_spaces x (more {v = v} e (one {c = c} t) h) =
    let (n, k) = fits_spaces x h in
    (suc n, e ∙ cons_eq (sym (eqb_true x c t)) k)

pub spaces_fit : (x n : ℕ) → Fits (many (leaf (char x))) (replicate n x)
spaces_fit x zero = none
spaces_fit x (suc n) = more {u = x ∷ []} {v = replicate n x} refl (one (eqb_same x)) (spaces_fit x n)

pub spaces_over : (x n k : ℕ) → x < k → Over k (replicate n x)
spaces_over x zero k h c d = absurd (Memᴰ.not-nil d)
spaces_over x (suc n) k h c (Memᴰ.head e) = omega (arith, e)
spaces_over x (suc n) k h c (Memᴰ.tail d) = spaces_over x n k h c d

-- A side with a field behind it.
stands_with : (f g : ℕ) (side : Side) → stands_in f (side ++ (fld g ∷ [])) ≡ stands_in f side || eqb f g
stands_with f g side = any_append (is_field f) side (fld g ∷ []) ∙ ap (λ (b : Bool). stands_in f side || b) (or-false (eqb f g))

-- A question that the code can search, whose tables have room for 128 characters: its tokens are characters and fields that have place sets, and its
-- patterns are good.
abbrev pub HasSet : Token → Type 0
HasSet (chr c) = c < most_characters
HasSet (fld f) = f < set_fields

pub record Searchable (q : Question) : Type 0 where
  pub most : q.alphabet.characters ≤ most_characters
  pub left : (t : Token) → Memᴰ t q.left → HasSet t
  pub right : (t : Token) → Memᴰ t q.right → HasSet t
  pub held : (f : ℕ) → GoodHeld q.alphabet.characters (held_by q f)

pub in_range_has_set : (n : ℕ) → n ≤ most_characters → (t : Token) → InRange n t → HasSet t
in_range_has_set n m (chr c) h = omega arith
in_range_has_set n m (fld f) h = omega arith

pub has_sets_with : (n : ℕ) → n ≤ most_characters → (side : Side) (f : ℕ) → GoodSide n side → f < set_fields → (t : Token) → Memᴰ t (side ++ (fld f ∷ [])) → HasSet t
has_sets_with n m side f g h t d =
    ⊎_elim (λ i. in_range_has_set n m t (g.tokens t i))
    (mem_cons_by HasSet h (λ u i. absurd (Memᴰ.not-nil i)) t)
    (Memᴰ.append_cases side d)

-- a hidden field's leaf takes the space
good_spaces : (x n : ℕ) → x < n → GoodHeld n (any_spaces x)
good_spaces x n h =
    (record { some = x; taken = eqb_same x; character = λ c t. let e = eqb_true x c t in omega arith }, omega arith)

-- no field of a sheet is hidden
not_hidden : (f g : ℕ) → f < fields → fields ≤ g → eqb f g ≡ false
not_hidden f g h k = neq_eqb f g (λ (e : f ≡ g). omega arith)

-- A field that stands in neither side may be put behind them, and they stay plain.
once_behind : (a : ℕ) (r : Side) → each_once r ≡ true → stands_in a r ≡ false → each_once (r ++ (fld a ∷ [])) ≡ true
once_behind a [] e n = refl
once_behind a (chr c ∷ r) e n = once_behind a r e n
once_behind a (fld f ∷ r) e n =
    let apart : eqb f a ≡ false = neq_eqb f a (λ (h : f ≡ a). true_false (eq_eqb a f (sym h)) (or_left_false (eqb a f) (stands_in a r) n)) in
    both_true {a = not (stands_in f (r ++ (fld a ∷ [])))}
    (rw (stands_with f a r, apart, or-false (stands_in f r)) (and_left (not (stands_in f r)) (each_once r) e))
    (once_behind a r (and_right (not (stands_in f r)) (each_once r) e) (or_right_false (eqb a f) (stands_in a r) n))

once_between : (a : ℕ) (l r : Side) → each_once (l ++ r) ≡ true → stands_in a (l ++ r) ≡ false → each_once ((l ++ (fld a ∷ [])) ++ r) ≡ true
once_between a [] r e n = both_true {a = not (stands_in a r)} (rw n) e
once_between a (chr c ∷ l) r e n = once_between a l r e n
once_between a (fld f ∷ l) r e n =
    let apart : eqb f a ≡ false = neq_eqb f a (λ (h : f ≡ a). true_false (eq_eqb a f (sym h)) (or_left_false (eqb a f) (stands_in a (l ++ r)) n)) in
    let same : stands_in f ((l ++ (fld a ∷ [])) ++ r) ≡ stands_in f (l ++ r) =
    any_append (is_field f) (l ++ (fld a ∷ [])) r
    ∙ rw (stands_with f a l, apart, or-false (stands_in f l)) (sym (any_append (is_field f) l r)) in
    both_true {a = not (stands_in f ((l ++ (fld a ∷ [])) ++ r))}
    (rw same (and_left (not (stands_in f (l ++ r))) (each_once (l ++ r)) e))
    (once_between a l r (and_right (not (stands_in f (l ++ r))) (each_once (l ++ r)) e) (or_right_false (eqb a f) (stands_in a (l ++ r)) n))

module _ (q : Question) where
  abbrev space : ℕ
  space = q.alphabet.space

  abbrev characters : ℕ
  characters = q.alphabet.characters

  length_own : length (map (held_by q) (upto fields)) ≡ fields
  length_own = length-map (upto fields) (held_by q) ∙ length_from 0 fields

  -- what a field may hold
  pub held_own : (f : ℕ) → f < fields → held_by (hidden q) f ≡ held_by q f
  held_own f h =
      get_or-append (map (held_by q) (upto fields)) (any_spaces space ∷ any_spaces space ∷ []) some_text f (rw length_own h)
      ∙ get_or_map_upto (held_by q) some_text fields f h

  stands_hidden : (f : ℕ)
      → stands_in f ((hidden q).left ++ (hidden q).right)
      ≡ ((stands_in f q.left || eqb f hidden_left) || (stands_in f q.right || eqb f hidden_right))
  stands_hidden f =
      any_append (is_field f) (hidden q).left (hidden q).right
      ∙ ap₂ ◌||◌ (stands_with f hidden_left q.left) (stands_with f hidden_right q.right)

  stands_alike : (f : ℕ) → f < fields → stands_in f ((hidden q).left ++ (hidden q).right) ≡ stands_in f (q.left ++ q.right)
  stands_alike f h =
      stands_hidden f
      ∙ rw (not_hidden f hidden_left h (omega arith), not_hidden f hidden_right h (omega arith), or-false (stands_in f q.left), or-false (stands_in f q.right))
      (sym (any_append (is_field f) q.left q.right))

  left_stands : stands_in hidden_left ((hidden q).left ++ (hidden q).right) ≡ true
  left_stands =
      stands_hidden hidden_left
      ∙ left_true (stands_in hidden_left q.left || true) (stands_in hidden_left q.right || false) (right_true (stands_in hidden_left q.left) true refl)

  right_stands : stands_in hidden_right ((hidden q).left ++ (hidden q).right) ≡ true
  right_stands =
      stands_hidden hidden_right
      ∙ right_true (stands_in hidden_right q.left || false) (stands_in hidden_right q.right || true) (right_true (stands_in hidden_right q.right) true refl)

  -- "They get no answer record."
  pub standing_hidden : standing (hidden q) ≡ standing q
  unfolding standing
  standing_hidden =
      keep_same (λ (f : ℕ). stands_in f ((hidden q).left ++ (hidden q).right)) (λ (f : ℕ). stands_in f (q.left ++ q.right)) (upto fields)
      (λ f d. stands_alike f (mem_upto fields d))

  pub hidden_searchable : GoodQuestion q → Searchable (hidden q)
  hidden_searchable g =
      record {
        most = good_most g;
        left = has_sets_with characters (good_most g) q.left hidden_left g.left (omega arith);
        right = has_sets_with characters (good_most g) q.right hidden_right g.right (omega arith);
        held =
            both_good (map (held_by q) (upto fields)) (any_spaces space ∷ any_spaces space ∷ [])
            (each_good (held_by q) g.held.good (upto fields)) last_two;
      }
    where
      both_good : (k l : List Held) → ((f : ℕ) → GoodHeld characters (get_or k f some_text)) → ((f : ℕ) → GoodHeld characters (get_or l f some_text))
          → (f : ℕ) → GoodHeld characters (get_or (k ++ l) f some_text)
      both_good [] l h i f = i f
      both_good (x ∷ k) l h i zero = h zero
      both_good (x ∷ k) l h i (suc f) = both_good k l (λ j. h (suc j)) i f

      each_good : (held : ℕ → Held) → ((f : ℕ) → GoodHeld characters (held f)) → (l : List ℕ) (f : ℕ) → GoodHeld characters (get_or (map held l) f some_text)
      each_good held h [] f = tt
      each_good held h (x ∷ l) zero = h x
      each_good held h (x ∷ l) (suc f) = each_good held h l f

      last_two : (f : ℕ) → GoodHeld characters (get_or (any_spaces space ∷ any_spaces space ∷ []) f some_text)
      last_two zero = good_spaces space characters (good_space g)
      last_two (suc zero) = good_spaces space characters (good_space g)
      last_two (suc (suc f)) = tt

  module _ (g : GoodQuestion q) where
    -- A field of the searched question is one of the sheet's, or a hidden one.
    pub by_standing : (P : ℕ → Type 0)
        → ((f : ℕ) → stands_in f (q.left ++ q.right) ≡ true → f < fields → P f) → P hidden_left → P hidden_right
        → (f : ℕ) → stands_in f ((hidden q).left ++ (hidden q).right) ≡ true → P f
    by_standing P own l r f e =
        ⊎_elim
        (λ (i : stands_in f q.left || eqb f hidden_left ≡ true).
        ⊎_elim (λ j. its (left_true (stands_in f q.left) (stands_in f q.right) j)) (λ j. subst P (sym (eqb_true f hidden_left j)) l)
        (or_is_true (stands_in f q.left) (eqb f hidden_left) i))
        (λ (i : stands_in f q.right || eqb f hidden_right ≡ true).
        ⊎_elim (λ j. its (right_true (stands_in f q.left) (stands_in f q.right) j)) (λ j. subst P (sym (eqb_true f hidden_right j)) r)
        (or_is_true (stands_in f q.right) (eqb f hidden_right) i))
        (or_is_true (stands_in f q.left || eqb f hidden_left) (stands_in f q.right || eqb f hidden_right) (sym (stands_hidden f) ∙ e))
      where
        its : stands_in f q.left || stands_in f q.right ≡ true → P f
        its j =
            let s : stands_in f (q.left ++ q.right) ≡ true = any_append (is_field f) q.left q.right ∙ j in
            own f s (fields_known q g f s)

    pub hidden_known : (f : ℕ) → stands_in f ((hidden q).left ++ (hidden q).right) ≡ true → f < set_fields
    hidden_known = by_standing (λ (f : ℕ). f < set_fields) (λ f _ h. omega arith) (omega arith) (omega arith)

    own_stands : (f : ℕ) → stands_in f (q.left ++ q.right) ≡ true → stands_in f ((hidden q).left ++ (hidden q).right) ≡ true
    own_stands f e = stands_alike f (fields_known q g f e) ∙ e

    -- Texts that solve the word equation solve the sheet's question.
    pub own_solves : (texts : Texts) → Equated (hidden q) texts → Solution q texts
    own_solves texts x =
        let (n, a) = fits_spaces space (x.holds hidden_left left_stands) in
        let (k, b) = fits_spaces space (x.holds hidden_right right_stands) in
        record {
          same_label =
              padded_same space (label texts q.left) (label texts q.right) n k
              (ap (λ (w : List ℕ). label texts q.left ++ w) (sym a) ∙ sym (label_with texts q.left hidden_left)
              ∙ x.same_label
              ∙ label_with texts q.right hidden_right ∙ ap (λ (w : List ℕ). label texts q.right ++ w) b);
          over = λ f e. x.over f (own_stands f e);
          holds = λ f e. subst (λ (h : Held). Holds h (texts f)) (held_own f (fields_known q g f e)) (x.holds f (own_stands f e));
        }

    -- Texts that solve the sheet's question solve the word equation, with some spaces for the hidden fields.
    module _ (texts : Texts) (x : Solution q texts) where
      abbrev spaces : (n : ℕ) × (k : ℕ) × (label texts q.left ++ replicate n space ≡ label texts q.right ++ replicate k space)
      spaces = same_padded space (label texts q.left) (label texts q.right) x.same_label

      abbrev pub with_spaces : Texts
      with_spaces f =
          cond (eqb f hidden_left) (replicate spaces.0 space) (cond (eqb f hidden_right) (replicate spaces.1 space) (texts f))

      own_text : (f : ℕ) → f < fields → with_spaces f ≡ texts f
      own_text f h = rw (not_hidden f hidden_left h (omega arith), not_hidden f hidden_right h (omega arith))

      own_label : (side : Side) → ((f : ℕ) → stands_in f side ≡ true → f < fields) → label with_spaces side ≡ label texts side
      own_label side h = label_same with_spaces texts side (λ f e. own_text f (h f e))

      left_known : (f : ℕ) → stands_in f q.left ≡ true → f < fields
      left_known f e =
          fields_known q g f (any_append (is_field f) q.left q.right ∙ left_true (stands_in f q.left) (stands_in f q.right) e)

      right_known : (f : ℕ) → stands_in f q.right ≡ true → f < fields
      right_known f e =
          fields_known q g f (any_append (is_field f) q.left q.right ∙ right_true (stands_in f q.left) (stands_in f q.right) e)

      pub hidden_solves : Equated (hidden q) with_spaces
      hidden_solves =
          record {
            same_label =
                label_with with_spaces q.left hidden_left
                ∙ ap (λ (w : List ℕ). w ++ replicate spaces.0 space) (own_label q.left left_known)
                ∙ spaces.2
                ∙ ap (λ (w : List ℕ). w ++ replicate spaces.1 space) (sym (own_label q.right right_known))
                ∙ sym (label_with with_spaces q.right hidden_right);
            over =
                by_standing (λ (f : ℕ). Over q.alphabet.characters (with_spaces f))
                (λ f e h. rw (own_text f h) (x.over f e))
                (spaces_over space spaces.0 q.alphabet.characters (good_space g))
                (spaces_over space spaces.1 q.alphabet.characters (good_space g));
            holds =
                by_standing (λ (f : ℕ). Holds (held_by (hidden q) f) (with_spaces f))
                (λ f e h. rw (own_text f h, held_own f h) (x.holds f e))
                (spaces_fit space spaces.0)
                (spaces_fit space spaces.1);
          }

    -- "The 24-token limit on a sheet's side doesn't count it."
    pub hidden_short : (length (hidden q).left ≤ suc sheet_side) × (length (hidden q).right ≤ suc sheet_side)
    hidden_short = (
      omega (arith, length-append q.left (fld hidden_left ∷ []), g.left.short),
      omega (arith, length-append q.right (fld hidden_right ∷ []), g.right.short),
    )

    -- "If no field of a good sheet stands more than once": then none of the searched question does.
    pub hidden_plain : plain q.left q.right ≡ true → plain (hidden q).left (hidden q).right ≡ true
    hidden_plain e =
        once_between hidden_left q.left (hidden q).right
        (rw (sym (append_assoc q.left q.right (fld hidden_right ∷ []))) (once_behind hidden_right (q.left ++ q.right) e (own_only hidden_right (omega arith))))
        (rw (sym (append_assoc q.left q.right (fld hidden_right ∷ [])), stands_with hidden_left hidden_right (q.left ++ q.right), own_only hidden_left (omega arith)))
      where
        own_only : (f : ℕ) → fields ≤ f → stands_in f (q.left ++ q.right) ≡ false
        own_only f h =
            not_true (stands_in f (q.left ++ q.right)) (λ (i : stands_in f (q.left ++ q.right) ≡ true). omega (arith, fields_known q g f i))
