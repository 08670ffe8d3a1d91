-- The expression of what a field may hold has the same texts, in either edition.
--   fits_matches : Fits p w → Matches (tree e p) (map (point e) w)
--   matches_fits : leaves_take characters p → Matches (tree e p) v → v is the code points of a text that fits p
--   same_texts   : GoodHeld characters h → SameTexts e (tree_of e h) h
-- Follows by induction on the pattern, and on how often a part comes; a range of the first edition by the members of the list of its characters.
use Prim.Native.Nat.{ℕ, zero, suc, ◌+◌, ◌-◌, ◌≤◌, ◌<◌}
use native.Mathlib.Omega.{arith}
use mathlib.Core.Path.{◌≡◌, refl, sym, ap, ap₂, ◌∙◌}
use mathlib.Core.Logic.{◌⊎◌, inl, inr, ⊎_elim, ⊎_map}
use mathlib.Core.Bool.{true, false}
use mathlib.Core.List.{List, [], ◌∷◌, ◌++◌, map, Memᴰ}
use lib.Dec.{leb, eqb}
use lib.ListN.{length}
use Rattle.paper.specs.Lists.{from}
use Rattle.paper.specs.Pattern.{char, range, takes, Pattern, leaf, empty, then, either, many, Held, some_text, pattern}
use Rattle.paper.specs.Pattern.{Fits, one, nothing, both, first, second, none, more}
use Rattle.paper.specs.Taken.{LeafTakes, leaves_take}
use Rattle.paper.specs.Alphabet.{Edition, edition_1, edition_2, alphabet_of}
use Rattle.paper.specs.Equation.{Over}
use Rattle.paper.proofs.base.Tests.{by_bool, and_left, and_right, both_true, leb_true, le_leb, eqb_true, eqb_false, eqb_same}
use Rattle.paper.proofs.base.Lists.{map_append, mem_from, from_mem}
use Rattle.paper_laws.proofs.places.NotStuck.{fits_over}
use Rattle.paper_laws.proofs.places.Judged.{range_takes}
use Rattle.paper_laws.proofs.sheets.Asked.{GoodHeld}
use Rattle.paper_laws.proofs.sheets.Editions.{space_of}
use Rattle.paper_script.specs.Language.{Expression, to_re, span, union, star, Matches, itself, within, one_then_other, of_first, of_second, no_time, once_more}
use Rattle.paper_script.specs.Script.{point, one_character_of_all, some_characters}
use Rattle.paper_script.specs.Means.{SameTexts}
use Rattle.paper_script.proofs.Tree.{alone, unions, range_tree, tree, tree_of}

one_of_two : {a b : Expression} {w : List ℕ} → Matches (union a b) w → Matches a w ⊎ Matches b w
one_of_two (of_first m) = inl m
one_of_two (of_second m) = inr m

of_text : {t w : List ℕ} → Matches (to_re t) w → w ≡ t
of_text itself = refl

-- A leaf.
range_takes_it : (lo hi c : ℕ) → lo ≤ c → c ≤ hi → takes (range lo hi) c ≡ true
range_takes_it lo hi c h k = both_true (le_leb lo c h) (le_leb c hi k)

-- where something is taken, lo is not above hi
pub range_rises : {n : ℕ} (lo hi : ℕ) → LeafTakes n (range lo hi) → lo ≤ hi
range_rises lo hi h =
    let low = leb_true lo h.some (and_left (leb lo h.some) (leb h.some hi) h.taken) in
    let high = leb_true h.some hi (and_right (leb lo h.some) (leb h.some hi) h.taken) in
    omega arith

module _ (e : Edition) where
  abbrev characters : ℕ
  characters = (alphabet_of e).characters

  -- A union of characters has the texts of what it began with, and each of its characters.
  unions_first : (x : Expression) (l : List ℕ) {w : List ℕ} → Matches x w → Matches (unions e x l) w
  unions_first x [] m = m
  unions_first x (c ∷ l) m = unions_first (union x (alone e c)) l (of_first m)

  unions_member : (x : Expression) (l : List ℕ) {c : ℕ} → Memᴰ c l → Matches (unions e x l) (point e c ∷ [])
  unions_member x [] d = elim d [ ]
  unions_member x (a ∷ l) {c} (Memᴰ.head h) = rw h (unions_first (union x (alone e a)) l (of_second itself))
  unions_member x (a ∷ l) (Memᴰ.tail d) = unions_member (union x (alone e a)) l d

  -- one of the characters, and no other text
  abbrev OneOf : List ℕ → List ℕ → Type 0
  OneOf l w = (c : ℕ) × Memᴰ c l × (w ≡ point e c ∷ [])

  of_unions : (x : Expression) (l : List ℕ) {w : List ℕ} → Matches (unions e x l) w → Matches x w ⊎ OneOf l w
  of_unions x [] m = inl m
  of_unions x (a ∷ l) {w} m =
      ⊎_elim
      (λ (n : Matches (union x (alone e a)) w). ⊎_map (λ i. i) (λ (i : Matches (alone e a) w). (a, Memᴰ.head refl, of_text i)) (one_of_two n))
      (λ (h : OneOf l w). inr (h.0, Memᴰ.tail h.1, h.2))
      (of_unions (union x (alone e a)) l m)

  -- the text of one character that fits
  abbrev Fitting : Pattern → List ℕ → Type 0
  Fitting p v = (w : List ℕ) × (v ≡ map (point e) w) × Fits p w

-- A range.
union_matches : (lo n c : ℕ) → lo ≤ c → c < suc lo + n → Matches (unions edition_1 (alone edition_1 lo) (from (suc lo) n)) (point edition_1 c ∷ [])
union_matches lo n c low high =
    by_bool (eqb c lo)
    (λ e. rw (eqb_true c lo e) (unions_first edition_1 (alone edition_1 lo) (from (suc lo) n) itself))
    (λ (e : eqb c lo ≡ false).
    let other : c ≡ lo → ⊥ = eqb_false c lo e in
    unions_member edition_1 (alone edition_1 lo) (from (suc lo) n) {c = c} (from_mem (suc lo) n (omega arith) (omega arith)))

range_matches : (e : Edition) (lo hi n c : ℕ) → hi - lo ≡ n → lo ≤ c → c ≤ hi → Matches (range_tree e lo hi n) (point e c ∷ [])
range_matches e lo hi zero c i low high = let same : c ≡ lo = omega arith in rw same itself
range_matches edition_1 lo hi (suc n) c i low high = union_matches lo (suc n) c low (omega arith)
range_matches edition_2 lo hi (suc n) c i low high = within low high

one_fits : (e : Edition) (lo hi c : ℕ) {v : List ℕ} → lo ≤ c → c ≤ hi → v ≡ point e c ∷ [] → Fitting e (leaf (range lo hi)) v
one_fits e lo hi c h k i = (c ∷ [], i, one (range_takes_it lo hi c h k))

span_fits : (lo hi : ℕ) {v : List ℕ} → Matches (span (lo ∷ []) (hi ∷ [])) v → Fitting edition_2 (leaf (range lo hi)) v
span_fits lo hi (within {c = c} h k) = one_fits edition_2 lo hi c h k refl

range_fits : (e : Edition) (lo hi n : ℕ) {v : List ℕ} → hi - lo ≡ n → lo ≤ hi → Matches (range_tree e lo hi n) v → Fitting e (leaf (range lo hi)) v
range_fits e lo hi zero i h m = one_fits e lo hi lo (omega arith) h (of_text m)
range_fits edition_1 lo hi (suc n) {v} i h m =
    ⊎_elim
    (λ (k : Matches (alone edition_1 lo) v). one_fits edition_1 lo hi lo (omega arith) h (of_text k))
    (λ (k : OneOf edition_1 (from (suc lo) (suc n)) v).
    let its = mem_from (suc lo) (suc n) k.1 in
    one_fits edition_1 lo hi k.0 (omega arith) (omega arith) k.2)
    (of_unions edition_1 (alone edition_1 lo) (from (suc lo) (suc n)) m)
range_fits edition_2 lo hi (suc n) i h m = span_fits lo hi m

module _ (e : Edition) where
  -- Every text that fits.
  joined : (u v w : List ℕ) → w ≡ u ++ v → map (point e) w ≡ map (point e) u ++ map (point e) v
  joined u v w i = ap (map (point e)) i ∙ map_append (point e) u v

  pub fits_matches : {p : Pattern} {w : List ℕ} → Fits p w → Matches (tree e p) (map (point e) w)
  fits_matches (one {l = char a} {c = c} t) = rw (eqb_true a c t) itself
  fits_matches (one {l = range lo hi} {c = c} t) =
      range_matches e lo hi (hi - lo) c refl (leb_true lo c (and_left (leb lo c) (leb c hi) t)) (leb_true c hi (and_right (leb lo c) (leb c hi) t))
  fits_matches nothing = itself
  fits_matches (both {u = u} {v = v} {w = w} i f g) = one_then_other (joined u v w i) (fits_matches f) (fits_matches g)
  fits_matches (first f) = of_first (fits_matches f)
  fits_matches (second f) = of_second (fits_matches f)
  fits_matches none = no_time
  fits_matches (more {u = u} {v = v} {w = w} i f g) = once_more (joined u v w i) (fits_matches f) (fits_matches g)

  -- No other text.
  behind : {p q r : Pattern} {u v w : List ℕ} → w ≡ u ++ v → ((a b : List ℕ) → Fits p a → Fits q b → Fits r (a ++ b))
      → Fitting e p u → Fitting e q v → Fitting e r w
  behind i put (a, h, f) (b, k, g) = (a ++ b, i ∙ ap₂ ◌++◌ h k ∙ sym (map_append (point e) a b), put a b f g)

  star_fits : (a : Pattern) (x : Expression) → ((v : List ℕ) → Matches x v → Fitting e a v) → {v : List ℕ} → Matches (star x) v
      → Fitting e (many a) v
  star_fits a x h no_time = ([], refl, none)
  star_fits a x h (once_more {u = u} i m n) = behind i (λ u v. more refl) (h u m) (star_fits a x h n)

  pub matches_fits : (p : Pattern) → leaves_take (characters e) p → {v : List ℕ} → Matches (tree e p) v → Fitting e p v
  matches_fits (leaf (char c)) k m = (c ∷ [], of_text m, one (eqb_same c))
  matches_fits (leaf (range lo hi)) k m = range_fits e lo hi (hi - lo) refl (range_rises lo hi k) m
  matches_fits empty k itself = ([], refl, nothing)
  matches_fits (then a b) k (one_then_other i m n) = behind i (λ u v. both refl) (matches_fits a k.0 m) (matches_fits b k.1 n)
  matches_fits (either a b) k (of_first m) = let (w, i, f) = matches_fits a k.0 m in (w, i, first f)
  matches_fits (either a b) k (of_second m) = let (w, i, f) = matches_fits b k.1 m in (w, i, second f)
  matches_fits (many a) k m = star_fits a (tree e a) (λ v. matches_fits a k) m

  -- A pattern, and any text over the characters.
  fitting_over : (p : Pattern) → leaves_take (characters e) p → (v : List ℕ) → Matches (tree e p) v
      → (w : List ℕ) × (v ≡ map (point e) w) × Over (characters e) w × Fits p w
  fitting_over p k v m = let (w, i, f) = matches_fits p k m in (w, i, fits_over (characters e) p k f, f)

  any_fits : (w : List ℕ) → Over (characters e) w → Fits (many (one_character_of_all e)) w
  any_fits [] h = none
  any_fits (c ∷ w) h =
      let low = h c (Memᴰ.head refl) in
      let taken = range_takes_it 0 (characters e - 1) c (omega arith) (omega arith) in
      more {u = c ∷ []} {v = w} refl (one taken) (any_fits w (λ a d. h a (Memᴰ.tail d)))

  -- one character or more
  some_fits : (w : List ℕ) → Over (characters e) w → 0 < length w → Fits (some_characters e) w
  some_fits [] h k = absurd (omega arith)
  some_fits (c ∷ w) h k =
      let below = h c (Memᴰ.head refl) in
      let taken = range_takes_it 0 (characters e - 1) c (omega arith) (omega arith) in
      both {u = c ∷ []} {v = w} refl (one taken) (any_fits w (λ a d. h a (Memᴰ.tail d)))

  fits_some : {w : List ℕ} → Fits (some_characters e) w → 0 < length w
  fits_some (both i (one t) m) = omega (arith, ap length i)

  -- an open field's leaf takes every character
  pub all_taken : LeafTakes (characters e) (range 0 (characters e - 1))
  all_taken = range_takes (characters e) 0 (characters e - 1) (omega arith) (omega (arith, space_of e))

  pub same_texts : (h : Held) → GoodHeld (characters e) h → SameTexts e (tree_of e h) h
  same_texts some_text k =
      record {
        every = λ w over some. fits_matches (some_fits w over some);
        no_other = λ v m. let (w, i, over, f) = fitting_over (some_characters e) (all_taken, all_taken) v m in (w, i, over, fits_some f);
      }
  same_texts (pattern p) k = record { every = λ w _ f. fits_matches f; no_other = fitting_over p k.0 }
