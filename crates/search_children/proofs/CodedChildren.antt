-- The children of a situation by inner codes are the codes of the paper's children, in the same order:
--   children_agree : children_coded (tables_over among q) (situation_code s) ≡ map code_child_of (children (acceptor_over among q) longest_side s),
--     of a codable s and a question with at most 128 characters, whichever characters pass the test `among`
--   left_coded, right_coded, put_of_coded : the same of each move by itself
--   children_every, put_every : children, and a put, by the question's own tables are those by its tables over every character
-- First what the children of the paper are without kinds; then the three groups: the left strike, the right strike, the puts.
-- Follows from the laws of sides by their codes and of sets as masks.
use Prim.Native.Nat.{ℕ, ◌+◌, ◌≤◌, ◌<◌}
use native.Mathlib.Omega.{arith}
use lib.Bits.{bit_and}
use mathlib.Core.Path.{◌≡◌, refl, sym, ap, ap₂, ◌∙◌}
use mathlib.Core.Bool.{Bool, true, false, cond, not, ◌&&◌, and-false, and-true}
use mathlib.Core.List.{List, [], ◌∷◌, ◌++◌, map, append-nil}
use lib.Dec.{eqb}
use lib.ListN.{get_or, set, length-map}
use lib.Seq.{set-set, get_or-set_other}
use Rattle.paper.specs.Lists.{upto, any, only, keep, each}
use Rattle.paper.specs.Numbers.{most_characters, set_fields, longest_side}
use Rattle.paper.specs.Places.{PlaceSet}
use Rattle.paper.specs.Search.{Child}
use Rattle.paper.specs.Equation.{chr, fld, Side}
use Rattle.paper.specs.Situation.{Acceptor, Situation, Kind, is_finished, is_dead, is_open, Move, strike_left, strike_right, put, trim, kind_of, front_field, front_fields, trimmed, kind, strike, strike_all, put_before, put_before_all, front_may_end, front_takes, open_moves, moves_of, side_above, kept, child_by, children}
use Rattle.paper.specs.Question.{Question, held_by}
use Rattle.paper_chosen.specs.Chosen.{every, acceptor_over}
use Rattle.paper.proofs.base.Listed.{each_append, each_same, keep_none}
use Rattle.paper.proofs.base.Tests.{by_bool, true_false, not_true, and_left, and_right, eqb_true, eqb_same, eqb_false}
use Rattle.paper.proofs.base.Lists.{map_append, mem_upto}
use Rattle.paper_laws.proofs.equations.Moves.{other_front}
use Rattle.paper_laws.proofs.search.Mapped.{code_child}
use Rattle.base_places.specs.Masks.{mask, follow_masks, followers_of}
use Rattle.base_places.proofs.Masks.{Few}
use Rattle.base_codes.specs.Inner.{field_code, left_struck, right_struck, token_code, side_code, move_code, field_of, front}
use Rattle.search_fronts.specs.Fronts.{Front, row_number, front_from, set_by}
use Rattle.base_codes.specs.Coded.{Coded}
use Rattle.search_children.specs.Children.{dropped, above, made, judged_sides, settle, with_set, struck, put_child, may_end_at, left_strike, right_strike, put_of, as_child, children_coded}
use Rattle.search_children.specs.Coding.{situation_code, tables_of, tables_over}
use Rattle.search_children.proofs.CodedSides.{KnownSide, char_not_field, field_is_field, field_of_code, strike_coded, put_in_all, put_coded, trim_coded, kind_dead, dead_coded, front_coded, known_strike, known_put_all}
use Rattle.search_children.proofs.CodedSets.{row_known, row_every, Codable, set_mask, may_end_coded, front_at, set_by_coded, takes_coded}

-- `each` over the lists that the moves are made of
module _ {A B : Type 0} (f : A → List B) where
  each_only : (b : Bool) (x : A) → each f (only b x) ≡ cond b (f x) []
  each_only true x = append-nil (f x)
  each_only false x = refl

  each_map_keep : {C : Type 0} (g : C → A) (p : C → Bool) (l : List C) → each f (map g (keep p l)) ≡ each (λ (c : C). cond (p c) (f (g c)) []) l
  each_map_keep g p [] = refl
  each_map_keep g p (c ∷ l) = by_bool (p c) (λ e. rw e (ap (λ (r : List B). f (g c) ++ r) (each_map_keep g p l))) (λ e. rw e (each_map_keep g p l))

  map_each : {C : Type 0} (g : B → C) (l : List A) → map g (each f l) ≡ each (λ (x : A). map g (f x)) l
  map_each g [] = refl
  map_each {C} g (x ∷ l) = map_append g (f x) (each f l) ∙ ap (λ (r : List C). map g (f x) ++ r) (map_each g l)

-- What the children are without kinds: where a situation is not open, its fronts let no move through.
module _ {P : Type 0} (A : Acceptor P) where
  two_characters : (a b c : ℕ) → eqb a b ≡ false → (eqb a c && eqb b c) ≡ false
  two_characters a b c n =
      not_true (eqb a c && eqb b c)
      (λ e. true_false (rw (eqb_true a c (and_left (eqb a c) (eqb b c) e), ← eqb_true b c (and_right (eqb a c) (eqb b c) e)) (eqb_same b)) n)

  pub moves_open : (l r : Side) (sets : List P)
      → moves_of A (kind_of l r) (record { left = l; right = r; sets = sets }) ≡ open_moves A (record { left = l; right = r; sets = sets })
  unfolding open_moves
  moves_open [] [] sets = rw (keep_none (λ (c : ℕ). false) (upto A.characters) (λ c. refl))
  moves_open [] (chr b ∷ r) sets = rw (keep_none (λ (c : ℕ). false) (upto A.characters) (λ c. refl))
  moves_open [] (fld g ∷ r) sets = refl
  moves_open (fld f ∷ l) r sets = refl
  moves_open (chr a ∷ l) [] sets = rw (keep_none (λ (c : ℕ). eqb a c && false) (upto A.characters) (λ c. and-false (eqb a c)))
  moves_open (chr a ∷ l) (fld g ∷ r) sets = refl
  moves_open (chr a ∷ l) (chr b ∷ r) sets =
      by_bool (eqb a b)
      (λ e. rw e)
      (λ e. rw (e, keep_none (λ (c : ℕ). eqb a c && eqb b c) (upto A.characters) (λ c. two_characters a b c e)))

  -- the three groups, in 01's order
  abbrev left_group : ℕ → Situation P → List (Child (Situation P) Move)
  left_group limit s = cond (front_may_end A s (front_field s.left)) (child_by A limit s strike_left) []

  abbrev right_group : ℕ → Situation P → List (Child (Situation P) Move)
  right_group limit s = cond (front_may_end A s (other_front s.left s.right)) (child_by A limit s strike_right) []

  abbrev put_group : ℕ → Situation P → ℕ → List (Child (Situation P) Move)
  put_group limit s c = cond (front_takes A s c s.left && front_takes A s c s.right) (child_by A limit s (put c)) []

  children_grouped : (limit : ℕ) (s : Situation P)
      → children A limit s ≡ left_group limit s ++ (right_group limit s ++ each (put_group limit s) (upto A.characters))
  unfolding children open_moves
  children_grouped limit s =
      let f = child_by A limit s in
      let takes : ℕ → Bool = λ c. front_takes A s c s.left && front_takes A s c s.right in
      let strike-l : List Move = only (front_may_end A s (front_field s.left)) strike_left in
      let strike-r : List Move = only (front_may_end A s (other_front s.left s.right)) strike_right in
      ap (each f) (moves_open s.left s.right s.sets)
      ∙ each_append f strike-l (strike-r ++ map put (keep takes (upto A.characters)))
      ∙ ap₂ ◌++◌ (each_only f (front_may_end A s (front_field s.left)) strike_left)
      (each_append f strike-r (map put (keep takes (upto A.characters)))
      ∙ ap₂ ◌++◌ (each_only f (front_may_end A s (other_front s.left s.right)) strike_right)
      (each_map_keep f put takes (upto A.characters)))

  grouped_mapped : {B : Type 0} (g : Child (Situation P) Move → B) (limit : ℕ) (s : Situation P)
      → map g (children A limit s)
      ≡ map g (left_group limit s) ++ (map g (right_group limit s) ++ each (λ (c : ℕ). map g (put_group limit s c)) (upto A.characters))
  grouped_mapped g limit s =
      ap (map g) (children_grouped limit s)
      ∙ map_append g (left_group limit s) (right_group limit s ++ each (put_group limit s) (upto A.characters))
      ∙ ap (λ (l : List _). map g (left_group limit s) ++ l)
      (map_append g (right_group limit s) (each (put_group limit s) (upto A.characters))
      ∙ ap (λ (l : List _). map g (right_group limit s) ++ l) (map_each (put_group limit s) g (upto A.characters)))

-- the child of the paper, by inner codes
abbrev pub code_child_of : Child (Situation PlaceSet) Move → Child Coded ℕ
code_child_of = code_child situation_code move_code

module _ (among : ℕ → Bool) (q : Question) where
  -- what becomes of a situation that a move made
  abbrev made_by : Move → Situation PlaceSet → List (Child (Situation PlaceSet) Move)
  made_by m t =
      kept (acceptor_over among q) (kind (acceptor_over among q) (trimmed (acceptor_over among q) t)) (side_above (acceptor_over among q) longest_side (trimmed (acceptor_over among q) t)) m (trimmed (acceptor_over among q) t)

  kept_coded : (k : Kind) (b : Bool) (m : Move) (t : Situation PlaceSet)
      → as_child (move_code m) (cond (kind_dead k) dropped (cond b above (made (situation_code t)))) ≡ map code_child_of (kept (acceptor_over among q) k b m t)
  kept_coded is_finished true m t = refl
  kept_coded is_finished false m t = refl
  kept_coded is_dead b m t = refl
  kept_coded is_open true m t = refl
  kept_coded is_open false m t = refl

  settle_coded : (m : Move) (t : Situation PlaceSet) → KnownSide t.left → KnownSide t.right
      → as_child (move_code m) (settle (side_code t.left) (side_code t.right) (map mask t.sets)) ≡ map code_child_of (made_by m t)
  unfolding settle judged_sides trimmed
  settle_coded m t h k =
      let l = (trim t.left t.right).l in
      let r = (trim t.left t.right).r in
      let c = trim_coded t.left t.right h k in
      rw (c.left, c.right, dead_coded t.left t.right h k, length-map l token_code, length-map r token_code)
      (kept_coded (kind_of l r) (side_above (acceptor_over among q) longest_side (trimmed (acceptor_over among q) t)) m (trimmed (acceptor_over among q) t))

-- the sides after puts
module _ {P : Type 0} (A : Acceptor P) (c : ℕ) where
  put_all_left : (fs : List ℕ) (s : Situation P) → (put_before_all A c fs s).left ≡ put_in_all c fs s.left
  unfolding put_before
  put_all_left [] s = refl
  put_all_left (f ∷ fs) s = put_all_left fs (put_before A c f s)

  put_all_right : (fs : List ℕ) (s : Situation P) → (put_before_all A c fs s).right ≡ put_in_all c fs s.right
  unfolding put_before
  put_all_right [] s = refl
  put_all_right (f ∷ fs) s = put_all_right fs (put_before A c f s)

-- what is worked out of a token in front is of that token
token_at : (among : ℕ → Bool) (q : Question) (s : Situation PlaceSet) (b : ℕ) → (front_at among q s b).token ≡ b
unfolding front_from
token_at among q s b = refl

module _ (among : ℕ → Bool) (q : Question) (most : q.alphabet.characters ≤ most_characters) (few : (f : ℕ) → Few (held_by q f))
    (s : Situation PlaceSet) (codable : Codable s) where
  abbrev characters : ℕ
  characters = q.alphabet.characters

  -- a strike of the field in front of a side, whose set may end
  strike_child : (m : Move) (side : Side) → KnownSide side → front_may_end (acceptor_over among q) s (front_field side) ≡ true
      → as_child (move_code m) (struck (situation_code s) (front (side_code side)))
      ≡ map code_child_of (made_by among q m (strike_all (acceptor_over among q) (front_field side) s))
  unfolding struck strike acceptor_over
  strike_child m [] k e = absurd (true_false e refl)
  strike_child m (chr a ∷ side) k e = absurd (true_false e refl)
  strike_child m (fld f ∷ side) k e =
      rw (strike_coded f s.left codable.left, strike_coded f s.right codable.right, field_is_field f k.0, field_of_code f, set_mask s.sets f [])
      (settle_coded among q m (strike (acceptor_over among q) f s) (known_strike f s.left codable.left) (known_strike f s.right codable.right))

  pub left_coded : as_child left_struck (left_strike (tables_over among q).last (situation_code s))
      ≡ map code_child_of (left_group (acceptor_over among q) longest_side s)
  unfolding left_strike child_by
  left_coded =
      rw (may_end_coded among q most few s codable s.left codable.left)
      (by_bool (front_may_end (acceptor_over among q) s (front_field s.left))
      (λ e. rw e (strike_child strike_left s.left codable.left e))
      (λ e. rw e))

  -- the right front is a field whose set may end, and not the left front
  right_ends : (r : Side) → KnownSide r
      → (may_end_at (situation_code s).sets (tables_over among q).last (front (side_code r)) && not (eqb (front (side_code r)) (front (side_code s.left))))
      ≡ front_may_end (acceptor_over among q) s (other_front s.left r)
  right_ends [] k = rw (may_end_coded among q most few s codable [] k)
  right_ends (chr b ∷ r) k = rw (may_end_coded among q most few s codable (chr b ∷ r) k)
  right_ends (fld g ∷ r) k =
      rw (may_end_coded among q most few s codable (fld g ∷ r) k, front_coded g s.left k.0 codable.left)
      (by_bool (any (eqb g) (front_field s.left))
      (λ e. rw e (and-false (front_may_end (acceptor_over among q) s (g ∷ []))))
      (λ e. rw e (and-true (front_may_end (acceptor_over among q) s (g ∷ [])))))

  pub right_coded : as_child right_struck (right_strike (tables_over among q).last (situation_code s))
      ≡ map code_child_of (right_group (acceptor_over among q) longest_side s)
  unfolding right_strike child_by
  right_coded =
      let ends = right_ends s.right codable.right in
      rw ends
      (by_bool (front_may_end (acceptor_over among q) s (other_front s.left s.right))
      (λ e. rw e (strike_child strike_right s.right codable.right (sym (may_end_coded among q most few s codable s.right codable.right) ∙ and_left _ _ (ends ∙ e))))
      (λ e. rw e))

  -- the set of the token in front after c
  abbrev next_at : ℕ → ℕ → ℕ
  next_at b c = set_by (front_at among q s b) c

  -- the sets after puts: one front field
  sets_one : (c : ℕ) (side : Side) → c < characters → KnownSide side
      → with_set (front (side_code side)) (next_at (front (side_code side)) c) (map mask s.sets) ≡ map mask (put_before_all (acceptor_over among q) c (front_field side) s).sets
  unfolding put_before
  sets_one c [] h k = refl
  sets_one c (chr a ∷ side) h k = rw (char_not_field a k.0)
  sets_one c (fld f ∷ side) h k = rw (field_is_field f k.0, set_by_coded among q most few s codable f c k.0 h, field_of_code f) (set_mask s.sets f _)

  -- two, which are put before one after the other; the same one once
  sets_two : (c f g : ℕ) (l r : Side) → c < characters → f < set_fields → g < set_fields
      → with_set (field_code + g) (next_at (field_code + g) c) (with_set (field_code + f) (next_at (field_code + f) c) (map mask s.sets))
      ≡ map mask (put_before_all (acceptor_over among q) c (front_fields (fld f ∷ l) (fld g ∷ r)) s).sets
  unfolding put_before acceptor_over
  sets_two c f g l r h kf kg =
      rw (field_is_field f kf, field_is_field g kg, set_by_coded among q most few s codable f c kf h, set_by_coded among q most few s codable g c kg h, field_of_code f, field_of_code g)
      (by_bool (eqb g f)
      (λ e. rw (e, eqb_true g f e, set-set (map mask s.sets) f (mask ((acceptor_over among q).set_after f (get_or s.sets f []) c))) (set_mask s.sets f _))
      (λ e.
      rw (e, get_or-set_other s.sets f g ((acceptor_over among q).set_after f (get_or s.sets f []) c) [] (eqb_false g f e), set_mask s.sets f ((acceptor_over among q).set_after f (get_or s.sets f []) c))
      (set_mask (set s.sets f ((acceptor_over among q).set_after f (get_or s.sets f []) c)) g ((acceptor_over among q).set_after g (get_or s.sets g []) c))))

  sets_coded : (c : ℕ) (l r : Side) → c < characters → KnownSide l → KnownSide r
      → with_set (front (side_code r)) (next_at (front (side_code r)) c) (with_set (front (side_code l)) (next_at (front (side_code l)) c) (map mask s.sets))
      ≡ map mask (put_before_all (acceptor_over among q) c (front_fields l r) s).sets
  sets_coded c l [] h k m = rw (append-nil (front_field l)) (sets_one c l h k)
  sets_coded c l (chr b ∷ r) h k m = rw (char_not_field b m.0, append-nil (front_field l)) (sets_one c l h k)
  sets_coded c [] (fld g ∷ r) h k m = sets_one c (fld g ∷ r) h m
  sets_coded c (chr a ∷ l) (fld g ∷ r) h k m = rw (char_not_field a k.0) (sets_one c (fld g ∷ r) h m)
  sets_coded c (fld f ∷ l) (fld g ∷ r) h k m = sets_two c f g l r h k.0 m.0

  put_child_coded : (c : ℕ) → c < characters
      → as_child c (put_child (situation_code s) c (next_at (front (side_code s.left)) c) (next_at (front (side_code s.right)) c))
      ≡ map code_child_of (child_by (acceptor_over among q) longest_side s (put c))
  unfolding put_child child_by
  put_child_coded c h =
      let fs = front_fields s.left s.right in
      let t = put_before_all (acceptor_over among q) c fs s in
      let l : put_in_all c fs s.left ≡ t.left = sym (put_all_left (acceptor_over among q) c fs s) in
      let r : put_in_all c fs s.right ≡ t.right = sym (put_all_right (acceptor_over among q) c fs s) in
      rw (put_coded c s.left s.right s.left codable.left codable.right codable.left, put_coded c s.left s.right s.right codable.left codable.right codable.right, sets_coded c s.left s.right h codable.left codable.right, l, r)
      (settle_coded among q (put c) t (rw l at (known_put_all c fs s.left (omega arith) codable.left)) (rw r at (known_put_all c fs s.right (omega arith) codable.right)))

  pub put_of_coded : (c : ℕ) → c < characters
      → as_child c (put_of (situation_code s) (front_at among q s (front (side_code s.left))) (front_at among q s (front (side_code s.right))) c)
      ≡ map code_child_of (put_group (acceptor_over among q) longest_side s c)
  unfolding put_of
  put_of_coded c h =
      rw (token_at among q s (front (side_code s.left)), token_at among q s (front (side_code s.right)), takes_coded among q most few s codable s.left c h codable.left, takes_coded among q most few s codable s.right c h codable.right)
      (by_bool (front_takes (acceptor_over among q) s c s.left && front_takes (acceptor_over among q) s c s.right)
      (λ e. rw e (put_child_coded c h))
      (λ e. rw e))

  -- The children agree, in their order.
  pub children_agree : children_coded (tables_over among q) (situation_code s) ≡ map code_child_of (children (acceptor_over among q) longest_side s)
  unfolding children_coded acceptor_over tables_over
  children_agree =
      let puts : ℕ → List (Child Coded ℕ) = λ (c : ℕ). map code_child_of (put_group (acceptor_over among q) longest_side s c) in
      ap₂ ◌++◌ left_coded (ap₂ ◌++◌ right_coded (each_same _ puts (upto characters) (λ c d. put_of_coded c (mem_upto characters d))))
      ∙ sym (grouped_mapped (acceptor_over among q) code_child_of longest_side s)

-- A put by the question's own tables is one by its tables over every character.
module _ (q : Question) (most : q.alphabet.characters ≤ most_characters) (sets : List ℕ) where
  abbrev own_front : ℕ → Front
  own_front b = front_from (tables_of q).follow (tables_of q).taking sets b

  abbrev every_front : ℕ → Front
  every_front b = front_from (tables_over every q).follow (tables_over every q).taking sets b

  set_by_every : (b c : ℕ) → c < q.alphabet.characters → set_by (own_front b) c ≡ set_by (every_front b) c
  unfolding front_from row_number tables_over tables_of
  set_by_every b c h =
      ap (bit_and (followers_of (get_or (map (λ (f : ℕ). follow_masks (held_by q f)) (upto set_fields)) (field_of b) []) (get_or sets (field_of b) 0)))
      (row_every q most (row_number b) c (row_known b) h)

  pub put_every : (k : Coded) (a b c : ℕ) → c < q.alphabet.characters
      → put_of k (own_front a) (own_front b) c ≡ put_of k (every_front a) (every_front b) c
  unfolding put_of front_from
  put_every k a b c h = rw (set_by_every a c h, set_by_every b c h)

-- So the children by either tables are the same.
pub children_every : (q : Question) → q.alphabet.characters ≤ most_characters → (k : Coded)
    → children_coded (tables_of q) k ≡ children_coded (tables_over every q) k
unfolding children_coded tables_of tables_over
children_every q most k =
    let left = as_child left_struck (left_strike (tables_over every q).last k) in
    let right = as_child right_struck (right_strike (tables_over every q).last k) in
    ap (λ (puts : List (Child Coded ℕ)). left ++ (right ++ puts))
    (each_same _ _ (upto q.alphabet.characters)
    (λ c d. ap (as_child c) (put_every q most k.sets k (front k.left) (front k.right) c (mem_upto q.alphabet.characters d))))
