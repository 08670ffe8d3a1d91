-- The search over pairs of standings finds a finished one exactly if some way leads to one.
--   found_meeting : clashes_apart q ≡ true → Meeting (held_by (hidden q)) q.alphabet.characters (hidden q).left (hidden q).right
--   meeting_found : and the other way
--   next_steps    : what a pair leads to, as the relation `Steps`: no child is too long
-- Of every question, good or not. Every pair entered is one of the list of all pairs of a left and a right standing, for which there is room, so
-- the search ends with a finished pair or uses all up. Follows from the laws of the search over any situations.
use Prim.Native.Nat.{ℕ, ◌*◌, ◌<◌}
use native.Mathlib.Omega.{arith}
use native.Mathlib.Nat.{suc-mul}
use mathlib.Core.Path.{◌≡◌, refl, sym, subst}
use mathlib.Core.Logic.{⊎_elim}
use mathlib.Core.Bool.{true}
use mathlib.Core.List.{List, [], ◌∷◌, ◌++◌, map}
use mathlib.Core.List.Memᴰ
use mathlib.Core.List.{Memᴰ}
use lib.Dec.{eqb}
use lib.ListN.{length, length-append, length-map}
use Rattle.paper.specs.Lists.{upto, keep, each, same_by}
use Rattle.paper.specs.Pattern.{Held, some_text, pattern}
use Rattle.paper.specs.Places.{ends_at}
use Rattle.paper.specs.Search.{Child, child, long, Entry, End, found, used_up, no_room, too_long, how, entries}
use Rattle.paper.specs.Equation.{Token, chr, fld, Side}
use Rattle.paper.specs.Situation.{Move, strike_left, strike_right, put, same_token}
use Rattle.paper.specs.Question.{Question, held_by, hidden}
use Rattle.paper.proofs.base.Tests.{true_false, and_left, and_right, both_true, eqb_true, eq_eqb, eqb_same}
use Rattle.paper.proofs.base.Lists.{mem_only, only_mem, mem_keep, keep_mem, mem_each, each_mem, mem_map, map_mem, mem_upto, upto_mem, same_by_equal, same_by_same, length_from}
use Rattle.paper_laws.proofs.search.Searched.{way_leads, found_entered, found_finished, used_up_reaches, used_up_unfinished, within_has_room, within_not_long}
use Rattle.paper_laws.proofs.equations.Same.{token_equal, token_same}
use Rattle.paper_laws.proofs.plain.Tails.{Tail, whole, behind, tail_rest}
use Rattle.paper_plain.specs.Standing.{places_of, comes_by, Standing, begins, Pair, standings, left_at, read_at, next_pairs, finished_pair, same_standing, same_pair, pairs_of, pairs_searched}
use Rattle.paper_plain.specs.Meeting.{Meeting}
use Rattle.paper_plain.specs.Engine.{is_found, clashes_apart}

module _ (held : ℕ → Held) where
  -- the field in front is left
  pub data LeftTo : Side → ℕ → Standing → Type 0 where
    field_left : {f : ℕ} {side : Side} {i : ℕ} → ends_at (held f) i ≡ true → LeftTo (fld f ∷ side) i (begins side)

  -- the character c is read
  pub data ReadTo (c : ℕ) : Side → ℕ → Standing → Type 0 where
    character_read : {a : ℕ} {side : Side} {i : ℕ} → a ≡ c → ReadTo c (chr a ∷ side) i (begins side)
    place_read :
        {f : ℕ} {side : Side} {i q : ℕ} → q < places_of (held f) → comes_by (held f) i c q ≡ true
        → ReadTo c (fld f ∷ side) i (record { rest = fld f ∷ side; place = q })

  mem_left : (side : Side) (i : ℕ) {s : Standing} → Memᴰ s (left_at held side i) → LeftTo side i s
  mem_left [] i d = absurd (Memᴰ.not-nil d)
  mem_left (chr a ∷ side) i d = absurd (Memᴰ.not-nil d)
  mem_left (fld f ∷ side) i d =
      let (e, same) = mem_only (ends_at (held f) i) {y = begins side} d in subst (LeftTo (fld f ∷ side) i) (sym same) (field_left e)

  left_mem : {side : Side} {i : ℕ} {s : Standing} → LeftTo side i s → Memᴰ s (left_at held side i)
  left_mem (field_left {f = f} {side = side} {i = i} e) = only_mem (ends_at (held f) i) (begins side) e

  abbrev at_place : ℕ → Side → ℕ → Standing
  at_place f side q = record { rest = fld f ∷ side; place = q }

  mem_read : (c : ℕ) (side : Side) (i : ℕ) {s : Standing} → Memᴰ s (read_at held c side i) → ReadTo c side i s
  mem_read c [] i d = absurd (Memᴰ.not-nil d)
  mem_read c (chr a ∷ side) i d =
      let (e, same) = mem_only (eqb a c) d in subst (ReadTo c (chr a ∷ side) i) (sym same) (character_read (eqb_true a c e))
  mem_read c (fld f ∷ side) i d =
      let (q, k, same) = mem_map (at_place f side) (keep (comes_by (held f) i c) (upto (places_of (held f)))) d in
      let (u, e) = mem_keep (comes_by (held f) i c) (upto (places_of (held f))) k in
      subst (ReadTo c (fld f ∷ side) i) (sym same) (place_read (mem_upto (places_of (held f)) u) e)

  read_mem : {c : ℕ} {side : Side} {i : ℕ} {s : Standing} → ReadTo c side i s → Memᴰ s (read_at held c side i)
  read_mem {c} (character_read {a = a} {side = side} e) = only_mem (eqb a c) (begins side) (eq_eqb a c e)
  read_mem {c} (place_read {f = f} {side = side} {i = i} h e) =
      map_mem (at_place f side) (keep_mem (comes_by (held f) i c) (upto (places_of (held f))) (upto_mem (places_of (held f)) h) e)

  -- what a pair leads to
  module _ (characters : ℕ) where
    pub data Steps (x : Pair) : Child Pair Move → Type 0 where
      leaves_left : {s : Standing} → LeftTo x.left.rest x.left.place s → Steps x (child strike_left (record { left = s; right = x.right }))
      leaves_right : {s : Standing} → LeftTo x.right.rest x.right.place s → Steps x (child strike_right (record { left = x.left; right = s }))
      read_both :
          {c : ℕ} {s t : Standing} → c < characters
          → ReadTo c x.left.rest x.left.place s → ReadTo c x.right.rest x.right.place t
          → Steps x (child (put c) (record { left = s; right = t }))

    module _ (x : Pair) where
      abbrev on_left : List Standing
      on_left = left_at held x.left.rest x.left.place

      abbrev on_right : List Standing
      on_right = left_at held x.right.rest x.right.place

      abbrev left_read : ℕ → List Standing
      left_read c = read_at held c x.left.rest x.left.place

      abbrev right_read : ℕ → List Standing
      right_read c = read_at held c x.right.rest x.right.place

      abbrev with_left : Standing → Child Pair Move
      with_left s = child strike_left (record { left = s; right = x.right })

      abbrev with_right : Standing → Child Pair Move
      with_right s = child strike_right (record { left = x.left; right = s })

      abbrev with_both : ℕ → Standing → Standing → Child Pair Move
      with_both c s t = child (put c) (record { left = s; right = t })

      abbrev read_with : ℕ → Standing → List (Child Pair Move)
      read_with c s = map (with_both c s) (right_read c)

      abbrev read_by : ℕ → List (Child Pair Move)
      read_by c = each (read_with c) (left_read c)

      pub next_steps : {k : Child Pair Move} → Memᴰ k (next_pairs held characters x) → Steps x k
      unfolding next_pairs
      next_steps {k} d =
          ⊎_elim
          (λ (i : Memᴰ k (map with_left on_left)).
          let (s, m, e) = mem_map with_left on_left i in subst (Steps x) (sym e) (leaves_left (mem_left x.left.rest x.left.place m)))
          (λ (i : Memᴰ k (map with_right on_right ++ each read_by (upto characters))).
          ⊎_elim
          (λ (j : Memᴰ k (map with_right on_right)).
          let (s, m, e) = mem_map with_right on_right j in subst (Steps x) (sym e) (leaves_right (mem_left x.right.rest x.right.place m)))
          (λ (j : Memᴰ k (each read_by (upto characters))).
          let (c, u, m) = mem_each read_by (upto characters) j in
          let (s, p, n) = mem_each (read_with c) (left_read c) m in
          let (t, r, e) = mem_map (with_both c s) (right_read c) n in
          subst (Steps x) (sym e)
          (read_both (mem_upto characters u) (mem_read c x.left.rest x.left.place p) (mem_read c x.right.rest x.right.place r)))
          (Memᴰ.append_cases (map with_right on_right) i))
          (Memᴰ.append_cases (map with_left on_left) d)

      pub steps_next : {k : Child Pair Move} → Steps x k → Memᴰ k (next_pairs held characters x)
      unfolding next_pairs
      steps_next (leaves_left h) = Memᴰ.append_left (map with_right on_right ++ each read_by (upto characters)) (map_mem with_left (left_mem h))
      steps_next (leaves_right h) =
          Memᴰ.append_right (map with_left on_left) (Memᴰ.append_left (each read_by (upto characters)) (map_mem with_right (left_mem h)))
      steps_next (read_both {c = c} {s = s} b h k) =
          Memᴰ.append_right (map with_left on_left)
          (Memᴰ.append_right (map with_right on_right)
          (each_mem read_by (upto characters) (upto_mem characters b)
          (each_mem (read_with c) (left_read c) (read_mem h) (map_mem (with_both c s) (read_mem k)))))

  -- All standings of a side: a place in front of what is not read yet.
  abbrev all_standings : Side → List Standing
  all_standings [] = begins [] ∷ []
  all_standings (chr a ∷ side) = begins (chr a ∷ side) ∷ all_standings side
  all_standings (fld f ∷ side) = map (at_place f side) (upto (places_of (held f))) ++ all_standings side

  length_standings : (side : Side) → length (all_standings side) ≡ standings held side
  length_standings [] = refl
  length_standings (chr a ∷ side) = omega (arith, length_standings side)
  length_standings (fld f ∷ side) = rw (length-append, length-map, length_from 0 (places_of (held f)), length_standings side)

  -- the place is one of the field in front, or 0 where none is
  abbrev Placed : Side → ℕ → Type 0
  Placed [] i = i ≡ 0
  Placed (chr a ∷ side) i = i ≡ 0
  Placed (fld f ∷ side) i = i < places_of (held f)

  -- a standing of the side
  pub record Stands (side : Side) (s : Standing) : Type 0 where
    pub tail : Tail s.rest side
    pub placed : Placed s.rest s.place

  starts : (h : Held) → 0 < places_of h
  starts some_text = omega arith
  starts (pattern p) = omega arith

  begins_placed : (side : Side) → Placed side 0
  begins_placed [] = refl
  begins_placed (chr a ∷ side) = refl
  begins_placed (fld f ∷ side) = starts (held f)

  pub begins_stands : (side : Side) → Stands side (begins side)
  begins_stands side = record { tail = whole; placed = begins_placed side }

  pub left_stands : {side rest : Side} {i : ℕ} {t : Standing} → Tail rest side → LeftTo rest i t → Stands side t
  left_stands u (field_left {side = rest} e) = record { tail = tail_rest u; placed = begins_placed rest }

  pub read_stands : {side rest : Side} {c i : ℕ} {t : Standing} → Tail rest side → ReadTo c rest i t → Stands side t
  read_stands u (character_read {side = rest} e) = record { tail = tail_rest u; placed = begins_placed rest }
  read_stands u (place_read h e) = record { tail = u; placed = h }

  whole_listed : (rest : Side) (i : ℕ) → Placed rest i → Memᴰ (record { rest = rest; place = i }) (all_standings rest)
  whole_listed [] i h = Memᴰ.head (λ j. record { rest = []; place = h j })
  whole_listed (chr a ∷ rest) i h = Memᴰ.head (λ j. record { rest = chr a ∷ rest; place = h j })
  whole_listed (fld f ∷ rest) i h = Memᴰ.append_left (all_standings rest) (map_mem (at_place f rest) (upto_mem (places_of (held f)) h))

  listed_behind : (x : Token) (side : Side) {s : Standing} → Memᴰ s (all_standings side) → Memᴰ s (all_standings (x ∷ side))
  listed_behind (chr c) side d = Memᴰ.tail d
  listed_behind (fld f) side d = Memᴰ.append_right (map (at_place f side) (upto (places_of (held f)))) d

  listed_tail : {rest side : Side} {i : ℕ} → Tail rest side → Placed rest i → Memᴰ (record { rest = rest; place = i }) (all_standings side)
  listed_tail {i = i} (whole {side = side}) h = whole_listed side i h
  listed_tail (behind {x = x} {side = side} u) h = listed_behind x side (listed_tail u h)

-- The tests of standings and of pairs are equality.
standing_equal : (s t : Standing) → same_standing s t ≡ true → s ≡ t
standing_equal s t e =
    let rest = same_by same_token s.rest t.rest in
    let place = eqb s.place t.place in
    λ i.
    record {
      rest = same_by_equal same_token token_equal s.rest t.rest (and_left rest place e) i;
      place = eqb_true s.place t.place (and_right rest place e) i;
    }

standing_same : (s : Standing) → same_standing s s ≡ true
standing_same s = both_true (same_by_same same_token token_same s.rest) (eqb_same s.place)

pair_equal : (x y : Pair) → same_pair x y ≡ true → x ≡ y
pair_equal x y e =
    let l = same_standing x.left y.left in
    let r = same_standing x.right y.right in
    λ i. record { left = standing_equal x.left y.left (and_left l r e) i; right = standing_equal x.right y.right (and_right l r e) i }

pair_same : (x : Pair) → same_pair x x ≡ true
pair_same x = both_true (standing_same x.left) (standing_same x.right)

length_each_map : {A B C : Type 0} (g : A → B → C) (l : List A) (m : List B) → length (each (λ (a : A). map (g a) m) l) ≡ length l * length m
length_each_map g [] m = omega arith
length_each_map g (a ∷ l) m = rw (length-append, length-map, length_each_map g l m, suc-mul) (omega arith)

module _ (held : ℕ → Held) (characters : ℕ) (l r : Side) where
  abbrev first_pair : Pair
  first_pair = record { left = begins l; right = begins r }

  abbrev room : ℕ
  room = pairs_of held l r

  abbrev the_end : End Pair Move
  the_end = how (pairs_searched held characters l r)

  -- a pair of a left and a right standing
  pub record Paired (x : Pair) : Type 0 where
    pub on_left : Stands held l x.left
    pub on_right : Stands held r x.right

  pub first_paired : Paired first_pair
  first_paired = record { on_left = begins_stands held l; on_right = begins_stands held r }

  -- no step makes a side too long
  abbrev Made : Child Pair Move → Type 0
  Made long = ⊥
  Made (child m y) = Paired y

  pub steps_paired : (x : Pair) → Paired x → {k : Child Pair Move} → Steps held characters x k → Made k
  steps_paired x p (leaves_left h) = record { on_left = left_stands held p.on_left.tail h; on_right = p.on_right }
  steps_paired x p (leaves_right h) = record { on_left = p.on_left; on_right = left_stands held p.on_right.tail h }
  steps_paired x p (read_both b h k) =
      record { on_left = read_stands held p.on_left.tail h; on_right = read_stands held p.on_right.tail k }

  abbrev as_pair : Standing → Standing → Pair
  as_pair s t = record { left = s; right = t }

  abbrev all_pairs : List Pair
  all_pairs = each (λ (s : Standing). map (as_pair s) (all_standings held r)) (all_standings held l)

  length_pairs : length all_pairs ≡ standings held l * standings held r
  length_pairs = rw (length_each_map as_pair (all_standings held l) (all_standings held r), length_standings held l, length_standings held r)

  listed : (x : Pair) → Paired x → Memᴰ x all_pairs
  listed x p =
      each_mem (λ (s : Standing). map (as_pair s) (all_standings held r)) (all_standings held l)
      (listed_tail held p.on_left.tail p.on_left.placed)
      (map_mem (as_pair x.left) (listed_tail held p.on_right.tail p.on_right.placed))

  child_paired : (x : Pair) → Paired x → (m : Move) (y : Pair) → Memᴰ (child m y) (next_pairs held characters x) → Paired y
  child_paired x p m y d = steps_paired x p (next_steps held characters x d)

  -- "one bit for each pair of a left and a right standing": there is room for all of them
  pub pairs_have_room : the_end ≡ no_room → ⊥
  unfolding pairs_searched
  pairs_have_room =
      within_has_room same_pair finished_pair (next_pairs held characters) pair_equal pair_same room first_pair
      Paired first_paired child_paired all_pairs listed (omega (arith, length_pairs))

  pub pairs_not_long : the_end ≡ too_long → ⊥
  unfolding pairs_searched
  pairs_not_long =
      within_not_long same_pair finished_pair (next_pairs held characters) pair_equal pair_same room first_pair
      Paired first_paired child_paired (λ x p d. steps_paired x p (next_steps held characters x d))

  found_meets : (e : Entry Pair Move) → the_end ≡ found e → Meeting held characters l r
  unfolding pairs_searched
  found_meets e h =
      record {
        way = e.way;
        at = e.at;
        leads =
            way_leads same_pair finished_pair (next_pairs held characters) pair_equal pair_same room first_pair e
            (found_entered same_pair finished_pair (next_pairs held characters) pair_equal pair_same room first_pair e h);
        finished = found_finished same_pair finished_pair (next_pairs held characters) pair_equal pair_same room first_pair e h;
      }

  used_up_apart : the_end ≡ used_up → Meeting held characters l r → ⊥
  unfolding pairs_searched
  used_up_apart h m =
      let d =
      used_up_reaches same_pair finished_pair (next_pairs held characters) pair_equal pair_same room first_pair h m.leads in
      let (e, i, same) = mem_map (λ (e : Entry Pair Move). e.at) (entries (pairs_searched held characters l r)) d in
      true_false m.finished
      (rw same (used_up_unfinished same_pair finished_pair (next_pairs held characters) pair_equal pair_same room first_pair h e i))

  pub searched_meets : is_found the_end ≡ true → Meeting held characters l r
  searched_meets = of the_end refl
    where
      of : (x : End Pair Move) → the_end ≡ x → is_found x ≡ true → Meeting held characters l r
      of (found e) k h = found_meets e k
      of used_up k h = absurd (true_false h refl)
      of no_room k h = absurd (true_false h refl)
      of too_long k h = absurd (true_false h refl)

  pub meets_searched : Meeting held characters l r → is_found the_end ≡ true
  meets_searched m = of the_end refl
    where
      of : (x : End Pair Move) → the_end ≡ x → is_found x ≡ true
      of (found e) k = refl
      of used_up k = absurd (used_up_apart k m)
      of no_room k = absurd (pairs_have_room k)
      of too_long k = absurd (pairs_not_long k)

-- Of every question.
module _ (q : Question) where
  pub found_meeting : clashes_apart q ≡ true → Meeting (held_by (hidden q)) q.alphabet.characters (hidden q).left (hidden q).right
  unfolding clashes_apart
  found_meeting = searched_meets (held_by (hidden q)) q.alphabet.characters (hidden q).left (hidden q).right

  pub meeting_found : Meeting (held_by (hidden q)) q.alphabet.characters (hidden q).left (hidden q).right → clashes_apart q ≡ true
  unfolding clashes_apart
  meeting_found = meets_searched (held_by (hidden q)) q.alphabet.characters (hidden q).left (hidden q).right
