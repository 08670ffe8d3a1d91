-- `reachable_sets n h` holds exactly the reachable place sets, each once.
--   reachable_different : NoDup (reachable_sets n h)
--   reachable_only : a member s of reachable_sets n h is Reachable n h s
--   reachable_all  : Reachable n h s → s is a member of reachable_sets n h
-- The first set is a member, and so is the set after a character of each member, unless it is empty (`reachable_first`, `reachable_after`).
-- Follows from the laws of the search: all its sets are parts of the list of leaves, or the first set, and there is room for as many.
use Prim.Native.Nat.{ℕ, ◌^◌, ◌≤◌, ◌<◌}
use native.Mathlib.Nat.{pow-suc}
use native.Mathlib.Omega.{arith}
use mathlib.Core.Path.{◌≡◌, refl, subst}
use mathlib.Core.Logic.{⊎_elim}
use mathlib.Core.Bool.{Bool, true, false, not}
use mathlib.Core.List.Memᴰ
use mathlib.Core.List.{List, [], ◌∷◌, ◌++◌, map, Memᴰ}
use lib.ListN.{length, length-append, length-map}
use Rattle.paper.specs.Lists.{upto, keep, only}
use Rattle.paper.proofs.base.Tests.{by_bool, true_false, not_is_true, false_not}
use Rattle.paper.proofs.base.Lists.{mem_only, only_mem, mem_each, each_mem, mem_map, map_mem, mem_upto, upto_mem, length_from, NoDup}
use Rattle.paper.specs.Search.{Child, long, child, Entry, used_up, State, search, how, entries}
use Rattle.paper.specs.Leads.{start}
use Rattle.paper_laws.proofs.search.Searched.{entries_different, every_entry, used_up_closed, used_up_reaches, bound_used_up}
use Rattle.paper.specs.Equation.{Over}
use Rattle.paper.specs.Pattern.{Held, some_text, pattern}
use Rattle.paper.specs.Places.{leaves, PlaceSet, leaf_places, first_set, set_after, is_empty, same_set, set_along, sets_after, all_sets, reachable_sets}
use Rattle.paper.specs.Reachable.{Reachable}
use Rattle.paper_laws.proofs.places.PlaceSets.{same_equal, equal_same, empty_along, along_append}

-- All parts of a list.
parts : List ℕ → List (List ℕ)
parts [] = [] ∷ []
parts (x ∷ l) = map (λ (m : List ℕ). x ∷ m) (parts l) ++ parts l

length_parts : (l : List ℕ) → length (parts l) ≡ 2 ^ length l
unfolding parts
length_parts [] = refl
length_parts (x ∷ l) =
    rw (length-append (map (λ (m : List ℕ). x ∷ m) (parts l)) (parts l), length-map (parts l) (λ (m : List ℕ). x ∷ m), length_parts l)
    (omega (arith, pow-suc 2 (length l)))

only_part : (b : Bool) (x : ℕ) (l : List ℕ) {m : List ℕ} → Memᴰ m (parts l) → Memᴰ (only b x ++ m) (parts (x ∷ l))
unfolding parts
only_part true x l d = Memᴰ.append_left (parts l) (map_mem (λ (m : List ℕ). x ∷ m) d)
only_part false x l d = Memᴰ.append_right (map (λ (m : List ℕ). x ∷ m) (parts l)) d

keep_part : (f : ℕ → Bool) (l : List ℕ) → Memᴰ (keep f l) (parts l)
unfolding parts
keep_part f [] = Memᴰ.head refl
keep_part f (x ∷ l) = only_part (f x) x l (keep_part f l)

-- The sets that there can be: the first set, and of a pattern the parts of the list of leaves.
bound : Held → List PlaceSet
bound some_text = first_set ∷ (1 ∷ []) ∷ []
bound (pattern p) = first_set ∷ parts (leaf_places p)

length_bound : (h : Held) → length (bound h) ≤ all_sets h
unfolding bound
length_bound some_text = omega arith
length_bound (pattern p) = rw (length_parts (leaf_places p), length_from 1 (leaves p)) (omega arith)

first_in : (h : Held) → Memᴰ first_set (bound h)
unfolding bound
first_in some_text = Memᴰ.head refl
first_in (pattern p) = Memᴰ.head refl

after_in : (h : Held) (s : PlaceSet) (c : ℕ) → Memᴰ s (bound h) → Memᴰ (set_after h s c) (bound h)
unfolding bound set_after
after_in some_text s c (Memᴰ.head e) = rw e (Memᴰ.tail (Memᴰ.head refl))
after_in some_text s c (Memᴰ.tail (Memᴰ.head e)) = rw e (Memᴰ.tail (Memᴰ.head refl))
after_in some_text s c (Memᴰ.tail (Memᴰ.tail d)) = absurd (Memᴰ.not-nil d)
after_in (pattern p) s c d = Memᴰ.tail (keep_part _ (leaf_places p))

-- The children of a set: the sets after the characters, where they are not empty.
record ChildSet (n : ℕ) (h : Held) (s : PlaceSet) (c : ℕ) (t : PlaceSet) : Type 0 where
  below : c < n
  is_after : t ≡ set_after h s c
  not_empty : is_empty t ≡ false

module _ (n : ℕ) (h : Held) (s : PlaceSet) where
  -- the child that a character makes
  abbrev child_by : ℕ → List (Child PlaceSet ℕ)
  child_by c = only (not (is_empty (set_after h s c))) (child c (set_after h s c))

  same_child : (c x : ℕ) (t : PlaceSet) → x < n → not (is_empty (set_after h s x)) ≡ true → child c t ≡ child x (set_after h s x) → ChildSet n h s c t
  same_child c x t b k e =
      let f : c ≡ x = cc in
      let a : t ≡ set_after h s c = cc in
      record { below = omega arith; is_after = a; not_empty = rw (a, f) (not_is_true k) }

  child_set : (c : ℕ) (t : PlaceSet) → Memᴰ (child c t) (sets_after n h s) → ChildSet n h s c t
  child_set c t d =
      let r = mem_each child_by (upto n) d in
      let k = mem_only (not (is_empty (set_after h s r.0))) r.2 in
      same_child c r.0 t (mem_upto n r.1) k.0 k.1

  not_long : Memᴰ long (sets_after n h s) → ⊥
  not_long d =
      let r = mem_each child_by (upto n) d in
      let k = mem_only (not (is_empty (set_after h s r.0))) r.2 in
      let z : ◌≡◌ {A = ℕ} 0 1 = cc in
      omega arith

  set_child : (c : ℕ) → c < n → is_empty (set_after h s c) ≡ false → Memᴰ (child c (set_after h s c)) (sets_after n h s)
  set_child c b e =
      each_mem child_by (upto n) (upto_mem n b)
      (only_mem (not (is_empty (set_after h s c))) (child c (set_after h s c)) (false_not e))

module _ (n : ℕ) (h : Held) where
  abbrev none_finished : PlaceSet → Bool
  none_finished s = false

  abbrev the_search : State PlaceSet ℕ
  the_search = search same_set none_finished (sets_after n h) (all_sets h) first_set

  abbrev the_entries : List (Entry PlaceSet ℕ)
  the_entries = entries the_search

  -- there is room for every set: the search uses all up
  all_taken : how the_search ≡ used_up
  all_taken =
      bound_used_up same_set none_finished (sets_after n h) same_equal equal_same (all_sets h) first_set (bound h) (first_in h)
      (λ s d c t k. rw (child_set n h s c t k).is_after (after_in h s c d))
      (length_bound h)
      (λ s d. not_long n h s)
      (λ s d. refl)

  pub reachable_different : NoDup (reachable_sets n h)
  unfolding reachable_sets
  reachable_different = entries_different same_set none_finished (sets_after n h) same_equal equal_same (all_sets h) first_set

  pub reachable_first : Memᴰ first_set (reachable_sets n h)
  unfolding reachable_sets
  reachable_first = used_up_reaches same_set none_finished (sets_after n h) same_equal equal_same (all_sets h) first_set all_taken start

  pub reachable_after : (s : PlaceSet) (c : ℕ) → Memᴰ s (reachable_sets n h) → c < n → is_empty (set_after h s c) ≡ false
      → Memᴰ (set_after h s c) (reachable_sets n h)
  unfolding reachable_sets
  reachable_after s c d b e =
      let r = mem_map (λ (x : Entry PlaceSet ℕ). x.at) the_entries d in
      used_up_closed same_set none_finished (sets_after n h) same_equal equal_same (all_sets h) first_set all_taken r.0 r.1 c (set_after h s c)
      (subst (λ (u : PlaceSet). Memᴰ (child c (set_after h s c)) (sets_after n h u)) r.2 (set_child n h s c b e))

  first_reachable : Reachable n h first_set
  first_reachable = record { text = []; over = λ c d. absurd (Memᴰ.not-nil d); leads = refl; not_empty = refl }

  child_reachable : (s : PlaceSet) (c : ℕ) (t : PlaceSet) → Reachable n h s → Memᴰ (child c t) (sets_after n h s) → Reachable n h t
  child_reachable s c t r d =
      let k = child_set n h s c t d in
      record {
        text = r.text ++ (c ∷ []);
        over =
            λ x i.
            ⊎_elim (r.over x) (λ (j : Memᴰ x (c ∷ [])). rw (Memᴰ.eq_of_singleton j) k.below) (Memᴰ.append_cases r.text i);
        leads = rw (along_append h first_set r.text (c ∷ []), r.leads, k.is_after);
        not_empty = k.not_empty;
      }

  pub reachable_only : (s : PlaceSet) → Memᴰ s (reachable_sets n h) → Reachable n h s
  unfolding reachable_sets
  reachable_only s d =
      let r = mem_map (λ (x : Entry PlaceSet ℕ). x.at) the_entries d in
      rw r.2
      (every_entry same_set none_finished (sets_after n h) same_equal equal_same (all_sets h) first_set (Reachable n h) first_reachable child_reachable r.0 r.1)

  reached_on : (s : PlaceSet) (w : List ℕ) → Memᴰ s (reachable_sets n h) → Over n w → is_empty (set_along h s w) ≡ false
      → Memᴰ (set_along h s w) (reachable_sets n h)
  reached_on s [] d o e = d
  reached_on s (c ∷ w) d o e =
      by_bool (is_empty (set_after h s c))
      (λ k. absurd (true_false (empty_along h (set_after h s c) w k) e))
      (λ k. reached_on (set_after h s c) w (reachable_after s c d (o c (Memᴰ.head refl)) k) (λ x i. o x (Memᴰ.tail i)) e)

  pub reachable_all : (s : PlaceSet) → Reachable n h s → Memᴰ s (reachable_sets n h)
  reachable_all s r =
      rw r.leads at (reached_on first_set r.text reachable_first r.over (rw r.leads r.not_empty))
