-- The search of a question in the room of a working buffer: the laws of the search, of the clash and of no clash, at 01's place sets.
-- Follows from `Searched`, `Sound` and `Complete`, since the place sets decide what the fields may hold, and from the children being 01's.
use Prim.Native.Nat.{ℕ, ◌≤◌, ◌<◌}
use mathlib.Core.Path.{◌≡◌, refl, ap}
use mathlib.Core.Logic.{◌⊎◌, ⊎_map}
use mathlib.Core.Bool.{true, false}
use mathlib.Core.List.{List, [], ◌∷◌, ◌++◌, Memᴰ}
use lib.Dec.{eqb}
use lib.ListN.{length, length-map}
use Rattle.paper.specs.Numbers.{set_fields, longest_side}
use Rattle.paper.proofs.base.Tests.{cond_by}
use Rattle.paper.proofs.base.Lists.{mem_map, map_mem}
use Rattle.paper.specs.Places.{PlaceSet}
use Rattle.paper.specs.Search.{Entry, found, used_up, no_room, too_long, entries}
use Rattle.paper.specs.Leads.{situations}
use Rattle.paper_laws.proofs.search.Searched
use Rattle.paper_laws.proofs.search.Ended.{ChildLeftOut}
use Rattle.paper.specs.Equation.{chr, fld, Side, Texts, stands_in}
use Rattle.paper.specs.Pattern.{Holds}
use Rattle.paper.specs.Situation.{Acceptor, Situation, Sides, trim, Move, trimmed, moved, same_situation, children, question}
use Rattle.paper.specs.Children.{ChildOf}
use Rattle.paper.specs.Decides.{Decides}
use Rattle.paper.specs.Way.{search_from, texts_of}
use Rattle.paper.specs.Question.{Question, held_by, Equated, acceptor}
use Rattle.paper.specs.Outcome.{room_of, searched, count_of, how_of}
use Rattle.paper.specs.Demands.{entered, equal_characters_in_front, LeftOut}
use Rattle.paper_laws.proofs.places.Accepts.{question_decides}
use Rattle.paper_laws.proofs.equations.Same.{situation_equal, situation_same}
use Rattle.paper_laws.proofs.equations.Sound.{sound}
use Rattle.paper_laws.proofs.equations.Complete.{complete}
use Rattle.paper_laws.proofs.equations.Children.{child_of, long_of}

-- After trimming no two equal characters are in front.
trim_fronts : (l r : Side) → equal_characters_in_front (trim l r).l (trim l r).r ≡ false
trim_fronts [] r = refl
trim_fronts (fld f ∷ l) r = refl
trim_fronts (chr a ∷ l) [] = refl
trim_fronts (chr a ∷ l) (fld g ∷ r) = refl
trim_fronts (chr a ∷ l) (chr b ∷ r) =
    cond_by (λ (t : Sides). equal_characters_in_front t.l t.r ≡ false) (eqb a b) (λ _. trim_fronts l r) (λ n. n)

trimmed_fronts : {P : Type 0} (A : Acceptor P) (s : Situation P) → equal_characters_in_front (trimmed A s).left (trimmed A s).right ≡ false
unfolding trimmed
trimmed_fronts A s = trim_fronts s.left s.right

module _ (q : Question) where
  decides : Decides (acceptor q) (λ (f : ℕ). Holds (held_by q f))
  decides = question_decides q

  pub equal : (s t : Situation PlaceSet) → same_situation (acceptor q) s t ≡ true → s ≡ t
  equal = situation_equal (acceptor q) decides.same_equal

  pub same : (s : Situation PlaceSet) → same_situation (acceptor q) s s ≡ true
  same = situation_same (acceptor q) decides.equal_same

  -- the trimmed question
  abbrev first : Situation PlaceSet
  first = question (acceptor q) q.left q.right

  -- The texts of the entry found solve the word equation of the question.
  pub found_solves : (room : ℕ) (e : Entry (Situation PlaceSet) Move) → how_of (searched q room) ≡ found e
      → Equated q (texts_of (acceptor q) q.left q.right e)
  unfolding how_of searched acceptor
  found_solves room e h = sound (acceptor q) decides longest_side room q.left q.right e h

  -- Where all are used up, no texts solve its word equation, if its fields have place sets.
  pub used_up_unsolved : (room : ℕ) → ((f : ℕ) → stands_in f (q.left ++ q.right) ≡ true → f < set_fields)
      → how_of (searched q room) ≡ used_up → (texts : Texts) → Equated q texts → ⊥
  unfolding how_of searched acceptor
  used_up_unsolved room known h = complete (acceptor q) decides longest_side room q.left q.right known h

  module _ (work : List ℕ) where
    -- the entries, of which `entered` has the situations
    abbrev all : List (Entry (Situation PlaceSet) Move)
    all =
        entries (searched q (room_of work))

    abbrev at : Entry (Situation PlaceSet) Move → Situation PlaceSet
    at e = e.at

    -- "The count equals the number of situations entered", and is never above the room.
    pub count_entered : count_of (searched q (room_of work)) ≡ length (entered q work)
    unfolding count_of
    count_entered = rw (length-map all at)

    pub count_in_room : count_of (searched q (room_of work)) ≤ room_of work
    unfolding count_of searched search_from
    count_in_room = Searched.count_at_most_room _ _ _ equal same (room_of work) first

    -- "The trimmed question is entered first, dead or not."
    pub first_entered : 0 < room_of work → (later : List (Situation PlaceSet)) × (entered q work ≡ first ∷ later)
    unfolding searched search_from
    first_entered h =
        let (l, e) = Searched.first_entered _ _ _ equal same (room_of work) first h in (situations l, ap situations e)

    -- What holds of the trimmed question, and of every child of a situation of which it holds, holds of every situation entered.
    pub every_entered : (W : Situation PlaceSet → Type 0) → W first
        → ((s : Situation PlaceSet) (m : Move) (t : Situation PlaceSet) → W s → ChildOf (acceptor q) s m t → W t)
        → (s : Situation PlaceSet) → Memᴰ s (entered q work) → W s
    unfolding searched search_from
    every_entered W h on s d =
        let (e, i, p) = mem_map at all d in
        rw p
        (Searched.every_entry _ _ _ equal same (room_of work) first W h
        (λ t m u w k. on t m u w (child_of (acceptor q) longest_side t k)) e i)

    -- "Trimming drops equal characters from both fronts while there are any."
    pub entered_trimmed : (s : Situation PlaceSet) → Memᴰ s (entered q work) → equal_characters_in_front s.left s.right ≡ false
    unfolding question
    entered_trimmed =
        every_entered (λ (s : Situation PlaceSet). equal_characters_in_front s.left s.right ≡ false)
        (trimmed_fronts (acceptor q) _)
        (λ s m t h c. rw c.makes (trimmed_fronts (acceptor q) (moved (acceptor q) s m)))

    -- "no room gives 18"
    pub no_room_left : how_of (searched q (room_of work)) ≡ no_room
        → (count_of (searched q (room_of work)) ≡ room_of work) × ((room_of work ≡ 0) ⊎ LeftOut q work)
    unfolding how_of count_of searched search_from
    no_room_left h =
        let (full, out) = Searched.no_room_full _ _ _ equal same (room_of work) first h in (full, ⊎_map (λ z. z) left_out out)
      where
        left_out : ChildLeftOut (children (acceptor q) longest_side) all → LeftOut q work
        left_out (p, m, s, i, c, n) =
            record {
              parent = p.at;
              move = m;
              left_out = s;
              parent_entered = map_mem at i;
              is_child = child_of (acceptor q) longest_side p.at c;
              not_entered = n;
            }

    -- "a side above 48 tokens gives 19"
    pub too_long_left : how_of (searched q (room_of work)) ≡ too_long
        → (s : Situation PlaceSet) × (m : Move) × (t : Situation PlaceSet)
        × Memᴰ s (entered q work)
        × ChildOf (acceptor q) s m t
        × ((longest_side < length t.left) ⊎ (longest_side < length t.right))
    unfolding how_of searched search_from
    too_long_left h =
        let (p, i, c) = Searched.too_long_child _ _ _ equal same (room_of work) first h in
        let (m, t, k, above) = long_of (acceptor q) longest_side p.at c in
        (p.at, m, t, map_mem at i, k, above)
