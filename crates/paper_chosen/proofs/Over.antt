-- The search of a question over some of its characters alone: what its end says, its count and its texts. `among` is any test of characters.
--   over_decides   : its place sets decide the texts that a field may hold and that have no other character
--   found_over     : the texts that it finds solve the word equation of the whole question
--   used_up_over   : where it uses all up, no texts of these characters solve it
--   count_over     : the count is within the room
--   ways_over, short_over : no way is longer than the room allows, so no text is above `longest_text`
--   plain_count_over, plain_enough_over : of a plain question the count is bounded, and with that room it is never 18 or 19
--   searched_every : over every character it is 01's search
-- Follows from the laws over any acceptor (`Sound`, `Complete`, `Searched`, `Plain`), since these place sets are 01's after characters
-- that pass the test, and empty after any other.
use Prim.Native.Nat.{ℕ, ◌≤◌, ◌<◌}
use mathlib.Core.Path.{◌≡◌, refl, sym, subst}
use mathlib.Core.Bool.{Bool, true, false}
use mathlib.Core.List.{List, [], ◌∷◌, ◌++◌, Memᴰ}
use lib.ListN.{length}
use Rattle.paper.specs.Lists.{all}
use Rattle.paper.specs.Numbers.{set_fields, longest_side, most_room, longest_text}
use Rattle.paper.specs.Pattern.{Holds}
use Rattle.paper.specs.Places as Places
use Rattle.paper.specs.Places.{PlaceSet, reachable_sets}
use Rattle.paper.specs.Search.{Entry, found, used_up, no_room, too_long}
use Rattle.paper.specs.Equation.{Texts, stands_in, Solves}
use Rattle.paper.specs.Situation.{Situation, Move, same_situation, question}
use Rattle.paper.specs.Decides.{Decides, accepted_along}
use Rattle.paper.specs.Way.{search_from, texts_of}
use Rattle.paper.specs.ShortWays.{ShortWays}
use Rattle.paper.specs.Plain.{plain, plain_bound, Reaches}
use Rattle.paper.specs.Question.{Question, held_by, Equated, acceptor}
use Rattle.paper.specs.Outcome.{searched, count_of, how_of}
use Rattle.paper.proofs.base.Tests.{by_bool, cond_true, cond_false, true_false, and_left, and_right, both_true}
use Rattle.paper_laws.proofs.search.Searched
use Rattle.paper_laws.proofs.places.PlacesDecide.{only_held, all_held}
use Rattle.paper_laws.proofs.places.PlaceSets.{empty_ends, empty_after, same_equal, equal_same}
use Rattle.paper_laws.proofs.places.Reachable.{reachable_first, reachable_after}
use Rattle.paper_laws.proofs.equations.Same.{situation_equal, situation_same}
use Rattle.paper_laws.proofs.equations.Sound.{sound}
use Rattle.paper_laws.proofs.equations.Complete.{complete}
use Rattle.paper_laws.proofs.plain.Plain as Any
use Rattle.paper_laws.proofs.sheets.TextLength.{short_ways, found_way}
use Rattle.paper_chosen.specs.Chosen.{every, acceptor_over, searched_over}
use Rattle.paper_chosen.proofs.Likewise.{same_texts}

-- Over every character it is 01's search.
pub searched_every : (q : Question) (room : ℕ) → searched_over every q room ≡ searched q room
unfolding searched_over acceptor_over searched acceptor
searched_every q room = refl

module _ (among : ℕ → Bool) (q : Question) where
  -- the set after a character, and after a text
  abbrev after : ℕ → PlaceSet → ℕ → PlaceSet
  after f s c = (acceptor_over among q).set_after f s c

  abbrev along : ℕ → PlaceSet → List ℕ → PlaceSet
  along f s w = accepted_along (acceptor_over among q) f s w

  -- After a character that passes it is 01's set, and after any other the empty one.
  after_among : (f : ℕ) (s : PlaceSet) (c : ℕ) → among c ≡ true → after f s c ≡ Places.set_after (held_by q f) s c
  unfolding acceptor_over
  after_among f s c p = cond_true (among c) (Places.set_after (held_by q f) s c) [] p

  after_other : (f : ℕ) (s : PlaceSet) (c : ℕ) → among c ≡ false → after f s c ≡ []
  unfolding acceptor_over
  after_other f s c p = cond_false (among c) (Places.set_after (held_by q f) s c) [] p

  after_empty : (f : ℕ) (s : PlaceSet) (c : ℕ) → Places.is_empty s ≡ true → Places.is_empty (after f s c) ≡ true
  after_empty f s c e =
      by_bool (among c) (λ p. rw (after_among f s c p) (empty_after (held_by q f) s c e)) (λ p. rw (after_other f s c p))

  along_empty : (f : ℕ) (s : PlaceSet) (w : List ℕ) → Places.is_empty s ≡ true → Places.is_empty (along f s w) ≡ true
  along_empty f s [] e = e
  along_empty f s (c ∷ w) e = along_empty f (after f s c) w (after_empty f s c e)

  -- Where all characters of a text pass, it leads to 01's set,
  along_among : (f : ℕ) (s : PlaceSet) (w : List ℕ) → all among w ≡ true → along f s w ≡ Places.set_along (held_by q f) s w
  along_among f s [] a = refl
  along_among f s (c ∷ w) a =
      rw (after_among f s c (and_left (among c) (all among w) a))
      (along_among f (Places.set_after (held_by q f) s c) w (and_right (among c) (all among w) a))

  -- and any other text leads to a set that may not end.
  ends_among : (f : ℕ) (s : PlaceSet) (w : List ℕ) → Places.may_end (held_by q f) (along f s w) ≡ true → all among w ≡ true
  ends_among f s [] e = refl
  ends_among f s (c ∷ w) e =
      both_true
      (by_bool (among c) (λ p. p)
      (λ p.
      let gone = along_empty f (after f s c) w (rw (after_other f s c p)) in
      absurd (true_false e (empty_ends (held_by q f) (along f (after f s c) w) gone))))
      (ends_among f (after f s c) w e)

  pub over_decides : Decides (acceptor_over among q) (λ (f : ℕ) (w : List ℕ). Holds (held_by q f) w × (all among w ≡ true))
  unfolding acceptor_over
  over_decides =
      record {
        only_held = λ f w b o e.
            let a = ends_among f Places.first_set w e in
            (only_held (held_by q f) w (rw (along_among f Places.first_set w a) at e), a);
        all_held = λ f w b o k. rw (along_among f Places.first_set w k.1) (all_held (held_by q f) w k.0);
        empty_ends = λ f. empty_ends (held_by q f);
        empty_after = after_empty;
        gone_empty = refl;
        same_equal = same_equal;
        equal_same = equal_same;
      }

  equal : (s t : Situation PlaceSet) → same_situation (acceptor_over among q) s t ≡ true → s ≡ t
  equal = situation_equal (acceptor_over among q) over_decides.same_equal

  same : (s : Situation PlaceSet) → same_situation (acceptor_over among q) s s ≡ true
  same = situation_same (acceptor_over among q) over_decides.equal_same

  -- the trimmed question
  abbrev first : Situation PlaceSet
  first = question (acceptor_over among q) q.left q.right

  -- The texts of a way are those that 01 reads from it.
  pub texts_over : (e : Entry (Situation PlaceSet) Move) (f : ℕ)
      → texts_of (acceptor_over among q) q.left q.right e f ≡ texts_of (acceptor q) q.left q.right e f
  texts_over = same_texts (acceptor_over among q) (acceptor q) q.left q.right

  -- The texts of the entry found solve the word equation of the question.
  pub found_over : (room : ℕ) (e : Entry (Situation PlaceSet) Move) → how_of (searched_over among q room) ≡ found e
      → Equated q (texts_of (acceptor q) q.left q.right e)
  unfolding how_of searched_over acceptor_over
  found_over room e h =
      subst (λ (texts : Texts). Equated q texts) (λ i f. texts_over e f i) of_all
    where
      over_some : Solves q.alphabet.characters (λ (f : ℕ) (w : List ℕ). Holds (held_by q f) w × (all among w ≡ true)) q.left q.right
          (texts_of (acceptor_over among q) q.left q.right e)
      over_some = sound (acceptor_over among q) over_decides longest_side room q.left q.right e h

      of_all : Equated q (texts_of (acceptor_over among q) q.left q.right e)
      of_all = record { same_label = over_some.same_label; over = over_some.over; holds = λ f s. (over_some.holds f s).0 }

  -- Where all are used up, no texts of characters that pass solve its word equation, if its fields have place sets.
  pub used_up_over : (room : ℕ) → ((f : ℕ) → stands_in f (q.left ++ q.right) ≡ true → f < set_fields)
      → how_of (searched_over among q room) ≡ used_up
      → (texts : Texts) → Equated q texts → ((f : ℕ) → stands_in f (q.left ++ q.right) ≡ true → all among (texts f) ≡ true) → ⊥
  unfolding how_of searched_over acceptor_over
  used_up_over room known h texts x only =
      complete (acceptor_over among q) over_decides longest_side room q.left q.right known h texts
      (record { same_label = x.same_label; over = x.over; holds = λ f s. (x.holds f s, only f s) })

  -- The count is never above the room.
  pub count_over : (room : ℕ) → count_of (searched_over among q room) ≤ room
  unfolding count_of searched_over search_from
  count_over room = Searched.count_at_most_room _ _ _ equal same room first

  -- No way has more steps than the room has situations, less one, and no text more characters than its way has steps.
  pub ways_over : (room : ℕ) → ShortWays (acceptor_over among q) longest_side room q.left q.right
  ways_over room = short_ways (acceptor_over among q) q.left q.right equal same longest_side room

  module _ (room : ℕ) (at_most : room ≤ most_room) (e : Entry (Situation PlaceSet) Move) (h : how_of (searched_over among q room) ≡ found e) where
    pub short_over : (f : ℕ) → length (texts_of (acceptor q) q.left q.right e f) ≤ longest_text
    unfolding how_of searched_over
    short_over f =
        let entered = found_way (acceptor_over among q) q.left q.right equal same longest_side room e h in
        rw (sym (texts_over e f)) ((ways_over room).texts at_most e entered f)

  -- The reachable place sets of 01 have all that are reachable over these characters.
  abbrev reach : ℕ → List PlaceSet
  reach f = reachable_sets q.alphabet.characters (held_by q f)

  after_reached : (f : ℕ) (s : PlaceSet) (c : ℕ) → c < q.alphabet.characters → Memᴰ s (reach f) → Places.is_empty (after f s c) ≡ false
      → Memᴰ (after f s c) (reach f)
  after_reached f s c b d e =
      by_bool (among c)
      (λ p. rw (after_among f s c p) (reachable_after q.alphabet.characters (held_by q f) s c d b (rw (after_among f s c p) at e)))
      (λ p. absurd (true_false refl (rw (after_other f s c p) at e)))

  reaches : Reaches (acceptor_over among q) reach
  unfolding acceptor_over
  reaches =
      record {
        first = λ f h. reachable_first q.alphabet.characters (held_by q f);
        after = λ f s c h b d e. after_reached f s c b d e;
      }

  module _ (room : ℕ) (is_plain : plain q.left q.right ≡ true) (known : (f : ℕ) → stands_in f (q.left ++ q.right) ≡ true → f < set_fields) where
    -- "the count is at most (1 + L) times (1 + R)"
    pub plain_count_over : count_of (searched_over among q room) ≤ plain_bound (λ (f : ℕ). reachable_sets q.alphabet.characters (held_by q f)) q.left q.right
    unfolding count_of searched_over acceptor_over
    plain_count_over =
        Any.plain_count (acceptor_over among q) same_equal equal_same reach reaches longest_side room q.left q.right is_plain known

    -- With that much room it ends neither with no room nor with a side too long.
    pub plain_enough_over :
        length q.left ≤ longest_side → length q.right ≤ longest_side
        → plain_bound (λ (f : ℕ). reachable_sets q.alphabet.characters (held_by q f)) q.left q.right ≤ room
        → (how_of (searched_over among q room) ≡ no_room → ⊥) × (how_of (searched_over among q room) ≡ too_long → ⊥)
    unfolding how_of searched_over acceptor_over
    plain_enough_over l r enough = (
      Any.plain_has_room (acceptor_over among q) same_equal equal_same reach reaches longest_side room q.left q.right is_plain known enough,
      Any.plain_not_long (acceptor_over among q) same_equal equal_same reach reaches longest_side room q.left q.right is_plain known l r,
    )
