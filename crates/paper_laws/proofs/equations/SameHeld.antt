-- What a field that doesn't stand may hold changes nothing of a search (request K13): of two questions with the same sides and characters, in which
-- each field that stands may hold the same, the searches are the same.
--   search_same, texts_same : of any place sets by what each field may hold
--   searched_same : searched p room ≡ searched q room
--   answered_same : answered p n x work answer ≡ answered q n x work answer
-- Follows from the children of a situation being the same, whose fields all stand in the question (`Mapped`).
use Prim.Native.Nat.{ℕ}
use mathlib.Core.Path.{◌≡◌, refl, sym, ap, ap₂, ◌∙◌}
use mathlib.Core.Bool.{Bool, true, false, not, ◌&&◌, ◌||◌}
use mathlib.Core.List.{List, [], ◌∷◌, ◌++◌, map, reverse, Memᴰ}
use lib.Dec.{eqb}
use lib.ListN.{get_or, set}
use Rattle.paper.specs.Lists.{upto, any, only, keep, each}
use Rattle.paper.specs.Numbers.{set_fields, longest_side}
use Rattle.paper.specs.Pattern.{Held, some_text}
use Rattle.paper.specs.Places.{PlaceSet}
use Rattle.paper.specs.Places as Places
use Rattle.paper.specs.Search.{Child, long, child, Entry, End, found, used_up, no_room, too_long, State, going, ended, search}
use Rattle.paper.specs.Equation.{chr, fld, Side, is_field, stands_in}
use Rattle.paper.specs.Situation.{Acceptor, Situation, Kind, is_finished, is_dead, is_open, Move, strike_left, strike_right, put, front_field, front_fields, same_situation, finished, trimmed, kind, strike, strike_all, put_before, put_before_all, moved, front_may_end, front_takes, open_moves, moves_of, side_above, kept, child_by, children, question}
use Rattle.paper.specs.Way.{search_from, given, text_along, texts_of}
use Rattle.paper.specs.Question.{Question, held_by, acceptor}
use Rattle.paper.specs.Outcome.{searched, standing, value_record, records, clash, answered}
use Rattle.paper.proofs.base.Tests.{by_bool, true_false, left_true, right_true, eqb_same, eqb_true}
use Rattle.paper.proofs.base.Lists.{any_append, cons_eq}
use Rattle.paper_laws.proofs.search.Mapped.{code_child, code_entry, code_end, code_state, Simulates, search_mapped}
use Rattle.paper_laws.proofs.equations.Standing.{stands, stands_trimmed, struck_stands, strike_stands, put_stands}
use Rattle.paper_laws.proofs.equations.Moves.{child_made}
use Rattle.paper.proofs.base.Listed.{each_same, keep_same}

-- Place sets by what each field may hold, over n characters: 01's, or a search's over some of the characters alone.
module _ (after : Held → PlaceSet → ℕ → PlaceSet) (n : ℕ) where
  abbrev pub acceptor_by : (ℕ → Held) → Acceptor PlaceSet
  acceptor_by held =
      record {
        characters = n;
        fields = set_fields;
        first_set = λ (f : ℕ). Places.first_set;
        set_after = λ (f : ℕ). after (held f);
        may_end = λ (f : ℕ). Places.may_end (held f);
        is_empty = Places.is_empty;
        same_set = Places.same_set;
        gone = [];
      }

-- Two that agree on the fields which stand in these sides.
module _ (after : Held → PlaceSet → ℕ → PlaceSet) (n : ℕ) (its_left its_right : Side) (a b : ℕ → Held)
    (agree : (f : ℕ) → stands_in f (its_left ++ its_right) ≡ true → a f ≡ b f) where
  abbrev A : Acceptor PlaceSet
  A = acceptor_by after n a

  abbrev B : Acceptor PlaceSet
  B = acceptor_by after n b

  abbrev Stands : ℕ → Type 0
  Stands f = stands_in f (its_left ++ its_right) ≡ true

  -- every field of the situation stands in the question
  abbrev Good : Situation PlaceSet → Type 0
  Good s = (f : ℕ) → stands_in f (s.left ++ s.right) ≡ true → Stands f

  abbrev AllStand : List ℕ → Type 0
  AllStand [] = Unit {0}
  AllStand (f ∷ fs) = Stands f × AllStand fs

  front_in : (side : Side) → ((f : ℕ) → stands_in f side ≡ true → Stands f) → AllStand (front_field side)
  front_in [] h = tt
  front_in (chr a ∷ side) h = tt
  front_in (fld f ∷ side) h = (h f (left_true (eqb f f) (stands_in f side) (eqb_same f)), tt)

  all_append : (k l : List ℕ) → AllStand k → AllStand l → AllStand (k ++ l)
  all_append [] l h i = i
  all_append (f ∷ k) l h i = (h.0, all_append k l h.1 i)

  all_keep : (t : ℕ → Bool) (l : List ℕ) → AllStand l → AllStand (keep t l)
  all_keep t [] h = tt
  all_keep t (f ∷ l) h = all_append (only (t f) f) (keep t l) (by_bool (t f) (λ e. rw e (h.0, tt)) (λ e. rw e tt)) (all_keep t l h.1)

  module _ (s : Situation PlaceSet) (g : Good s) where
    left_in : AllStand (front_field s.left)
    left_in = front_in s.left (λ f e. g f (any_append (is_field f) s.left s.right ∙ left_true (stands_in f s.left) (stands_in f s.right) e))

    right_in : AllStand (front_field s.right)
    right_in = front_in s.right (λ f e. g f (any_append (is_field f) s.left s.right ∙ right_true (stands_in f s.left) (stands_in f s.right) e))

  may_end_same : (s : Situation PlaceSet) (fs : List ℕ) → AllStand fs → front_may_end A s fs ≡ front_may_end B s fs
  may_end_same s [] h = refl
  may_end_same s (f ∷ fs) h = ap₂ ◌||◌ (ap (λ (x : Held). Places.may_end x (get_or s.sets f [])) (agree f h.0)) (may_end_same s fs h.1)

  takes_same : (s : Situation PlaceSet) (c : ℕ) (side : Side) → AllStand (front_field side) → front_takes A s c side ≡ front_takes B s c side
  takes_same s c [] h = refl
  takes_same s c (chr a ∷ side) h = refl
  takes_same s c (fld f ∷ side) h = ap (λ (x : Held). not (Places.is_empty (after x (get_or s.sets f []) c))) (agree f h.0)

  put_same : (c : ℕ) (fs : List ℕ) (s : Situation PlaceSet) → AllStand fs → put_before_all A c fs s ≡ put_before_all B c fs s
  unfolding put_before
  put_same c [] s h = refl
  put_same c (f ∷ fs) s h =
      put_same c fs (put_before A c f s) h.1
      ∙ ap (λ (x : Held). put_before_all B c fs (record { left = (put_before A c f s).left; right = (put_before A c f s).right; sets = set s.sets f (after x (get_or s.sets f []) c) })) (agree f h.0)

  module _ (s : Situation PlaceSet) (g : Good s) where
    abbrev others : List ℕ
    others = keep (λ (h : ℕ). not (any (eqb h) (front_field s.left))) (front_field s.right)

    fronts_in : AllStand (front_fields s.left s.right)
    fronts_in = all_append (front_field s.left) others (left_in s g) (all_keep _ (front_field s.right) (right_in s g))

    open_same : open_moves A s ≡ open_moves B s
    unfolding open_moves
    open_same =
        ap₂ ◌++◌ (ap (λ (b : Bool). only b strike_left) (may_end_same s (front_field s.left) (left_in s g)))
        (ap₂ ◌++◌ (ap (λ (b : Bool). only b strike_right) (may_end_same s others (all_keep _ (front_field s.right) (right_in s g))))
        (ap (map put)
        (keep_same (λ (c : ℕ). front_takes A s c s.left && front_takes A s c s.right)
        (λ (c : ℕ). front_takes B s c s.left && front_takes B s c s.right) (upto n)
        (λ c d. ap₂ ◌&&◌ (takes_same s c s.left (left_in s g)) (takes_same s c s.right (right_in s g))))))

    moves_same : (k : Kind) → moves_of A k s ≡ moves_of B k s
    moves_same is_finished = refl
    moves_same is_dead = refl
    moves_same is_open = open_same

    struck_same : (fs : List ℕ) (t : Situation PlaceSet) → strike_all A fs t ≡ strike_all B fs t
    unfolding strike
    struck_same [] t = refl
    struck_same (f ∷ fs) t = struck_same fs (strike B f t)

    moved_same : (m : Move) → moved A s m ≡ moved B s m
    moved_same strike_left = struck_same (front_field s.left) s
    moved_same strike_right = struck_same (front_field s.right) s
    moved_same (put c) = put_same c (front_fields s.left s.right) s fronts_in

    by_same : (m : Move) → child_by A longest_side s m ≡ child_by B longest_side s m
    unfolding child_by trimmed
    by_same m =
        ap (λ (t : Situation PlaceSet).
        kept B (kind B (trimmed B t)) (side_above B longest_side (trimmed B t)) m (trimmed B t)) (moved_same m)

    children_same : children A longest_side s ≡ children B longest_side s
    unfolding children
    children_same =
        each_same (child_by A longest_side s) (child_by B longest_side s) (moves_of A (kind A s) s) (λ m _. by_same m)
        ∙ ap (each (child_by B longest_side s)) (moves_same (kind A s))

  -- what a move makes has no field that didn't stand
  struck_stood : (A : Acceptor PlaceSet) (g : ℕ) (fs : List ℕ) (t : Situation PlaceSet) → stands g (strike_all A fs t) ≡ true → stands g t ≡ true
  struck_stood A g [] t e = e
  struck_stood A g (f ∷ fs) t e =
      let h = struck_stood A g fs (strike A f t) e in
      by_bool (eqb g f)
      (λ (k : eqb g f ≡ true). absurd (true_false (rw (eqb_true g f k) at h) (struck_stands A f t)))
      (λ (k : eqb g f ≡ false). sym (strike_stands A g f t k) ∙ h)

  put_stood : (A : Acceptor PlaceSet) (g c : ℕ) (fs : List ℕ) (t : Situation PlaceSet) → stands g (put_before_all A c fs t) ≡ true → stands g t ≡ true
  put_stood A g c [] t e = e
  put_stood A g c (f ∷ fs) t e = sym (put_stands A g c f t) ∙ put_stood A g c fs (put_before A c f t) e

  moved_stood : (A : Acceptor PlaceSet) (g : ℕ) (s : Situation PlaceSet) (m : Move) → stands g (moved A s m) ≡ true → stands g s ≡ true
  moved_stood A g s strike_left e = struck_stood A g (front_field s.left) s e
  moved_stood A g s strike_right e = struck_stood A g (front_field s.right) s e
  moved_stood A g s (put c) e = put_stood A g c (front_fields s.left s.right) s e

  child_good : (s : Situation PlaceSet) (m : Move) (t : Situation PlaceSet) → Good s
      → Memᴰ (child m t) (children A longest_side s) → Good t
  child_good s m t g d f e =
      let made = (child_made A longest_side s d).1 in
      g f (moved_stood A f s m (sym (stands_trimmed A f (moved A s m)) ∙ (rw made at e)))

  first_good : Good (question A its_left its_right)
  unfolding question
  first_good f e = sym (stands_trimmed A f _) ∙ e

  -- nothing is taken over, and all stays
  way_same : (way : List Move) → map (λ (m : Move). m) way ≡ way
  way_same [] = refl
  way_same (m ∷ way) = cons_eq refl (way_same way)

  abbrev same_entry : Entry (Situation PlaceSet) Move → Entry (Situation PlaceSet) Move
  same_entry = code_entry (λ (s : Situation PlaceSet). s) (λ (m : Move). m)

  entry_same : (e : Entry (Situation PlaceSet) Move) → same_entry e ≡ e
  entry_same e = λ i. record { at = e.at; way = way_same e.way i }

  entries_same : (l : List (Entry (Situation PlaceSet) Move)) → map same_entry l ≡ l
  entries_same [] = refl
  entries_same (e ∷ l) = cons_eq (entry_same e) (entries_same l)

  end_same : (x : End (Situation PlaceSet) Move) → code_end (λ (s : Situation PlaceSet). s) (λ (m : Move). m) x ≡ x
  end_same (found e) = ap found (entry_same e)
  end_same used_up = refl
  end_same no_room = refl
  end_same too_long = refl

  state_same : (st : State (Situation PlaceSet) Move) → code_state (λ (s : Situation PlaceSet). s) (λ (m : Move). m) st ≡ st
  state_same (going t w) = ap₂ going (entries_same t) (entries_same w)
  state_same (ended x l) = ap₂ ended (end_same x) (entries_same l)

  child_same : (cs : List (Child (Situation PlaceSet) Move)) → map (code_child (λ (s : Situation PlaceSet). s) (λ (m : Move). m)) cs ≡ cs
  child_same [] = refl
  child_same (long ∷ cs) = cons_eq refl (child_same cs)
  child_same (child m t ∷ cs) = cons_eq refl (child_same cs)

  likewise :
      Simulates (λ (s : Situation PlaceSet). s) (λ (m : Move). m)
      (same_situation A) (finished A) (children A longest_side)
      (same_situation B) (finished B) (children B longest_side) Good
  likewise =
      record {
        same_alike = λ s t g h. refl;
        finished_alike = λ s g. refl;
        children_alike = λ s g. sym (children_same s g) ∙ sym (child_same (children A longest_side s));
        child_good = child_good;
      }

  pub search_same : (room : ℕ) → search_from B longest_side room its_left its_right ≡ search_from A longest_side room its_left its_right
  unfolding search_from question trimmed
  search_same room = search_mapped likewise room (question A its_left its_right) first_good ∙ state_same _

  -- the texts along a way are the same
  next_same : (t : Situation PlaceSet) → Good t → (m : Move) → trimmed A (moved A t m) ≡ trimmed B (moved B t m)
  unfolding trimmed
  next_same t h m = ap (trimmed B) (moved_same t h m)

  given_same : (h : ℕ) (t : Situation PlaceSet) (m : Move) → given A h t m ≡ given B h t m
  given_same h t strike_left = refl
  given_same h t strike_right = refl
  given_same h t (put c) = refl

  text_same : (f : ℕ) (s : Situation PlaceSet) (ms : List Move) → Good s → text_along A f s ms ≡ text_along B f s ms
  text_same f s [] g = refl
  text_same f s (m ∷ ms) g =
      ap₂ ◌++◌ (given_same f s m)
      (text_same f (trimmed A (moved A s m)) ms
      (λ h e. g h (moved_stood A h s m (sym (stands_trimmed A h (moved A s m)) ∙ e)))
      ∙ ap (λ (t : Situation PlaceSet). text_along B f t ms) (next_same s g m))

  first_same : question A its_left its_right ≡ question B its_left its_right
  unfolding question trimmed
  first_same = refl

  pub texts_same : (e : Entry (Situation PlaceSet) Move) (f : ℕ) → texts_of A its_left its_right e f ≡ texts_of B its_left its_right e f
  unfolding texts_of
  texts_same e f =
      text_same f (question A its_left its_right) (reverse e.way) first_good
      ∙ ap (λ (s : Situation PlaceSet). text_along B f s (reverse e.way)) first_same

-- The same question, with other patterns.
abbrev pub with_held : Question → List Held → Question
with_held q held = record { alphabet = q.alphabet; left = q.left; right = q.right; held = held }

module _ (q : Question) (held : List Held)
    (agree : (f : ℕ) → stands_in f (q.left ++ q.right) ≡ true → held_by q f ≡ get_or held f some_text) where
  abbrev p : Question
  p = with_held q held

  pub searched_same : (room : ℕ) → searched p room ≡ searched q room
  unfolding searched acceptor
  searched_same = search_same Places.set_after q.alphabet.characters q.left q.right (held_by q) (held_by p) agree

  records_same : (e : Entry (Situation PlaceSet) Move) → records q e ≡ records p e
  unfolding records standing acceptor
  records_same e =
      each_same (λ (f : ℕ). value_record f (texts_of (acceptor q) q.left q.right e f)) (λ (f : ℕ). value_record f (texts_of (acceptor p) q.left q.right e f))
      (standing q)
      (λ f _. ap (value_record f) (texts_same Places.set_after q.alphabet.characters q.left q.right (held_by q) (held_by p) agree e f))

  pub answered_same : (n : ℕ) (x : End (Situation PlaceSet) Move) (work answer : List ℕ) → answered p n x work answer ≡ answered q n x work answer
  unfolding clash
  answered_same n (found e) work answer = rw (← records_same e)
  answered_same n used_up work answer = refl
  answered_same n no_room work answer = refl
  answered_same n too_long work answer = refl
