-- Ways by the codes of their moves: a way of moves that the search makes is known by their codes, and what a way spells grows by what
-- its last move gives in the situation before it.
-- Follows from the codes of moves being different, and from a child being what its move makes.
use Prim.Native.Nat.{ℕ, ◌+◌, ◌≤◌, ◌<◌}
use native.Mathlib.Omega.{arith}
use mathlib.Core.Path.{◌≡◌, refl, sym, ap, ◌∙◌}
use mathlib.Core.Bool.{Bool}
use mathlib.Core.List.{List, [], ◌∷◌, ◌++◌, map, reverse, reverse-cons, append-nil, append_assoc}
use Rattle.paper.specs.Numbers.{most_characters, set_fields, longest_side}
use Rattle.paper.specs.Places.{PlaceSet}
use Rattle.paper.specs.Leads.{Leads, start, step}
use Rattle.paper.specs.Situation.{Acceptor, Situation, Move, strike_left, strike_right, put, trimmed, moved, children}
use Rattle.paper.specs.Question.{Question}
use Rattle.paper_chosen.specs.Chosen.{acceptor_over}
use Rattle.paper.specs.Way.{given, text_along}
use Rattle.paper.proofs.base.Tests.{lt_ltb, eqb_symmetric}
use Rattle.paper.proofs.base.Lists.{cons_eq}
use Rattle.paper_laws.proofs.equations.Moves.{Opened, strikes_left, strikes_right, puts, move_opened, child_made}
use Rattle.base_codes.specs.Inner.{field_code, side_code, move_code, front}
use Rattle.search_children.specs.Children.{given_coded}
use Rattle.search_children.specs.Coding.{situation_code}
use Rattle.search_children.proofs.CodedSides.{front_member}
use Rattle.search_children.proofs.CodedSets.{Codable}

-- a move that a search makes
abbrev pub KnownMove : Move → Type 0
KnownMove strike_left = Unit {0}
KnownMove strike_right = Unit {0}
KnownMove (put c) = c < most_characters

abbrev pub KnownWay : List Move → Type 0
KnownWay [] = Unit {0}
KnownWay (m ∷ way) = KnownMove m × KnownWay way

move_equal : (m n : Move) → KnownMove m → KnownMove n → move_code m ≡ move_code n → m ≡ n
move_equal strike_left strike_left h k e = refl
move_equal strike_left strike_right h k e = absurd (omega arith)
move_equal strike_left (put c) h k e = absurd (omega arith)
move_equal strike_right strike_left h k e = absurd (omega arith)
move_equal strike_right strike_right h k e = refl
move_equal strike_right (put c) h k e = absurd (omega arith)
move_equal (put c) strike_left h k e = absurd (omega arith)
move_equal (put c) strike_right h k e = absurd (omega arith)
move_equal (put c) (put d) h k e = ap put e

way_equal : (v w : List Move) → KnownWay v → KnownWay w → map move_code v ≡ map move_code w → v ≡ w
way_equal [] [] h k e = refl
way_equal [] (n ∷ w) h k e = absurd (let z : ◌≡◌ {A = ℕ} 0 1 = cc in omega arith)
way_equal (m ∷ v) [] h k e = absurd (let z : ◌≡◌ {A = ℕ} 0 1 = cc in omega arith)
way_equal (m ∷ v) (n ∷ w) h k e = cons_eq (move_equal m n h.0 k.0 (cc)) (way_equal v w h.1 k.1 (cc))

-- a way by its last step and the way before
pub record LastStep (way : List Move) (c : ℕ) (before : List Move) : Type 0 where
  pub move : Move
  pub known : KnownMove move
  pub code : move_code move ≡ c
  pub is : way ≡ move ∷ before

pub way_last : (way : List Move) (c : ℕ) (before : List Move) → KnownWay way → KnownWay before
    → map move_code way ≡ c ∷ map move_code before → LastStep way c before
way_last [] c before h k e = absurd (let z : ◌≡◌ {A = ℕ} 0 1 = cc in omega arith)
way_last (m ∷ way) c before h k e = record { move = m; known = h.0; code = cc; is = cons_eq refl (way_equal way before h.1 k (cc)) }

module _ (among : ℕ → Bool) (q : Question) (most : q.alphabet.characters ≤ most_characters) where
  opened_known : {m : Move} (s : Situation PlaceSet) → Opened (acceptor_over among q) s m → KnownMove m
  unfolding acceptor_over
  opened_known s (strikes_left e) = tt
  opened_known s (strikes_right e) = tt
  opened_known s (puts {c = c} h l r) = omega arith

  -- the moves that lead somewhere are known
  pub way_known : {s t : Situation PlaceSet} {way : List Move} → Leads (children (acceptor_over among q) longest_side) s way t → KnownWay way
  way_known start = tt
  way_known (step {t = t} w d) =
      let (i, e) = child_made (acceptor_over among q) longest_side t d in (opened_known t (move_opened (acceptor_over among q) t i), way_known w)

-- the texts that a way spells, from its end
module _ {P : Type 0} (A : Acceptor P) where
  -- the situation after moves, each trimmed
  abbrev after : Situation P → List Move → Situation P
  after s [] = s
  after s (m ∷ ms) = after (trimmed A (moved A s m)) ms

  after_snoc : (s : Situation P) (ms : List Move) (m : Move) → after s (ms ++ (m ∷ [])) ≡ trimmed A (moved A (after s ms) m)
  after_snoc s [] m = refl
  after_snoc s (n ∷ ms) m = after_snoc (trimmed A (moved A s n)) ms m

  text_snoc : (f : ℕ) (s : Situation P) (ms : List Move) (m : Move)
      → text_along A f s (ms ++ (m ∷ [])) ≡ text_along A f s ms ++ given A f (after s ms) m
  text_snoc f s [] m = append-nil (given A f s m)
  text_snoc f s (n ∷ ms) m =
      ap (λ (w : List ℕ). given A f s n ++ w) (text_snoc f (trimmed A (moved A s n)) ms m)
      ∙ sym (append_assoc (given A f s n) (text_along A f (trimmed A (moved A s n)) ms) (given A f (after (trimmed A (moved A s n)) ms) m))

  leads_after : (limit : ℕ) {s t : Situation P} {way : List Move} → Leads (children A limit) s way t → after s (reverse way) ≡ t
  leads_after limit start = refl
  leads_after limit {s} (step {way = way} {t = t} {m = m} w d) =
      rw (reverse-cons m way, after_snoc s (reverse way) m, leads_after limit w) (sym (child_made A limit t d).1)

  -- the last move gives its character in the situation before it
  pub text_last : (f limit : ℕ) {s t : Situation P} {way : List Move} (m : Move) → Leads (children A limit) s way t
      → text_along A f s (reverse (m ∷ way)) ≡ text_along A f s (reverse way) ++ given A f t m
  text_last f limit {s} {way = way} m w = rw (reverse-cons m way, text_snoc f s (reverse way) m, leads_after limit w)

-- what a move gives a field, by its code
pub given_agrees : (among : ℕ → Bool) (q : Question) (f : ℕ) (s : Situation PlaceSet) (m : Move) → f < set_fields → Codable s → KnownMove m
    → given_coded f (situation_code s) (move_code m) ≡ given (acceptor_over among q) f s m
unfolding given_coded
given_agrees among q f s strike_left b g h = refl
given_agrees among q f s strike_right b g h = refl
given_agrees among q f s (put c) b g h =
    let x = front (side_code s.left) in
    let y = front (side_code s.right) in
    let fronts = front_member f s.left s.right b g.left g.right in
    rw (lt_ltb c most_characters h, fronts, eqb_symmetric x (field_code + f), eqb_symmetric y (field_code + f))
