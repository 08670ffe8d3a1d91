-- The pairs that are reached are the pairs of standings that the first one leads to:
--   meets_meeting, meeting_meets : the ends are reached exactly if two sides meet, each standing apart
--   said_is_clash, clash_said    : so what says whether the question's ends are reached is `clashes_apart`
-- of every question of at most 128 characters whose sides and patterns are good, a good question among them, whether or not a field stands twice. A pair
-- of standings is reached as the pair of their tokens' numbers and places, by induction on the way. The other way, by induction on the pairs reached: a
-- character's token at the place behind its start is shown as the standing behind it, everything else as itself.
use Prim.Native.Nat.{ℕ, suc, ◌+◌, ◌≤◌, ◌<◌}
use native.Mathlib.Omega.{arith}
use mathlib.Core.Path.{◌≡◌, refl, sym, ap, ◌∙◌, subst}
use mathlib.Core.Bool.{Bool, true}
use mathlib.Core.Logic.{⊎_elim}
use mathlib.Core.List.{List, [], ◌∷◌, ◌++◌, map}
use mathlib.Core.List.Memᴰ
use mathlib.Core.List.{Memᴰ}
use lib.ListN.{length, get_or, length-map}
use Rattle.paper.specs.Lists.{upto}
use Rattle.paper.specs.Numbers.{most_characters, set_fields, hidden_left, hidden_right}
use Rattle.paper.specs.Pattern.{Held, some_text, pattern}
use Rattle.paper.specs.Equation.{Token, chr, fld, Side}
use Rattle.paper.specs.Search.{Child, child, long}
use Rattle.paper.specs.Situation.{Move, strike_left, strike_right, put}
use Rattle.paper.specs.Leads.{Leads, start, step}
use Rattle.paper.specs.Question.{Question, held_by, hidden}
use Rattle.paper.proofs.base.Tests.{true_false, same_tests, and_left, and_right, both_true, lt_ltb, le_ltb}
use Rattle.paper.proofs.base.Lists.{mem_cons_by}
use Rattle.paper.proofs.base.Listed.{get_or_map_upto}
use Rattle.paper_laws.proofs.sheets.Asked.{InRange, GoodSide, GoodHeld, GoodQuestion, good_most}
use Rattle.paper_laws.proofs.sheets.Hidden.{Searchable, hidden_searchable}
use Rattle.paper_plain.specs.Standing.{places_of, Standing, begins, Pair, next_pairs, is_read}
use Rattle.paper_plain.specs.Meeting.{Meeting}
use Rattle.paper_plain.specs.Engine.{clashes_apart}
use Rattle.paper_plain.proofs.Pairs.{LeftTo, field_left, ReadTo, character_read, place_read, Steps, leaves_left, leaves_right, read_both, next_steps, steps_next, found_meeting, meeting_found}
use Rattle.base_places.specs.WorkedOut.{worked_out}
use Rattle.base_places.specs.declared.PlaceTables.{PlaceTables}
use Rattle.base_places.proofs.Masks.{Few}
use Rattle.base_codes.specs.Inner.{field_code, no_token, token_code, side_code, field_of}
use Rattle.base_question.specs.Asked.{question_of}
use Rattle.base_question.specs.declared.Body.{Body}
use Rattle.search_hidden.proofs.Codes.{left_hidden, right_hidden, fields_behind}
use Rattle.plain_block.specs.Met.{comes_by, may_be_left}
use Rattle.plain_rows.specs.Fronts.{Front, no_tables, one_place, front_of}
use Rattle.plain_question.specs.Reached.{Reached, begun, left_left, right_left, both_read, Meets, Says}
use Rattle.plain_question.proofs.Tokens.{comes_held, held_comes, held_left, one_comes, comes_one, one_left, left_one, none_comes, none_left}

-- `At side i rest`: behind the first i tokens of the side is the rest.
data At : Side → ℕ → Side → Type 0 where
  here : {side : Side} → At side 0 side
  there : {t : Token} {side rest : Side} {i : ℕ} → At side i rest → At (t ∷ side) (suc i) rest

at_next : {side rest : Side} {t : Token} {i : ℕ} → At side i (t ∷ rest) → At side (suc i) rest
at_next here = there here
at_next (there a) = there (at_next a)

at_length : {side rest : Side} {i : ℕ} → At side i rest → i + length rest ≡ length side
at_length {side} here = omega arith
at_length (there a) = omega (arith, at_length a)

code_at : {side rest : Side} {t : Token} {i : ℕ} → At side i (t ∷ rest) → get_or (side_code side) i no_token ≡ token_code t
code_at here = refl
code_at (there a) = code_at a

code_end : {side : Side} {i : ℕ} → At side i [] → get_or (side_code side) i no_token ≡ no_token
code_end here = refl
code_end (there a) = code_end a

-- a token over n characters, of a field or of a hidden one
abbrev Known : ℕ → Token → Type 0
Known n (chr c) = c < n
Known n (fld f) = f < set_fields

at_known : {n : ℕ} {side rest : Side} {t : Token} {i : ℕ} → At side i (t ∷ rest) → ((u : Token) → Memᴰ u side → Known n u) → Known n t
at_known {t = t} here h = h t (Memᴰ.head refl)
at_known (there a) h = at_known a (λ u d. h u (Memᴰ.tail d))

known_good : (n : ℕ) (t : Token) → InRange n t → Known n t
known_good n (chr c) h = h
known_good n (fld f) h = omega arith

known_with : (n : ℕ) (side : Side) (f : ℕ) → GoodSide n side → f < set_fields → (t : Token) → Memᴰ t (side ++ (fld f ∷ [])) → Known n t
known_with n side f g h t d =
    ⊎_elim (λ i. known_good n t (g.tokens t i))
    (mem_cons_by (Known n) h (λ u i. absurd (Memᴰ.not-nil i)) t)
    (Memᴰ.append_cases side d)

-- the start is one of the places
starts : (h : Held) → 0 < places_of h
starts some_text = omega arith
starts (pattern p) = omega arith

module _ (n : ℕ) (most : n ≤ most_characters) (held : ℕ → Held) (few : (f : ℕ) → Few (held f)) where
  abbrev all_tables : List PlaceTables
  all_tables = map (λ (f : ℕ). worked_out (held f)) (upto set_fields)

  -- the tokens of a side in front
  abbrev pub fronts_of : Side → ℕ → Front
  fronts_of side i = front_of n all_tables (get_or (side_code side) i no_token)

  module _ (side : Side) (known : (t : Token) → Memᴰ t side → Known n t) where
    front_character : {i a : ℕ} {rest : Side} → At side i (chr a ∷ rest) → fronts_of side i ≡ record { of = one_place; lo = a; hi = suc a }
    front_character {a = a} x = let h : a < n = at_known x known in ap (front_of n all_tables) (code_at x) ∙ rw (lt_ltb a field_code (omega arith))

    front_field : {i f : ℕ} {rest : Side} → At side i (fld f ∷ rest) → fronts_of side i ≡ record { of = worked_out (held f); lo = 0; hi = n }
    front_field {f = f} x =
        let h : f < set_fields = at_known {n = n} x known in
        let same : field_of (field_code + f) ≡ f = omega arith in
        ap (front_of n all_tables) (code_at x)
        ∙ rw (le_ltb (field_code + f) field_code (omega arith), same, get_or_map_upto (λ (g : ℕ). worked_out (held g)) no_tables set_fields f h)

    front_end : {i : ℕ} → At side i [] → fronts_of side i ≡ record { of = no_tables; lo = 0; hi = n }
    front_end x = ap (front_of n all_tables) (code_end x)

    -- a standing of the side, with the number of the token in front
    data Stood : ℕ → Standing → Type 0 where
      at_end : {i : ℕ} → At side i [] → Stood i (begins [])
      at_character : {i a : ℕ} {rest : Side} → At side i (chr a ∷ rest) → Stood i (begins (chr a ∷ rest))
      at_field : {i f p : ℕ} {rest : Side} → At side i (fld f ∷ rest) → p < places_of (held f) → Stood i (record { rest = fld f ∷ rest; place = p })

    begins_stood : {i : ℕ} (rest : Side) → At side i rest → Stood i (begins rest)
    begins_stood [] x = at_end x
    begins_stood (chr a ∷ rest) x = at_character x
    begins_stood (fld f ∷ rest) x = at_field x (starts (held f))

    -- From standings to tokens and places.
    record Left (i : ℕ) (s t : Standing) : Type 0 where
      ends : may_be_left (fronts_of side i).of s.place ≡ true
      next : Stood (suc i) t
      starting : t.place ≡ 0

    stood_left : {i : ℕ} {s t : Standing} → Stood i s → LeftTo held s.rest s.place t → Left i s t
    stood_left (at_field {f = f} {p = p} {rest = rest} x h) (field_left e) =
        record { ends = rw (front_field x) (held_left (held f) (few f) p h ∙ e); next = begins_stood rest (at_next x); starting = refl }
    stood_left {i = i} {t = t} (at_end _) x7 = elim x7 [ ]
    stood_left {i = i} {t = t} (at_character {a = a} {rest = rest} _) x8 = elim x8 [ ]

    -- a standing that a place of the token in front leads to: its own, or the one behind it
    data LeadsOn (i q : ℕ) (t : Standing) : Type 0 where
      stays : Stood i t → q ≡ t.place → LeadsOn i q t
      passes : Stood (suc i) t → t.place ≡ 0 → may_be_left (fronts_of side i).of q ≡ true → LeadsOn i q t

    record Read (i c : ℕ) (s t : Standing) : Type 0 where
      place : ℕ
      low : (fronts_of side i).lo ≤ c
      high : c < (fronts_of side i).hi
      comes : comes_by (fronts_of side i).of s.place c place ≡ true
      on : LeadsOn i place t

    stood_read : {i c : ℕ} {s t : Standing} → c < n → Stood i s → ReadTo held c s.rest s.place t → Read i c s t
    stood_read {c = c} k (at_character {a = a} {rest = rest} x) (character_read e) =
        let f = front_character x in
        record {
          place = 1;
          low = rw f (omega arith);
          high = rw f (omega arith);
          comes = rw f (comes_one c (omega arith));
          on = passes (begins_stood rest (at_next x)) refl (rw f left_one);
        }
    stood_read {c = c} k (at_field {f = f} {p = p} x h) (place_read {q = q} b e) =
        let w = front_field x in
        record {
          place = q;
          low = rw w (omega arith);
          high = rw w k;
          comes = rw w (held_comes (held f) (few f) p c q (omega arith) h b e);
          on = stays (at_field x b) refl;
        }
    stood_read {i = i} {c = c} {t = t} k (at_end _) x8 = elim x8 [ ]

    -- From tokens and places to standings: what a place of the token in front is shown as.
    data Shown (i p : ℕ) : Standing → Type 0 where
      itself : {s : Standing} → Stood i s → p ≡ s.place → Shown i p s
      behind : {a : ℕ} {rest : Side} → At side i (chr a ∷ rest) → p ≡ 1 → Shown i p (begins rest)

    data Leaves (i : ℕ) (s : Standing) : Type 0 where
      passed : Shown (suc i) 0 s → Leaves i s
      leaves : {t : Standing} → LeftTo held s.rest s.place t → Shown (suc i) 0 t → Leaves i s

    shown_left : {i p : ℕ} {s : Standing} → Shown i p s → may_be_left (fronts_of side i).of p ≡ true → Leaves i s
    shown_left {p = p} (itself (at_end x) k) e = absurd (none_left p (rw (front_end x) at e))
    shown_left {p = p} (itself (at_character x) k) e = let h = one_left p (rw (front_character x) at e) in absurd (omega arith)
    shown_left (itself (at_field {f = f} {p = p} {rest = rest} x h) k) e =
        leaves (field_left (sym (held_left (held f) (few f) p h) ∙ (rw (front_field x, k) at e))) (itself (begins_stood rest (at_next x)) refl)
    shown_left (behind {rest = rest} x k) e = passed (itself (begins_stood rest (at_next x)) refl)

    record Reads (i q c : ℕ) (s : Standing) : Type 0 where
      to : Standing
      reads : ReadTo held c s.rest s.place to
      shown : Shown i q to
      below : c < n

    shown_read : {i p c q : ℕ} {s : Standing} → Shown i p s → (fronts_of side i).lo ≤ c → c < (fronts_of side i).hi → c < most_characters
        → comes_by (fronts_of side i).of p c q ≡ true → Reads i q c s
    shown_read {p = p} {c = c} {q = q} (itself (at_end x) k) a b h e = absurd (none_comes p c q (rw (front_end x) at e))
    shown_read {p = p} {c = c} {q = q} (itself (at_character {a = d} x) k) a b h e =
        let w = one_comes p c q (rw (front_character x) at e) in
        let low = rw (front_character x) at a in
        let high = rw (front_character x) at b in
        let same : d ≡ c = omega arith in
        let known-here : d < n = at_known x known in
        record { to = _; reads = character_read same; shown = behind x w.1; below = omega arith }
    shown_read {p = p} {c = c} {q = q} (itself (at_field {f = f} x g) k) a b h e =
        let w = comes_held (held f) p c q h (rw (front_field x) at e) in
        record { to = _; reads = place_read w.0 (rw k at w.1); shown = itself (at_field x w.0) refl; below = rw (front_field x) at b }
    shown_read {p = p} {c = c} {q = q} (behind x k) a b h e = let w = one_comes p c q (rw (front_character x) at e) in absurd (omega arith)

  module _ (l r : Side) (left_known : (t : Token) → Memᴰ t l → Known n t) (right_known : (t : Token) → Memᴰ t r → Known n t) where
    abbrev first : Pair
    first = record { left = begins l; right = begins r }

    abbrev next : Pair → List (Child Pair Move)
    next = next_pairs held n

    -- a pair of standings is reached
    record AsReached (x : Pair) : Type 0 where
      i : ℕ
      j : ℕ
      left : Stood l left_known i x.left
      right : Stood r right_known j x.right
      reached : Reached (fronts_of l) (fronts_of r) i x.left.place j x.right.place

    -- no step makes a side too long
    abbrev ChildReached : Child Pair Move → Type 0
    ChildReached long = Unit {0}
    ChildReached (child m y) = AsReached y

    read_on : {i j p q : ℕ} {s t : Standing} → LeadsOn l left_known i p s → LeadsOn r right_known j q t
        → Reached (fronts_of l) (fronts_of r) i p j q → AsReached (record { left = s; right = t })
    read_on {i} {j} (stays a e) (stays b f) d = record { i = i; j = j; left = a; right = b; reached = rw (← e, ← f) d }
    read_on {i} {j} {p} {q} (stays a e) (passes b f h) d =
        record { i = i; j = suc j; left = a; right = b; reached = rw (← e, f) (right_left i p j q d h) }
    read_on {i} {j} {p} {q} (passes a e h) (stays b f) d =
        record { i = suc i; j = j; left = a; right = b; reached = rw (e, ← f) (left_left i p j q d h) }
    read_on {i} {j} {p} {q} (passes a e h) (passes b f k) d =
        record { i = suc i; j = suc j; left = a; right = b; reached = rw (e, f) (right_left (suc i) 0 j q (left_left i p j q d h) k) }

    step_reached : {x : Pair} {k : Child Pair Move} → Steps held n x k → AsReached x → ChildReached k
    step_reached {x} (leaves_left h) w =
        let n = stood_left l left_known w.left h in
        record {
          i = suc w.i;
          j = w.j;
          left = n.next;
          right = w.right;
          reached =
              subst (λ (p : ℕ). Reached (fronts_of l) (fronts_of r) (suc w.i) p w.j x.right.place) (sym n.starting)
              (left_left w.i x.left.place w.j x.right.place w.reached n.ends);
        }
    step_reached {x} (leaves_right h) w =
        let n = stood_left r right_known w.right h in
        record {
          i = w.i;
          j = suc w.j;
          left = w.left;
          right = n.next;
          reached =
              subst (λ (q : ℕ). Reached (fronts_of l) (fronts_of r) w.i x.left.place (suc w.j) q) (sym n.starting)
              (right_left w.i x.left.place w.j x.right.place w.reached n.ends);
        }
    step_reached {x} (read_both {c = c} k a b) w =
        let m = stood_read l left_known k w.left a in
        let n = stood_read r right_known k w.right b in
        read_on m.on n.on
        (both_read w.i x.left.place w.j x.right.place c m.place n.place w.reached m.low m.high n.low n.high (omega (arith, k, most)) m.comes n.comes)

    leads_reached : {way : List Move} {x : Pair} → Leads next first way x → AsReached x
    leads_reached start = record { i = 0; j = 0; left = begins_stood l left_known l here; right = begins_stood r right_known r here; reached = begun }
    leads_reached (step {t = t} d m) = step_reached (next_steps held n t m) (leads_reached d)

    -- where all of a side is read, the number is that of its tokens
    stood_end : (side : Side) (known : (t : Token) → Memᴰ t side → Known n t) {i : ℕ} {s : Standing} → Stood side known i s → is_read s.rest ≡ true
        → (i ≡ length side) × (s.place ≡ 0)
    stood_end side known (at_end x) e = (omega (arith, at_length x), refl)
    stood_end side known (at_character x) e = absurd (true_false e refl)
    stood_end side known (at_field x h) e = absurd (true_false e refl)

    abbrev EndsReached : Type 0
    EndsReached = Reached (fronts_of l) (fronts_of r) (length l) 0 (length r) 0

    at_ends : {i p j q : ℕ} → Reached (fronts_of l) (fronts_of r) i p j q → i ≡ length l → p ≡ 0 → j ≡ length r → q ≡ 0 → EndsReached
    at_ends d a b c e = rw (a, b, c, e) at d

    pub meeting_reached : Meeting held n l r → EndsReached
    meeting_reached m =
        let w = leads_reached m.leads in
        let x = m.at in
        let a = stood_end l left_known w.left (and_left (is_read x.left.rest) (is_read x.right.rest) m.finished) in
        let b = stood_end r right_known w.right (and_right (is_read x.left.rest) (is_read x.right.rest) m.finished) in
        at_ends w.reached a.0 a.1 b.0 b.1

    -- a pair that is reached is shown as one that the first leads to
    record Led (i p j q : ℕ) : Type 0 where
      way : List Move
      at : Pair
      leads : Leads next first way at
      left : Shown l left_known i p at.left
      right : Shown r right_known j q at.right

    led_left : {i p j q : ℕ} (w : Led i p j q) → Leaves l left_known i w.at.left → Led (suc i) 0 j q
    led_left w (passed s) = record { way = w.way; at = w.at; leads = w.leads; left = s; right = w.right }
    led_left w (leaves {t = t} h s) =
        record {
          way = strike_left ∷ w.way;
          at = record { left = t; right = w.at.right };
          leads = step w.leads (steps_next held n w.at (leaves_left h));
          left = s;
          right = w.right;
        }

    led_right : {i p j q : ℕ} (w : Led i p j q) → Leaves r right_known j w.at.right → Led i p (suc j) 0
    led_right w (passed s) = record { way = w.way; at = w.at; leads = w.leads; left = w.left; right = s }
    led_right w (leaves {t = t} h s) =
        record {
          way = strike_right ∷ w.way;
          at = record { left = w.at.left; right = t };
          leads = step w.leads (steps_next held n w.at (leaves_right h));
          left = w.left;
          right = s;
        }

    led_read : {i p j q : ℕ} (w : Led i p j q) (c s t : ℕ) → Reads l left_known i s c w.at.left → Reads r right_known j t c w.at.right → Led i s j t
    led_read w c s t a b =
        record {
          way = put c ∷ w.way;
          at = record { left = a.to; right = b.to };
          leads = step w.leads (steps_next held n w.at (read_both a.below a.reads b.reads));
          left = a.shown;
          right = b.shown;
        }

    reached_led : {i p j q : ℕ} → Reached (fronts_of l) (fronts_of r) i p j q → Led i p j q
    reached_led begun =
        record { way = []; at = first; leads = start; left = itself (begins_stood l left_known l here) refl; right = itself (begins_stood r right_known r here) refl }
    reached_led (left_left i p j q d e) = let w = reached_led d in led_left w (shown_left l left_known w.left e)
    reached_led (right_left i p j q d e) = let w = reached_led d in led_right w (shown_left r right_known w.right e)
    reached_led (both_read i p j q c s t d a b a' b' h x y) =
        let w = reached_led d in
        led_read w c s t (shown_read l left_known w.left a b h x) (shown_read r right_known w.right a' b' h y)

    shown_end : (side : Side) (known : (t : Token) → Memᴰ t side → Known n t) {i p : ℕ} {s : Standing} → Shown side known i p s → i ≡ length side
        → is_read s.rest ≡ true
    shown_end side known (itself (at_end x) k) e = refl
    shown_end side known (itself (at_character x) k) e = absurd (omega (arith, at_length x))
    shown_end side known (itself (at_field x h) k) e = absurd (omega (arith, at_length x))
    shown_end side known (behind x k) e = absurd (omega (arith, at_length x))

    pub reached_meeting : EndsReached → Meeting held n l r
    reached_meeting d =
        let w = reached_led d in
        record {
          way = w.way;
          at = w.at;
          leads = w.leads;
          finished = both_true (shown_end l left_known w.left refl) (shown_end r right_known w.right refl);
        }

-- The question of the code, by the question of the paper.
few_good : (n : ℕ) (h : Held) → GoodHeld n h → Few h
few_good n some_text g = tt
few_good n (pattern p) g = g.1

module _ (q : Question) (most : q.alphabet.characters ≤ most_characters) (l : GoodSide q.alphabet.characters q.left)
    (r : GoodSide q.alphabet.characters q.right) (good : Searchable (hidden q)) (bodies : List Body) where
  abbrev characters : ℕ
  characters = q.alphabet.characters

  abbrev few_hidden : (f : ℕ) → Few (held_by (hidden q) f)
  few_hidden f = few_good characters (held_by (hidden q) f) (good.held f)

  abbrev left_known : (t : Token) → Memᴰ t (hidden q).left → Known characters t
  left_known = known_with characters q.left hidden_left l (omega arith)

  abbrev right_known : (t : Token) → Memᴰ t (hidden q).right → Known characters t
  right_known = known_with characters q.right hidden_right r (omega arith)

  abbrev ends_of : List PlaceTables → List ℕ → List ℕ → Type 0
  ends_of fields a b =
      Reached (λ (i : ℕ). front_of characters fields (get_or a i no_token)) (λ (j : ℕ). front_of characters fields (get_or b j no_token)) (length a) 0 (length b) 0

  abbrev coded_ends : Type 0
  coded_ends = ends_of (all_tables characters most (held_by (hidden q)) few_hidden) (side_code (hidden q).left) (side_code (hidden q).right)

  meets_coded : Meets (question_of q bodies) ≡ coded_ends
  meets_coded = λ i. ends_of (fields_behind q i) (left_hidden q bodies most l i) (right_hidden q bodies most r i)

  coded_reached : coded_ends ≡ EndsReached characters most (held_by (hidden q)) few_hidden (hidden q).left (hidden q).right left_known right_known
  coded_reached =
      λ i.
      Reached (fronts_of characters most (held_by (hidden q)) few_hidden (hidden q).left) (fronts_of characters most (held_by (hidden q)) few_hidden (hidden q).right)
      (length-map (hidden q).left token_code i) 0 (length-map (hidden q).right token_code i) 0

  -- both sides with their hidden fields meet
  abbrev pub MeetsApart : Type 0
  MeetsApart = Meeting (held_by (hidden q)) characters (hidden q).left (hidden q).right

  pub meets_meeting : Meets (question_of q bodies) → MeetsApart
  meets_meeting m =
      reached_meeting characters most (held_by (hidden q)) few_hidden (hidden q).left (hidden q).right left_known right_known
      (subst (λ (x : Type 0). x) (meets_coded ∙ coded_reached) m)

  pub meeting_meets : MeetsApart → Meets (question_of q bodies)
  meeting_meets m =
      subst (λ (x : Type 0). x) (sym (meets_coded ∙ coded_reached))
      (meeting_reached characters most (held_by (hidden q)) few_hidden (hidden q).left (hidden q).right left_known right_known m)

  pub said_is_clash : (b : Bool) → Says b (Meets (question_of q bodies)) → b ≡ clashes_apart q
  said_is_clash b s =
      same_tests b (clashes_apart q) (λ e. meeting_found q (meets_meeting (s.holds e))) (λ e. s.told (meeting_meets (found_meeting q e)))

-- a good question, as a sheet asks it
pub said_of_good : (q : Question) → GoodQuestion q → (bodies : List Body) (b : Bool) → Says b (Meets (question_of q bodies)) → b ≡ clashes_apart q
said_of_good q g bodies b s = said_is_clash q (good_most g) g.left g.right (hidden_searchable q g) bodies b s

-- and the engine's answer says whether they are
pub clash_said : (q : Question) → GoodQuestion q → (bodies : List Body) → Says (clashes_apart q) (Meets (question_of q bodies))
clash_said q g bodies =
    let n = good_most g in
    let s = hidden_searchable q g in
    record {
      holds = λ e. meeting_meets q n g.left g.right s bodies (found_meeting q e);
      told = λ m. meeting_found q (meets_meeting q n g.left g.right s bodies m);
    }
