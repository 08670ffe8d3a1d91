-- Two sides meet exactly if both spell one label over the characters, each standing apart.
--   meeting_alike : Meeting held characters l r → SpellAlike held characters l r
--   alike_meeting : and the other way
-- Of any sides. Both go through what a standing reads (`Reads`): a pair meets exactly if both its standings read one text, and where a side begins
-- it reads what it spells. Follows from the laws of runs and from what a pair leads to.
use Prim.Native.Nat.{ℕ, ◌<◌}
use mathlib.Core.Path.{◌≡◌, refl, subst}
use mathlib.Core.Bool.{true}
use mathlib.Core.List.Memᴰ
use mathlib.Core.List.{List, [], ◌∷◌, ◌++◌}
use Rattle.paper.specs.Pattern.{Held}
use Rattle.paper.specs.Places.{ends_at}
use Rattle.paper.specs.Search.{child}
use Rattle.paper.specs.Leads.{Leads, start, step}
use Rattle.paper.specs.Equation.{chr, fld, Side, Over}
use Rattle.paper.specs.Situation.{Move, strike_left, strike_right, put}
use Rattle.paper.proofs.base.Tests.{true_false, and_left, and_right, both_true}
use Rattle.paper.proofs.base.Lists.{cons_eq, mem_cons_by}
use Rattle.paper_plain.specs.Standing.{comes_by, Standing, begins, Pair, next_pairs, is_read}
use Rattle.paper_plain.specs.Meeting.{Meeting}
use Rattle.paper_plain.specs.Run.{Run, stays, goes}
use Rattle.paper_plain.specs.Apart.{Spells, nothing, character, field, SpellAlike}
use Rattle.paper_plain.proofs.Pairs.{LeftTo, field_left, ReadTo, character_read, place_read, Steps, leaves_left, leaves_right, read_both, next_steps, steps_next}
use Rattle.paper_plain.proofs.Runs.{RunsThrough, held_run, run_held, comes_below}

module _ (held : ℕ → Held) where
  -- a standing reads the text to its side's end
  pub data Reads : Standing → List ℕ → Type 0 where
    at_end : {s : Standing} → is_read s.rest ≡ true → Reads s []
    left_on : {s t : Standing} {w : List ℕ} → LeftTo held s.rest s.place t → Reads t w → Reads s w
    read_on : {s t : Standing} {c : ℕ} {w : List ℕ} → ReadTo held c s.rest s.place t → Reads t w → Reads s (c ∷ w)

  -- What a standing reads and what its side spells: of the field in front the rest of its text is still to be read.
  pub record SpellsFrom (f : ℕ) (side : Side) (i : ℕ) (w : List ℕ) : Type 0 where
    pub its : List ℕ
    pub more : List ℕ
    pub both : w ≡ its ++ more
    pub through : RunsThrough (held f) its i
    pub spells : Spells held side more

  abbrev From : Side → ℕ → List ℕ → Type 0
  From [] i w = Spells held [] w
  From (chr a ∷ side) i w = Spells held (chr a ∷ side) w
  From (fld f ∷ side) i w = SpellsFrom f side i w

  from_start : (side : Side) (w : List ℕ) → From side 0 w → Spells held side w
  from_start [] w h = h
  from_start (chr a ∷ side) w h = h
  from_start (fld f ∷ side) w h = field h.its h.more h.both (run_held (held f) h.its h.through) h.spells

  ended_from : (side : Side) (i : ℕ) → is_read side ≡ true → From side i []
  ended_from [] i e = nothing
  ended_from (t ∷ side) i e = absurd (true_false e refl)

  left_from : {side : Side} {i : ℕ} {t : Standing} (w : List ℕ) → LeftTo held side i t → From t.rest t.place w → From side i w
  left_from w (field_left {side = side} {i = i} e) h =
      record { its = []; more = w; both = refl; through = record { last = i; run = stays; ends = e }; spells = from_start side w h }

  read_from : {c : ℕ} {side : Side} {i : ℕ} {t : Standing} (w : List ℕ) → ReadTo held c side i t → From t.rest t.place w → From side i (c ∷ w)
  read_from {c} w (character_read {a = a} {side = side} e) h =
      subst (λ (d : ℕ). Spells held (chr a ∷ side) (d ∷ w)) e (character (from_start side w h))
  read_from {c} w (place_read b e) h =
      record {
        its = c ∷ h.its;
        more = h.more;
        both = cons_eq refl h.both;
        through = record { last = h.through.last; run = goes e h.through.run; ends = h.through.ends };
        spells = h.spells;
      }

  reads_from : {s : Standing} {w : List ℕ} → Reads s w → From s.rest s.place w
  reads_from (at_end {s = s} e) = ended_from s.rest s.place e
  reads_from (left_on {w = w} h r) = left_from w h (reads_from r)
  reads_from (read_on {w = w} h r) = read_from w h (reads_from r)

  run_reads :
      {f : ℕ} {side : Side} {i k : ℕ} {u : List ℕ} (v : List ℕ)
      → Run (comes_by (held f)) i u k → ends_at (held f) k ≡ true → Reads (begins side) v
      → Reads (record { rest = fld f ∷ side; place = i }) (u ++ v)
  run_reads v stays e h = left_on (field_left e) h
  run_reads {f} v (goes {i = i} {q = q} {c = c} t run) e h = read_on (place_read (comes_below (held f) i c q t) t) (run_reads v run e h)

  pub spells_reads : {side : Side} {w : List ℕ} → Spells held side w → Reads (begins side) w
  spells_reads nothing = at_end refl
  spells_reads (character h) = read_on (character_read refl) (spells_reads h)
  spells_reads (field {f = f} u v e t h) =
      let r = held_run (held f) u t in rw e (run_reads v r.run r.ends (spells_reads h))

  module _ (characters : ℕ) where
    -- both standings of a pair read one text
    pub record ReadAlike (x : Pair) : Type 0 where
      pub word : List ℕ
      pub over : Over characters word
      pub left : Reads x.left word
      pub right : Reads x.right word

    step_back : (x : Pair) {m : Move} {y : Pair} → Steps held characters x (child m y) → ReadAlike y → ReadAlike x
    step_back x (leaves_left h) a = record { word = a.word; over = a.over; left = left_on h a.left; right = a.right }
    step_back x (leaves_right h) a = record { word = a.word; over = a.over; left = a.left; right = left_on h a.right }
    step_back x (read_both {c = c} b h k) a =
        record {
          word = c ∷ a.word;
          over = mem_cons_by (λ (d : ℕ). d < characters) b a.over;
          left = read_on h a.left;
          right = read_on k a.right;
        }

    leads_back : {x y : Pair} {way : List Move} → Leads (next_pairs held characters) x way y → ReadAlike y → ReadAlike x
    leads_back start a = a
    leads_back (step {t = t} l d) a = leads_back l (step_back t (next_steps held characters t d) a)

    pub meeting_alike : {l r : Side} → Meeting held characters l r → SpellAlike held characters l r
    meeting_alike {l} {r} m =
        let x = m.at in
        let ended : ReadAlike x =
        record {
          word = [];
          over = λ c d. absurd (Memᴰ.not-nil d);
          left = at_end (and_left (is_read x.left.rest) (is_read x.right.rest) m.finished);
          right = at_end (and_right (is_read x.left.rest) (is_read x.right.rest) m.finished);
        } in
        let a = leads_back m.leads ended in
        record {
          spelt = a.word;
          over = a.over;
          left = from_start l a.word (reads_from a.left);
          right = from_start r a.word (reads_from a.right);
        }

    -- Where both read one text, a way leads on to the end.
    module _ (l r : Side) where
      abbrev Ahead : Standing → Standing → Type 0
      Ahead s t =
          (way : List Move) → Leads (next_pairs held characters) (record { left = begins l; right = begins r }) way (record { left = s; right = t })
          → Meeting held characters l r

      on_left : {s t u : Standing} → LeftTo held s.rest s.place u → Ahead u t → Ahead s t
      on_left {s} {t} h go way leads = go (strike_left ∷ way) (step leads (steps_next held characters (record { left = s; right = t }) (leaves_left h)))

      on_right : {s t u : Standing} → LeftTo held t.rest t.place u → Ahead s u → Ahead s t
      on_right {s} {t} h go way leads = go (strike_right ∷ way) (step leads (steps_next held characters (record { left = s; right = t }) (leaves_right h)))

      ended_ahead : {s t : Standing} → is_read s.rest ≡ true → Reads t [] → Ahead s t
      ended_ahead {s} e (at_end {s = t} k) way leads = record { way = way; at = record { left = s; right = t }; leads = leads; finished = both_true e k }
      ended_ahead e (left_on h k) way leads = on_right h (ended_ahead e k) way leads

      read_ahead :
          {s t u : Standing} {c : ℕ} {w : List ℕ} → c < characters → ReadTo held c s.rest s.place u
          → ((v : Standing) → Reads v w → Ahead u v) → Reads t (c ∷ w) → Ahead s t
      read_ahead b h go (left_on k j) = on_right k (read_ahead b h go j)
      read_ahead {s} {c = c} b h go (read_on {s = t} {t = v} k j) =
          λ way leads. go v j (put c ∷ way) (step leads (steps_next held characters (record { left = s; right = t }) (read_both b h k)))

      ahead : {s : Standing} {w : List ℕ} → Over characters w → Reads s w → (t : Standing) → Reads t w → Ahead s t
      ahead o (at_end e) t k = ended_ahead e k
      ahead o (left_on h j) t k = on_left h (ahead o j t k)
      ahead o (read_on {c = c} h j) t k =
          read_ahead (o c (Memᴰ.head refl)) h (λ v i. ahead (λ d m. o d (Memᴰ.tail m)) j v i) k

      pub alike_meeting : SpellAlike held characters l r → Meeting held characters l r
      alike_meeting a = ahead a.over (spells_reads a.left) (begins r) (spells_reads a.right) [] start
