-- Of records that say what fields hold, what is put says what they hold once each is changed.
--   out_said  : the record that is written out says the pattern written out
--   from_said : drop at s ≡ patterns_saying ed f held ++ rest
--               → from_field c (length held) s at f bodies counts ≡ patterns_saying ed f (changed (how_changed c) (is_counted counts) f held) ++ rest
-- where each body has as many bytes as the field's pattern. By induction over the fields: the record in front is the field's own, or it has none.
use Prim.Native.Nat.{ℕ, suc, ◌+◌, ◌<◌}
use native.Mathlib.Nat.{add-zero}
use native.Mathlib.Omega.{arith}
use mathlib.Core.Path.{◌≡◌, refl, sym, ◌∙◌}
use mathlib.Core.Bool.{not, cond}
use mathlib.Core.List.{List, [], ◌∷◌, ◌++◌, append_assoc}
use lib.Dec.{eqb}
use lib.ListN.{length, get_or, drop, length-append, length-map}
use lib.Seq.{take_at}
use Rattle.paper.specs.Pattern.{Pattern, Held, some_text, pattern}
use Rattle.paper.specs.Alphabet.{Edition, edition_1, edition_2, alphabet_of, byte_of}
use Rattle.paper.specs.Alphabet as Alphabet
use Rattle.paper.specs.Sheet.{PA}
use Rattle.paper.specs.Saying.{mark_bytes, pattern_code, pattern_saying, patterns_saying}
use Rattle.paper.proofs.base.Tests.{by_bool, neq_eqb, le_ltb}
use Rattle.paper_laws.proofs.saying.Saying.{left_there, record_behind}
use Rattle.paper_carry.specs.Opened.{written_out, with_open, changed}
use Rattle.base_editions.specs.Editions.{paper_edition}
use Rattle.base_question.specs.Standings.{is_counted}
use Rattle.base_question.specs.declared.Body.{Body}
use Rattle.carry_records.specs.Changing.{how_changed, InEdition, record_length, out_bytes, record_out, missing, leaves_out, field_put, bytes_of, from_field}
use Rattle.carry_records.specs.declared.Change.{Change}
use Rattle.carry_records.specs.declared.Change.TheVariants.{Open, Drop}

-- so many bytes has the pattern of what a field may hold
abbrev pub HasBytes : Held → ℕ → Type 0
HasBytes some_text n = n ≡ 0
HasBytes (pattern p) n = (0 < n) × (n ≡ length (pattern_code p))

-- and the patterns of the fields from f on
abbrev pub HaveBytes : List Body → ℕ → List Held → Type 0
HaveBytes bodies f [] = Unit {0}
HaveBytes bodies f (h ∷ held) = HasBytes h (bytes_of bodies f) × HaveBytes bodies (suc f) held

-- the record that is written out: the mark, the field, and the pattern behind its length
pub out_said : (ed : Edition) (f : ℕ) → mark_bytes PA ++ f ∷ out_bytes ed ≡ pattern_saying ed f (pattern (written_out (alphabet_of ed).characters))
unfolding byte_of
out_said edition_1 f = refl
out_said edition_2 f = refl

-- What is put of a field that stands so often, by what it may hold.
opened_said : (ed : Edition) (f count : ℕ) → record_out ed f count ≡ pattern_saying ed f (with_open (alphabet_of ed).characters (not (eqb count 0)) some_text)
opened_said ed f count = by_bool (eqb count 0) (λ e. rw e) (λ e. rw e)

missing_said : (ed : Edition) (c : Change) → InEdition ed c → (f count : ℕ) → missing c f count ≡ pattern_saying ed f (how_changed c (not (eqb count 0)) some_text)
missing_said ed (Open e) i f count = rw (← i) (opened_said (paper_edition e) f count)
missing_said ed Drop i f count = by_bool (eqb count 0) (λ e. rw e) (λ e. rw e)

left_said : (ed : Edition) (c : Change) (f count : ℕ) (p : Pattern)
    → cond (leaves_out c count) [] (pattern_saying ed f (pattern p)) ≡ pattern_saying ed f (how_changed c (not (eqb count 0)) (pattern p))
left_said ed (Open e) f count p = by_bool (eqb count 0) (λ e. rw e) (λ e. rw e)
left_said ed Drop f count p = by_bool (eqb count 0) (λ e. rw e) (λ e. rw e)

-- its own record in front
module _ (ed : Edition) (s : List ℕ) (at f : ℕ) (p : Pattern) (behind : List ℕ) (e : drop at s ≡ pattern_saying ed f (pattern p) ++ behind) (n : ℕ) (b : HasBytes (pattern p) n) where
  abbrev its_bytes : ℕ
  its_bytes = 4 + length (pattern_code p)

  its_record : record_length s at n ≡ its_bytes
  unfolding record_length
  its_record =
      let t = pattern_saying ed f (pattern p) ++ behind in
      let same = length-map (pattern_code p) (byte_of ed) in
      let sum = length-append (Alphabet.bytes_of ed (pattern_code p)) behind in
      let some = b.0 in
      rw (neq_eqb n 0 (λ (z : n ≡ 0). omega arith), left_there s at t e, b.1, le_ltb (length t) its_bytes (omega arith))

  put_itself : (c : Change) (count : ℕ) → field_put c s at f n count ≡ pattern_saying ed f (how_changed c (not (eqb count 0)) (pattern p))
  unfolding field_put
  put_itself c count =
      let own = take_at (pattern_saying ed f (pattern p)) behind its_bytes (omega (arith, length-map (pattern_code p) (byte_of ed))) in
      rw (its_record, neq_eqb its_bytes 0 (λ (z : its_bytes ≡ 0). omega arith), e, own) (left_said ed c f count p)

-- a field without a record
no_record : (s : List ℕ) (at n : ℕ) → n ≡ 0 → record_length s at n ≡ 0
unfolding record_length
no_record s at n e = rw e

put_missing : (c : Change) (s : List ℕ) (at f n count : ℕ) → record_length s at n ≡ 0 → field_put c s at f n count ≡ missing c f count
unfolding field_put
put_missing c s at f n count e = rw e

module _ (ed : Edition) (c : Change) (i : InEdition ed c) where
  pub from_said : (held : List Held) (s : List ℕ) (at f : ℕ) (bodies : List Body) (counts rest : List ℕ) → HaveBytes bodies f held
      → drop at s ≡ patterns_saying ed f held ++ rest
      → from_field c (length held) s at f bodies counts ≡ patterns_saying ed f (changed (how_changed c) (is_counted counts) f held) ++ rest
  from_said [] s at f bodies counts rest b e = e
  from_said (some_text ∷ held) s at f bodies counts rest b e =
      let none = no_record s at (bytes_of bodies f) b.0 in
      let count = get_or counts f 0 in
      let more = from_said held s at (suc f) bodies counts rest b.1 e in
      rw (put_missing c s at f (bytes_of bodies f) count none, none, add-zero at, more, missing_said ed c i f count)
      (sym (append_assoc (pattern_saying ed f (how_changed c (is_counted counts f) some_text)) (patterns_saying ed (suc f) (changed (how_changed c) (is_counted counts) (suc f) held)) rest))
  from_said (pattern p ∷ held) s at f bodies counts rest b e =
      let behind = patterns_saying ed (suc f) held ++ rest in
      let n = bytes_of bodies f in
      let here = e ∙ append_assoc (pattern_saying ed f (pattern p)) (patterns_saying ed (suc f) held) rest in
      let more = from_said held s (at + (4 + length (pattern_code p))) (suc f) bodies counts rest b.1 (record_behind ed s at f p behind here) in
      rw (put_itself ed s at f p behind here n b.0 c (get_or counts f 0), its_record ed s at f p behind here n b.0, more)
      (sym (append_assoc (pattern_saying ed f (how_changed c (is_counted counts f) (pattern p))) (patterns_saying ed (suc f) (changed (how_changed c) (is_counted counts) (suc f) held)) rest))
