-- The records of an answer: head and text, stored one behind the other, are the record in front of what was lent; record after record, each
-- in front of the buffer's rest, are the records in front of the buffer.
-- Follows from the definitions and the laws of parts.
use Prim.Native.Nat.{ℕ, ◌+◌, ◌-◌, ◌≤◌}
use native.Mathlib.Nat.{add-sub_cancel_left}
use native.Mathlib.Omega.{arith}
use mathlib.Core.Path.{◌≡◌, refl, sym, ap, ◌∙◌}
use mathlib.Core.List.{List, [], ◌++◌, append_assoc, append-nil}
use lib.ListN.{length, take, drop, length-append, length-drop, take-append-drop, drop_of_length-le}
use lib.Seq.{sets, sets-eq, drop-length, take_at, take_all, drop_at, drop-drop, length-take-le}
use borrow.Rule.Slice.PartMut.{put_mid, post_of}
use Rattle.paper.specs.Numbers.{longest_text}
use Rattle.paper.specs.Outcome.{value_record}
use Rattle.search_records.specs.Records.{RecordWritten}
use Rattle.search_records.specs.Records.{record_mark, mark_width, record_head, head_bytes, record_bytes, in_front}
use Rattle.search_slots.specs.LowFirst.{low_bytes}
use Rattle.search_slots.specs.Slots.{number_width}
use Rattle.search_slots.proofs.numbers.Bytes.{low_bytes_all}
use Rattle.search_slots.proofs.Parts.{part_back}

-- as many stores from the front as there are elements
pub stored_whole : (vs l : List ℕ) → length l ≡ length vs → sets l 0 vs ≡ vs
stored_whole vs l e =
    let k : 0 + length vs ≡ length l = omega arith in
    sets-eq vs l 0 (omega arith) ∙ rw (k, drop-length l) (append-nil vs)

-- The mark, and behind it the length, are the head.
module _ (mark out : List ℕ) (f n : ℕ) (e : mark ≡ record_mark f) (l : length out ≡ head_bytes) where
  mark_length : length mark ≡ mark_width
  mark_length = rw e

  number_part : length (take number_width (drop mark_width (mark ++ post_of 0 mark_width out))) ≡ number_width
  number_part =
      rw (drop_at mark (drop mark_width out) mark_width mark_length)
      (length-take-le number_width (drop mark_width out) (rw length-drop (omega arith)))

  pub head_stored : (bytes : List ℕ) → bytes ≡ low_bytes (length (take number_width (drop mark_width (mark ++ post_of 0 mark_width out)))) n
      → put_mid mark_width number_width (mark ++ post_of 0 mark_width out) bytes ≡ record_head f n
  head_stored bytes h =
      let b : bytes ≡ low_bytes number_width n = rw number_part at h in
      let none : drop number_width (drop mark_width out) ≡ [] = drop_of_length-le (drop mark_width out) {i = number_width} (rw length-drop (omega arith)) in
      part_back mark (drop mark_width out) bytes mark_width number_width refl mark_length ∙ rw (none, append-nil, e, b)

record_split : (f : ℕ) (text : List ℕ) → record_bytes f text ≡ record_head f (length text) ++ text
unfolding record_bytes
record_split f text = refl

-- The record of a text that is short enough is 01's: its length has no third byte.
pub record_is : (f : ℕ) (text : List ℕ) → length text ≤ longest_text → record_bytes f text ≡ value_record f text
unfolding value_record
record_is f text h =
    record_split f text ∙ ap (λ (bytes : List ℕ). (record_mark f ++ bytes) ++ text) (low_bytes_all (number_width - 1) (length text) (omega arith))

pub length_record : (f : ℕ) (text : List ℕ) → length (record_bytes f text) ≡ head_bytes + length text
unfolding record_bytes
length_record f text = omega arith

length_in_front : (bytes buffer : List ℕ) → length bytes ≤ length buffer → length (in_front bytes buffer) ≡ length buffer
length_in_front bytes buffer h = rw (length-append, length-drop) (omega arith)

module _ (out head : List ℕ) (f n : ℕ) (e : head ≡ record_head f n) (room : head_bytes + n ≤ length out) where
  head_length : length head ≡ head_bytes
  head_length = rw e

  -- Behind the head there is room for the text, and that is lent to its writer.
  pub text_room : head_bytes + n ≤ length (head ++ post_of 0 head_bytes out)
  text_room = rw (length-append, head_length, length-drop) (omega arith)

  pub text_part : length (take (head_bytes + n - head_bytes) (drop head_bytes (head ++ post_of 0 head_bytes out))) ≡ n
  text_part =
      let d : length (drop head_bytes out) ≡ length out - head_bytes = length-drop head_bytes out in
      rw (add-sub_cancel_left head_bytes n, drop_at head (drop head_bytes out) head_bytes head_length)
      (length-take-le n (drop head_bytes out) (omega arith))

  -- The text stored there makes the record.
  pub record_stored : (text : List ℕ) → n ≡ length text
      → RecordWritten out (put_mid head_bytes (head_bytes + n - head_bytes) (head ++ post_of 0 head_bytes out) text) (head_bytes + n) (record_bytes f text)
  record_stored text m =
      let l : length (record_bytes f text) ≡ head_bytes + n = length_record f text ∙ omega arith in
      let b : (head ++ text) ++ drop n (drop head_bytes out) ≡ in_front (record_bytes f text) out =
      rw (l, ← drop-drop n head_bytes out, record_split f text, ← m, e) in
      let s : put_mid head_bytes (head_bytes + n - head_bytes) (head ++ post_of 0 head_bytes out) text ≡ in_front (record_bytes f text) out =
      rw (add-sub_cancel_left head_bytes n) (part_back head (drop head_bytes out) text head_bytes n refl head_length ∙ b) in
      record { bytes = s; many = omega (arith, l); same_length = rw s (length_in_front (record_bytes f text) out (omega (arith, l))) }

-- The buffer's rest, from a place on.
pub length_rest : (at : ℕ) (l : List ℕ) → length (take (length l - at) (drop at l)) ≡ length l - at
length_rest at l = length-take-le (length l - at) (drop at l) (rw length-drop (omega arith))

-- The records up to a place are written and the rest is missing: the buffer from there on is as before.
pub record Underway (all rest before after : List ℕ) (at : ℕ) : Type 0 where
  pub place : at + length rest ≡ length all
  pub done : take at after ++ rest ≡ all
  pub kept : drop at after ≡ drop at before

pub none_written : (all rest before : List ℕ) → rest ≡ all → Underway all rest before before 0
none_written all rest before e = record { place = omega (arith, ap length e); done = e; kept = refl }

-- One record more, written into the front of the buffer's rest.
pub one_more : {all before after : List ℕ} {at : ℕ} (bytes rest last : List ℕ) (n : ℕ) → Underway all (bytes ++ rest) before after at
    → at ≤ length after → RecordWritten (take (length after - at) (drop at after)) last n bytes
    → Underway all rest before (put_mid at (length after - at) after last) (at + n)
one_more {all} {before} {after} {at} bytes rest last n u h w =
    let front = take at after ++ bytes in
    let behind = drop n (drop at after) in
    let d : length (drop at after) ≡ length after - at = length-drop at after in
    let l : length front ≡ at + n = length-append (take at after) bytes ∙ rw (length-take-le at after h, w.many) in
    let e : put_mid at (length after - at) after last ≡ front ++ behind =
    rw (w.bytes, ← w.many, take_all (length after - at) (drop at after) (omega arith), drop_of_length-le (drop at after) {i = length after - at} (omega arith), append-nil, append_assoc) in
    record {
      place = omega (arith, length-append bytes rest, u.place, w.many);
      done = rw (e, take_at front behind (at + n) l, append_assoc) u.done;
      kept = rw (e, drop_at front behind (at + n) l, u.kept, drop-drop);
    }

pub all_written : {all before after : List ℕ} {at : ℕ} → Underway all [] before after at → after ≡ in_front all before
all_written {all} {before} {after} {at} u =
    let n : at ≡ length all = omega (arith, u.place) in
    let t : take at after ≡ all = sym (append-nil (take at after)) ∙ u.done in
    sym (take-append-drop at after) ∙ rw (u.kept, t, ← n)
