-- The attempts behind the first, by inner codes: of any question, bytes of patterns, number and buffers. What each gives, and the answer buffer then.
use Rattle.std.specs.Prelude.{ℕ, ◌*◌, ◌≤◌, ◌≡◌, Bool, true, false, cond, not, ◌&&◌, List, eqb, leb, Result, Ok, Err}
use Rattle.paper.specs.Alphabet.{Edition, edition_1, edition_2}
use Rattle.paper.specs.Numbers.{characters, situation_bytes, most_room}
use Rattle.paper_decide.specs.Deciding.{longer}
use Rattle.base_question.specs.declared.Question.{Question}
use Rattle.plain_count.specs.StandingsCoded.{bits_coded}
use Rattle.search_run.specs.Ended.{room_for}
use Rattle.search_question.specs.Over.{ended_over, buffer_over, ended_all, buffer_all}
use Rattle.decide_alike.specs.AlikeCoded.{characters_coded}
use Rattle.decide_letters.specs.LettersCoded.{letters_coded}
use Rattle.decide_texts.specs.TextsCoded.{texts_coded}
use Rattle.base_answers.specs.AnswerNumbers.{number_in_pair}
use Rattle.base_answers.specs.declared.Ended.{Ended}
use Rattle.base_answers.specs.declared.How.TheVariants.{NoClash}

-- does the end with this number in a pair decide? A clash does, and no clash does or does not.
abbrev pub decides_number : Bool → ℕ → Bool
decides_number no_clash n = cond (eqb n 0) true (cond (eqb n 1) no_clash false)

abbrev pub decides_coded : Bool → Ended → Bool
decides_coded no_clash e = decides_number no_clash (number_in_pair e.how)

-- the end with another count
abbrev pub with_count : ℕ → Ended → Ended
with_count m e = record { how = e.how; count = m }

-- what an attempt gives: whether it decides, and how it ended
pub record Tried : Type 0 where
  pub decides : Bool
  pub ended : Ended

-- of what it gives the code keeps how it ended, where that decides, and else how many situations it entered
abbrev pub as_result : Tried → Result Ended ℕ
as_result t = cond t.decides (Ok t.ended) (Err t.ended.count)

abbrev pub entered_in : Result Ended ℕ → ℕ
entered_in (Ok e) = e.count
entered_in (Err n) = n

-- a test, which says no clash or nothing and enters no situation; a search
abbrev pub tested_coded : Bool → Tried
tested_coded no_clash = record { decides = no_clash; ended = record { how = NoClash; count = 0 } }

abbrev pub searched_coded : Bool → Ended → Tried
searched_coded no_clash e = record { decides = decides_coded no_clash e; ended = e }

-- what an attempt gives, and the answer buffer then
pub record Attempted : Type 0 where
  pub tried : Tried
  pub buffer : List ℕ

-- this result and this answer buffer are what it gives
pub record GivesAs (x : Attempted) (r : Result Ended ℕ) (after : List ℕ) : Type 0 where
  pub result : r ≡ as_result x.tried
  pub answer : after ≡ x.buffer

-- it enters no more situations than there can be room for, and where it does not decide the answer buffer is as it was
pub record Harmless (answer : List ℕ) (x : Attempted) : Type 0 where
  pub at_most : x.tried.ended.count ≤ most_room
  pub unchanged : x.tried.decides ≡ false → x.buffer ≡ answer

-- the edition of so many characters
abbrev pub edition_by : ℕ → Edition
edition_by n = cond (eqb n characters) edition_1 edition_2

-- "Letters", by the bytes in which the patterns stand
unfoldable pub letters_asked : Question → List ℕ → List ℕ → Bool
letters_asked s first second =
    letters_coded (edition_by s.alphabet.characters) s.left s.right s.alphabet.space s.bodies first second

-- "Each standing apart": no label is read by both sides (`meets` says whether one is), and the bits fit. "The bits are those of 8 × 184 × room".
unfoldable pub apart_asked : Question → Bool → ℕ → Bool
apart_asked s meets bytes = leb (bits_coded s) (8 * (situation_bytes * room_for bytes)) && not meets

-- In a working buffer of so many bytes and with this answer buffer.
module _ (s : Question) (bytes : ℕ) (answer : List ℕ) where
  abbrev pub by_test : Bool → Attempted
  by_test no_clash = record { tried = tested_coded no_clash; buffer = answer }

  -- a text for each field that stands twice
  abbrev pub by_text : ℕ → Attempted
  by_text n =
      record {
        tried = searched_coded false (ended_all (texts_coded s n) bytes answer);
        buffer = buffer_all (texts_coded s n) bytes answer;
      }

  -- over some of the characters, the least ones or a few of them
  abbrev pub by_characters : Bool → Attempted
  by_characters fewer =
      record {
        tried = searched_coded (not fewer) (ended_over (characters_coded s fewer) s bytes answer);
        buffer = buffer_over (characters_coded s fewer) s bytes answer;
      }

  -- the attempt k of those behind the first
  unfoldable pub attempt_coded : Bool → List ℕ → List ℕ → ℕ → Attempted
  attempt_coded meets first second k =
      cond (eqb k 2) (by_test (letters_asked s first second))
      (cond (eqb k 3) (by_test (apart_asked s meets bytes))
      (cond (eqb k 4) (by_text 0) (cond (eqb k 5) (by_text longer) (cond (eqb k 6) (by_characters false) (by_characters true)))))
