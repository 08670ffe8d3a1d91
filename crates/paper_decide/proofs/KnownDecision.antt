-- What a known decision is: a sheet, the buffers lent, and the whole decision that must come. And the one that an edit needs: a sheet that the fifth
-- attempt decides. All others stand in `paper_vectors` (`KnownDecisions`), since each edit of `paper_decide` pays for what is computed here.
use Prim.Native.Nat.{ℕ, ◌*◌}
use mathlib.Core.Path.{◌≡◌, refl}
use mathlib.Core.List.{List, [], ◌∷◌, ◌++◌}
use lib.ListN.{length, drop, replicate}
use Rattle.paper.specs.Places.{set_after, may_end}
use Rattle.paper.specs.Written.{judge}
use Rattle.paper.specs.Search.{enter, offer, take_next, search}
use Rattle.paper.specs.Situation.{trimmed, strike, put_before, open_moves, child_by, children, question}
use Rattle.paper.specs.Way.{search_from, texts_of}
use Rattle.paper.specs.Alphabet.{code}
use Rattle.paper.specs.Question.{acceptor}
use Rattle.paper.specs.Sheet.{marked, pattern_record, side_record, read_end, marked_side, next_is, edition_front, strays_of, read_by, read_sheet}
use Rattle.paper.specs.Outcome.{room_of, searched, standing, value_record, records, clash, count_of, how_of}
use Rattle.paper.proofs.known.KnownSheet.{LE, RI, x}
use Rattle.paper_chosen.specs.Chosen.{acceptor_over, searched_over}
use Rattle.paper_decide.specs.Alike.{alike_in, fixed, fields_standing, alike, is_least, least_ones}
use Rattle.paper_decide.specs.Few.{leaf_choice, chosen_for, few, is_few}
use Rattle.paper_decide.specs.Letters.{divisor, uneven, letters_differ}
use Rattle.paper_decide.specs.OneText.{with_texts}
use Rattle.paper_plain.specs.Standing.{next_pairs, pairs_searched}
use Rattle.paper_plain.specs.Engine.{bits_of, clashes_apart}
use Rattle.paper_decide.specs.Deciding.{concluded, Decision, decision}

-- a sheet, the situations that there is room for, and the bytes lent for the answer; what must come: number, count, answer bytes, and which search
pub record Known : Type 0 where
  pub sheet : List ℕ
  pub room : ℕ
  pub answer_bytes : ℕ
  pub number : ℕ
  pub count : ℕ
  pub bytes : List ℕ
  pub search : ℕ

abbrev pub row : List ℕ → ℕ → ℕ → ℕ → ℕ → List ℕ → ℕ → Known
row s r a n c b k = record { sheet = s; room = r; answer_bytes = a; number = n; count = c; bytes = b; search = k }

-- The buffers are lent full of other bytes.
abbrev pub got : Known → Decision
got k = decision k.sheet (replicate (184 * k.room) 90) (replicate k.answer_bytes 165)

abbrev pub wanted : Known → Decision
wanted k =
    record {
      outcome = record {
        number = k.number;
        count = k.count;
        place = 0;
        written = length k.bytes;
        answer = k.bytes ++ drop (length k.bytes) (replicate k.answer_bytes 165);
        work = replicate (184 * k.room) 0;
      };
      search = k.search;
    }

-- A text of 3 or more: xx and six times 0, open. The fourth attempt uses all up, and yet there is a label.
abbrev longer_row : Known
longer_row = row (LE (x ∷ x ∷ []) ++ RI (replicate 6 0)) 9 8 0 21 (86 ∷ 65 ∷ 0 ∷ 3 ∷ 0 ∷ 0 ∷ 0 ∷ 0 ∷ []) 5

pub longer_known : got longer_row ≡ wanted longer_row
unfolding set_after may_end judge enter offer take_next search trimmed strike put_before open_moves child_by children question search_from texts_of acceptor marked pattern_record side_record read_end marked_side next_is code edition_front read_by strays_of read_sheet room_of searched standing value_record records clash count_of how_of acceptor_over searched_over alike_in fixed fields_standing alike is_least least_ones leaf_choice chosen_for few is_few divisor uneven letters_differ next_pairs pairs_searched bits_of clashes_apart with_texts concluded decision
longer_known = refl
