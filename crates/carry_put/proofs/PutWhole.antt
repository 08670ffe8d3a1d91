-- What is put of a good sheet and of a good rule says what they say, once each field is changed.
--   sheet_whole : read_before s ≡ asked q → put_whole c s (records_from e) bodies counts ≡ sheet_saying (question_changed (how_changed c) q), e the question's edition
--   rule_whole  : rule_saying r.fields.held r.side ≡ s → GoodRule r → put_whole c s 2 bodies counts ≡ rule_anew c r
--   sheet_short, rule_short : and it is not longer than a sheet and a rule may be
-- where the bodies are those that were read, and the counts say how often each field stands in the sides. Follows from `from_said`, and since the
-- fields that are counted are those that stand.
use Prim.Native.Nat.{ℕ, suc, ◌+◌, ◌≤◌, ◌<◌}
use native.Mathlib.Nat.{zero-add, add-zero}
use native.Mathlib.Omega.{arith}
use mathlib.Core.Path.{◌≡◌, refl, sym, ap, ap₂, ◌∙◌, subst}
use mathlib.Core.Bool.{not}
use mathlib.Core.List.Memᴰ
use mathlib.Core.List.{List, [], ◌∷◌, ◌++◌, append-nil}
use lib.Dec.{eqb}
use lib.ListN.{length, get_or, take, drop, length-drop, length-map}
use lib.Seq.{length-take-le, take_at, drop_at}
use Rattle.paper.specs.Numbers.{characters, most_characters, fields}
use Rattle.paper.specs.Pattern.{Held, some_text}
use Rattle.paper.specs.Equation.{Side, stands_in}
use Rattle.paper.specs.Alphabet.{Edition, edition_1, edition_2, alphabet_of, edition_of, code, codes}
use Rattle.paper.specs.Question.{Question}
use Rattle.paper.specs.Sheet.{LE, RI, body, asked, read_before}
use Rattle.paper.specs.Rule.{Rule}
use Rattle.paper.specs.Saying.{edition_laid, edition_byte, patterns_saying, side_saying, sheet_saying}
use Rattle.paper_laws.proofs.sheets.Asked.{GoodSide, GoodQuestion, good_most}
use Rattle.paper_laws.proofs.saying.Code.{judged_code}
use Rattle.paper_laws.proofs.saying.SaidParts.{behind_edition, said_parts}
use Rattle.paper_laws.proofs.saying.Saying.{Sayable}
use Rattle.paper_laws.proofs.saying.Sayable.{before_sayable}
use Rattle.paper_catalogue.proofs.GoodRule.{GoodRule, own_in_range}
use Rattle.base_codes.specs.Inner.{side_code, padded}
use Rattle.base_editions.specs.Editions.{paper_edition}
use Rattle.base_question.specs.Standings.{standing_times, is_counted}
use Rattle.base_question.specs.declared.Body.{Body}
use Rattle.base_question.proofs.HowOften.{standings_are, stands_times}
use Rattle.base_question.proofs.SidesBack.{sides_back, both_have_sets}
use Rattle.read_fields.proofs.PatternsStanding.{Stands, no_pattern, its_pattern, AllStand}
use Rattle.read_sheet.specs.SheetRead.{bodies_of}
use Rattle.read_sheet.proofs.SheetPatterns.{before_stands}
use Rattle.paper_carry.specs.Opened.{changed, question_changed, rule_saying, held_changed}
use Rattle.paper_carry.specs.Spelling.{longest_sheet, longest_rule}
use Rattle.paper_carry.proofs.Opening.{changed_alike}
use Rattle.paper_carry.proofs.Changed.{Stays, changed_sayable, still_none, new_short}
use Rattle.paper_carry.proofs.Carried.{open_stays}
use Rattle.paper_carry.proofs.Lengths.{sheet_length, rule_length}
use Rattle.paper_carry.proofs.SaidBack.{said_back}
use Rattle.paper_strays.proofs.Dropped.{kept_stays}
use Rattle.carry_records.specs.Changing.{how_changed, InEdition, bytes_of, from_field, changed_from}
use Rattle.carry_records.specs.declared.Change.{Change}
use Rattle.carry_records.specs.declared.Change.TheVariants.{Open, Drop}
use Rattle.carry_records.proofs.FromSaid.{HasBytes, HaveBytes, from_said}
use Rattle.carry_put.specs.Putting.{records_from, put_whole, rule_anew}

-- A pattern that stands has as many bytes as its code.
stands_bytes : {ed : Edition} {s : List ℕ} {b : Body} {h : Held} → Stands ed s b h → HasBytes h b.length
stands_bytes {s = s} no_pattern = refl
stands_bytes {ed} {s = s} (its_pattern b p some within e short) =
    let bytes = body s b.start b.length in
    let its : length (body s b.start b.length) ≡ b.length = length-take-le b.length (drop b.start s) (omega (arith, length-drop b.start s, within)) in
    (some, sym (ap length (judged_code (codes ed bytes) e) ∙ length-map bytes (code ed) ∙ its))

all_bytes : (held : List Held) (bodies : List Body) (f : ℕ) → ((i : ℕ) → i < length held → HasBytes (get_or held i some_text) (bytes_of bodies (f + i)))
    → HaveBytes bodies f held
all_bytes [] bodies f h = tt
all_bytes (x ∷ held) bodies f h = (
  subst (λ (g : ℕ). HasBytes x (bytes_of bodies g)) (add-zero f) (h 0 (omega arith)),
  all_bytes held bodies (suc f) (λ i k.
      let e : f + suc i ≡ suc f + i = omega arith in
      subst (λ (g : ℕ). HasBytes (get_or held i some_text) (bytes_of bodies g)) e (h (suc i) (omega arith))),
)

pub have_bytes : (ed : Edition) (s : List ℕ) (held : List Held) (bodies : List Body) → length held ≡ fields → AllStand ed s bodies held → HaveBytes bodies 0 held
have_bytes ed s held bodies every all =
    all_bytes held bodies 0
    (λ i k. subst (λ (g : ℕ). HasBytes (get_or held i some_text) (bytes_of bodies g)) (sym (zero-add i)) (stands_bytes (all i (omega (arith, every)))))

-- the records of an edition from an offset on, by the sides in which fields stand
module _ (ed : Edition) (c : Change) (i : InEdition ed c) where
  records_whole : (s : List ℕ) (from : ℕ) (held : List Held) (rest : List ℕ) (n : ℕ) → n ≤ most_characters → (l r : Side) → GoodSide n l → GoodSide n r
      → length held ≡ fields → (bodies : List Body) → HaveBytes bodies 0 held → drop from s ≡ patterns_saying ed 0 held ++ rest
      → changed_from c s from bodies (standing_times (padded (side_code l)) (padded (side_code r)))
      ≡ patterns_saying ed 0 (changed (how_changed c) (λ (f : ℕ). stands_in f (l ++ r)) 0 held) ++ rest
  unfolding changed_from
  records_whole s from held rest n most l r g h every bodies b e =
      let left = padded (side_code l) in
      let right = padded (side_code r) in
      let counts = standing_times left right in
      ap (λ (n : ℕ). from_field c n s from 0 bodies counts) (sym every)
      ∙ from_said ed c i held s from 0 bodies counts rest b e
      ∙ ap (λ (m : List Held). patterns_saying ed 0 m ++ rest)
      (changed_alike (how_changed c) (is_counted counts) (λ (f : ℕ). stands_in f (l ++ r)) held 0
      (λ f k.
      ap (λ (n : ℕ). not (eqb n 0)) (standings_are (l ++ r) (both_have_sets n most l r g h) left right (sides_back n most l r g h) (0 + f) (omega (arith, every)))
      ∙ stands_times (0 + f) (l ++ r)))

  -- what is so of patterns stays so
  change_stays : Stays (how_changed c) (alphabet_of ed).characters
  change_stays = by_change c i
    where
      some : (e : Edition) → 0 < (alphabet_of e).characters
      some edition_1 = omega arith
      some edition_2 = omega arith

      by_change : (c : Change) → InEdition ed c → Stays (how_changed c) (alphabet_of ed).characters
      by_change (Open e) k =
          subst (λ (d : Edition). Stays (how_changed (Open e)) (alphabet_of d).characters) k
          (open_stays (alphabet_of (paper_edition e)).characters (some (paper_edition e)))
      by_change Drop k = kept_stays (alphabet_of ed).characters

-- the edition's record stands in front of the others
from_is : (ed : Edition) → records_from ed ≡ length (edition_laid (edition_byte ed))
from_is edition_1 = refl
from_is edition_2 = refl

module _ (s : List ℕ) (q : Question) (asks : read_before s ≡ asked q) (c : Change) (i : InEdition (edition_of q.alphabet) c) where
  sayable : Sayable q
  sayable = before_sayable s q asks

  good : GoodQuestion q
  good = sayable.good

  abbrev ed : Edition
  ed = edition_of q.alphabet

  abbrev front : List ℕ
  front = edition_laid (edition_byte ed)

  parts : s ≡ front ++ behind_edition ed q
  parts = sym (said_back s q asks) ∙ said_parts q

  pub sheet_whole : (left right : List ℕ) → left ≡ padded (side_code q.left) → right ≡ padded (side_code q.right)
      → (bodies : List Body) → bodies ≡ bodies_of s → (counts : List ℕ) → counts ≡ standing_times left right
      → put_whole c s (records_from ed) bodies counts ≡ sheet_saying (question_changed (how_changed c) q)
  sheet_whole left right l r bodies b counts e =
      let from = records_from ed in
      let in_front : take from s ≡ front = ap (take from) parts ∙ take_at front (behind_edition ed q) from (sym (from_is ed)) in
      let said : drop from s ≡ behind_edition ed q = ap (drop from) parts ∙ drop_at front (behind_edition ed q) from (sym (from_is ed)) in
      let there = have_bytes ed s q.held (bodies_of s) good.held.each_field (before_stands s q asks) in
      let sides_said = side_saying ed LE q.left ++ side_saying ed RI q.right in
      ap₂ (λ (a b : List ℕ). a ++ b) in_front
      (ap₂ (changed_from c s from) b (e ∙ ap₂ standing_times l r)
      ∙ records_whole ed c i s from q.held sides_said q.alphabet.characters (good_most good) q.left q.right good.left good.right good.held.each_field
      (bodies_of s) there said)
      ∙ sym (said_parts (question_changed (how_changed c) q))

  pub sheet_short : length (sheet_saying (question_changed (how_changed c) q)) ≤ longest_sheet
  sheet_short = sheet_length (question_changed (how_changed c) q) (changed_sayable (how_changed c) q (rw good.alphabet (change_stays ed c i)) sayable)

module _ (r : Rule) (good : GoodRule r) (c : Change) (i : InEdition edition_1 c) where
  good_side : GoodSide characters r.side
  good_side = record { tokens = λ t d. own_in_range t (good.tokens t d); short = good.short }

  no_side : GoodSide characters []
  no_side = record { tokens = λ t d. absurd (Memᴰ.not-nil d); short = omega arith }

  pub rule_whole : (s : List ℕ) → rule_saying r.fields.held r.side ≡ s → (side : List ℕ) → side ≡ padded (side_code r.side)
      → (bodies : List Body) → HaveBytes bodies 0 r.fields.held → (counts : List ℕ) → counts ≡ standing_times side (padded [])
      → put_whole c s 2 bodies counts ≡ rule_anew c r
  rule_whole s said side l bodies b counts e =
      let its = side_saying edition_1 LE r.side in
      let most : characters ≤ most_characters = omega arith in
      ap₂ (λ (a b : List ℕ). a ++ b) (sym (ap (take 2) said))
      (ap (changed_from c s 2 bodies) (e ∙ ap (λ (x : List ℕ). standing_times x (padded [])) l)
      ∙ records_whole edition_1 c i s 2 r.fields.held its characters most r.side [] good_side no_side good.held.each_field bodies b (sym (ap (drop 2) said))
      ∙ ap (λ (side : Side). patterns_saying edition_1 0 (changed (how_changed c) (λ (f : ℕ). stands_in f side) 0 r.fields.held) ++ its) (append-nil r.side))

  pub rule_short : length (rule_anew c r) ≤ longest_rule
  rule_short =
      let stays = change_stays edition_1 c i in
      rule_length (held_changed (how_changed c) r) r.side (new_short (how_changed c) stays r good) (still_none (how_changed c) stays r good) good.short
