-- Writing what was read from a good sheet, or from a rule, gives the same bytes.
--   said_back      : read_before s ≡ asked q → sheet_saying q ≡ s
--   rule_said_back : rule_front s ≡ records r n → rule_saying r.fields.held r.side ≡ take n s
--   rule_top       : and where the fields from k on have no pattern, no field named by one is above k
-- Follows from the checks on the records, test by test: what the records in front of an offset say are the bytes in front of it. Field numbers rise,
-- so a further record is said behind all that were read.
use Prim.Native.Nat.{ℕ, zero, suc, ◌+◌, ◌-◌, ◌≤◌, ◌<◌}
use native.Mathlib.Nat.{zero-add, add-zero}
use native.Mathlib.Omega.{arith}
use mathlib.Core.Path.{◌≡◌, refl, sym, ap, ◌∙◌, subst}
use mathlib.Core.Bool.{Bool, true, ◌||◌}
use mathlib.Core.List.{List, [], ◌∷◌, ◌++◌, map, append_assoc, append-nil}
use lib.Dec.{leb, ltb, eqb}
use lib.ListN.{length, get_or, take, drop, set, length-set, length-drop, length-map, length-replicate}
use lib.Seq.{length-take-le, take_all, take-add, drop-drop, get_or-drop, get_or-set_same, get_or-set_other}
use Rattle.paper.specs.Lists.{all}
use Rattle.paper.specs.Numbers.{most_characters, fields, field_token, pattern_bytes, sheet_side}
use Rattle.paper.specs.Pattern.{Pattern, Held, some_text, pattern}
use Rattle.paper.specs.Written.{Judged, judged, judge}
use Rattle.paper.specs.Written as Written
use Rattle.paper.specs.Equation.{Side}
use Rattle.paper.specs.Alphabet.{Edition, edition_1, edition_2, alphabet_of, code, codes, bytes_of}
use Rattle.paper.specs.Question.{Question}
use Rattle.paper.specs.Sheet.{Checked, fault, read, FieldPattern, byte_at, bytes_left, body, body_codes, Mark, PA, LE, RI, RU, ED, first_letter, second_letter, marked}
use Rattle.paper.specs.Sheet.{pattern_judged, pattern_record, is_token, token, side_record, next_is, marked_side, Records, faulty, records, Fields}
use Rattle.paper.specs.Sheet.{open_fields, with_pattern, pattern_read, read_patterns, Reading, refused, asked, read_end, right_read, left_read}
use Rattle.paper.specs.Sheet.{no_check, sides_read, edition_front, edition_read, read_by, read_before}
use Rattle.paper.specs.Rule.{Rule, rule_holds, with_side, side_read, rule_front}
use Rattle.paper.specs.Saying.{edition_laid, edition_byte, pattern_code, token_byte, mark_bytes, pattern_saying, patterns_saying, side_saying, sheet_saying}
use Rattle.paper.proofs.base.Tests.{cond_by, by_bool, true_false, and_left, and_right, or_left_false, or_right_false}
use Rattle.paper.proofs.base.Tests.{leb_true, leb_false, ltb_false, le_ltb, lt_ltb, eqb_true}
use Rattle.paper.proofs.base.Lists.{cons_eq}
use Rattle.paper_laws.proofs.saying.Code.{judged_code, judged_bytes}
use Rattle.paper_laws.proofs.saying.SaidParts.{said_parts}
use Rattle.paper_laws.proofs.sheets.Asked.{open_by}
use Rattle.paper_laws.proofs.sheets.Editions.{most_of, Byte, of_character, of_sign, of_none, byte_by}
use Rattle.paper_carry.specs.Opened.{rule_saying}

-- A record's bytes, by its first three or four.
three_first : (t : List ℕ) (n : ℕ) → 3 ≤ length t → take (3 + n) t ≡ byte_at t 0 ∷ byte_at t 1 ∷ byte_at t 2 ∷ take n (drop 3 t)
three_first [] n h = absurd (omega arith)
three_first (a ∷ []) n h = absurd (omega arith)
three_first (a ∷ b ∷ []) n h = absurd (omega arith)
three_first (a ∷ b ∷ c ∷ t) n h = take-add 3 n (a ∷ b ∷ c ∷ t)

four_first : (t : List ℕ) (n : ℕ) → 4 ≤ length t
    → take (4 + n) t ≡ byte_at t 0 ∷ byte_at t 1 ∷ byte_at t 2 ∷ byte_at t 3 ∷ take n (drop 4 t)
four_first [] n h = absurd (omega arith)
four_first (a ∷ []) n h = absurd (omega arith)
four_first (a ∷ b ∷ []) n h = absurd (omega arith)
four_first (a ∷ b ∷ c ∷ []) n h = absurd (omega arith)
four_first (a ∷ b ∷ c ∷ d ∷ t) n h = take-add 4 n (a ∷ b ∷ c ∷ d ∷ t)

-- Tokens: the byte of what a byte says.
module _ (ed : Edition) where
  back_by : {b c : ℕ} → Byte ed b c → is_token c ≡ true → token_byte ed (token c) ≡ b
  back_by (of_character {b = b} h) e = rw (lt_ltb b most_characters (omega (arith, most_of ed)))
  back_by (of_sign {f = f} h) e =
      let same : field_token + f - field_token ≡ f = omega arith in
      rw (le_ltb (field_token + f) most_characters (omega arith), same)
  back_by of_none e = absurd (true_false e refl)

  token_back : (b : ℕ) → is_token (code ed b) ≡ true → token_byte ed (token (code ed b)) ≡ b
  token_back b = back_by (byte_by ed b)

  tokens_back : (l : List ℕ) → all is_token (codes ed l) ≡ true → map (token_byte ed) (map token (codes ed l)) ≡ l
  tokens_back [] e = refl
  tokens_back (b ∷ l) e =
      let here = is_token (code ed b) in
      let more = all is_token (codes ed l) in
      cons_eq (token_back b (and_left here more e)) (tokens_back l (and_right here more e))

-- Records at an offset.
module _ (s : List ℕ) (at : ℕ) where
  module _ (m : Mark) (e : marked m s at ≡ true) where
    mark_first : byte_at (drop at s) 0 ≡ first_letter m
    unfolding marked
    mark_first =
        get_or-drop at s 0 0 ∙ ap (byte_at s) (add-zero at)
        ∙ eqb_true (byte_at s at) (first_letter m)
        (and_left (eqb (byte_at s at) (first_letter m)) (eqb (byte_at s (at + 1)) (second_letter m)) e)

    mark_second : byte_at (drop at s) 1 ≡ second_letter m
    unfolding marked
    mark_second =
        get_or-drop at s 1 0
        ∙ eqb_true (byte_at s (at + 1)) (second_letter m)
        (and_right (eqb (byte_at s at) (first_letter m)) (eqb (byte_at s (at + 1)) (second_letter m)) e)

  -- a body that is there has its length
  body_length : (k n : ℕ) → k + n ≤ bytes_left s at → length (body s (at + k) n) ≡ n
  body_length k n h = let l = length-drop (at + k) s in length-take-le n (drop (at + k) s) (omega arith)

  module _ (ed : Edition) where
    side_bytes : (m : Mark) → marked m s at ≡ true → 3 + byte_at s (at + 2) ≤ bytes_left s at
        → all is_token (body_codes ed s (at + 3) (byte_at s (at + 2))) ≡ true
        → body s at (3 + byte_at s (at + 2)) ≡ side_saying ed m (map token (body_codes ed s (at + 3) (byte_at s (at + 2))))
    side_bytes m e h t =
        let n = byte_at s (at + 2) in
        let b = body s (at + 3) n in
        let l = length-drop at s in
        three_first (drop at s) n (omega arith)
        ∙ cons_eq (mark_first m e) (cons_eq (mark_second m e)
        (cons_eq (get_or-drop at s 2 0 ∙ sym (length-map (codes ed b) token ∙ length-map b (code ed) ∙ body_length 3 n h))
        (ap (take n) (drop-drop 3 at s) ∙ sym (tokens_back ed b t))))

    pattern_bytes_said : (p : Pattern) → marked PA s at ≡ true → 4 + byte_at s (at + 3) ≤ bytes_left s at
        → judge (body_codes ed s (at + 4) (byte_at s (at + 3))) ≡ judged p
        → body s at (4 + byte_at s (at + 3)) ≡ pattern_saying ed (byte_at s (at + 2)) (pattern p)
    pattern_bytes_said p e h j =
        let n = byte_at s (at + 3) in
        let b = body s (at + 4) n in
        let l = length-drop at s in
        let its-code = judged_code (codes ed b) j in
        four_first (drop at s) n (omega arith)
        ∙ cons_eq (mark_first PA e) (cons_eq (mark_second PA e) (cons_eq (get_or-drop at s 2 0)
        (cons_eq (get_or-drop at s 3 0 ∙ sym (ap length its-code ∙ length-map b (code ed) ∙ body_length 4 n h))
        (ap (take n) (drop-drop 4 at s) ∙ sym (judged_bytes ed b j)))))

not_open : (p : Pattern) → pattern p ≡ some_text → ⊥
not_open p e = let z : ◌≡◌ {A = ℕ} 0 1 = cc in omega arith

next_marked : (m : Mark) (s : List ℕ) (at : ℕ) → next_is m s at ≡ true → marked m s at ≡ true
unfolding next_is
next_marked m s at =
    cond_by (λ (b : Bool). b ≡ true → marked m s at ≡ true) (ltb (bytes_left s at) 2) (λ _ e. absurd (true_false e refl)) (λ _ e. e)

-- In an edition.
module _ (ed : Edition) where
  -- What a pattern's record says, and the bytes up to its end.
  record Taken (s : List ℕ) (at least : ℕ) (fp : FieldPattern) (next : ℕ) : Type 0 where
    known : fp.field < fields
    rises : least ≤ fp.field
    bytes : take next s ≡ take at s ++ pattern_saying ed fp.field (pattern fp.its)

  abbrev Takes : List ℕ → ℕ → ℕ → Checked FieldPattern → Type 0
  Takes s at least (fault x place) = Unit {0}
  Takes s at least (read fp next) = Taken s at least fp next

  module _ (s : List ℕ) (at least : ℕ) (m : marked PA s at ≡ true) where
    judged_takes : (j : Judged) → judge (body_codes ed s (at + 4) (byte_at s (at + 3))) ≡ j → byte_at s (at + 2) < fields → least ≤ byte_at s (at + 2)
        → 4 + byte_at s (at + 3) ≤ bytes_left s at
        → Takes s at least (pattern_judged j (at + 4) (byte_at s (at + 2)) (at + (4 + byte_at s (at + 3))))
    judged_takes (Written.not_one_pattern i) e known rises there = tt
    judged_takes (Written.too_many_leaves i) e known rises there = tt
    judged_takes (judged p) e known rises there =
        record {
          known = known;
          rises = rises;
          bytes = take-add at (4 + byte_at s (at + 3)) s ∙ ap (λ (l : List ℕ). take at s ++ l) (pattern_bytes_said s at ed p m there e);
        }

    record_takes : Takes s at least (pattern_record ed s at least)
    unfolding pattern_record
    record_takes =
        let f = byte_at s (at + 2) in
        let n = byte_at s (at + 3) in
        cond_by (Takes s at least) (ltb (bytes_left s at) 4) (λ _. tt)
        (λ _. cond_by (Takes s at least) (leb fields f || ltb f least) (λ _. tt)
        (λ i. cond_by (Takes s at least) (eqb n 0 || ltb pattern_bytes n) (λ _. tt)
        (λ _. cond_by (Takes s at least) (ltb (bytes_left s at) (4 + n)) (λ _. tt)
        (λ there. judged_takes (judge (body_codes ed s (at + 4) n)) refl
        (leb_false fields f (or_left_false (leb fields f) (ltb f least) i))
        (ltb_false f least (or_right_false (leb fields f) (ltb f least) i))
        (ltb_false (bytes_left s at) (4 + n) there)))))

  -- Open fields say nothing, so a pattern behind all others is said behind them.
  none_said : (a : ℕ) (held : List Held) → ((f : ℕ) → get_or held f some_text ≡ some_text) → patterns_saying ed a held ≡ []
  none_said a [] h = refl
  none_said a (x ∷ held) h = rw (h 0) (none_said (suc a) held (λ f. h (suc f)))

  one_more_said : (held : List Held) (a f : ℕ) (p : Pattern) → f < length held → ((i : ℕ) → f ≤ i → get_or held i some_text ≡ some_text)
      → patterns_saying ed a (set held f (pattern p)) ≡ patterns_saying ed a held ++ pattern_saying ed (a + f) (pattern p)
  one_more_said [] a f p k h = absurd (omega arith)
  one_more_said (x ∷ held) a zero p k h =
      let later = none_said (suc a) held (λ i. h (suc i) (omega arith)) in
      rw (h 0 (omega arith), later, add-zero a, append-nil (bytes_of ed (pattern_code p)))
  one_more_said (x ∷ held) a (suc f) p k h =
      let behind = one_more_said held (suc a) f p (omega arith) (λ i l. h (suc i) (omega arith)) in
      let same : suc a + f ≡ a + suc f = omega arith in
      ap (λ (l : List ℕ). pattern_saying ed a x ++ l) behind
      ∙ sym (append_assoc (pattern_saying ed a x) (patterns_saying ed (suc a) held) (pattern_saying ed (suc a + f) (pattern p)))
      ∙ ap (λ (i : ℕ). (pattern_saying ed a x ++ patterns_saying ed (suc a) held) ++ pattern_saying ed i (pattern p)) same

  -- What stands in front of the patterns' records, and what those in front of an offset say, are the bytes in front of it.
  module _ (front : List ℕ) where
    record SaidBefore (s : List ℕ) (at : ℕ) (fs : Fields) : Type 0 where
      every : length fs.held ≡ fields
      later : (f : ℕ) → fs.above ≤ f → get_or fs.held f some_text ≡ some_text
      bytes : front ++ patterns_saying ed 0 fs.held ≡ take at s
      -- the last pattern's field has a pattern
      top : (k : ℕ) → ((f : ℕ) → k ≤ f → get_or fs.held f some_text ≡ some_text) → fs.above ≤ k

    abbrev held_with : Fields → FieldPattern → List Held
    held_with fs fp = set fs.held fp.field (pattern fp.its)

    top_with : (fs : Fields) (fp : FieldPattern) → fp.field < length fs.held → (k : ℕ)
        → ((f : ℕ) → k ≤ f → get_or (held_with fs fp) f some_text ≡ some_text) → suc fp.field ≤ k
    top_with fs fp there k none =
        by_bool (leb k fp.field)
        (λ h. absurd (not_open fp.its (sym (get_or-set_same fs.held fp.field (pattern fp.its) some_text there) ∙ none fp.field (leb_true k fp.field h))))
        (λ h. let l = leb_false k fp.field h in omega arith)

    more_before : (s : List ℕ) (at : ℕ) (fs : Fields) (fp : FieldPattern) (next : ℕ) → SaidBefore s at fs → Taken s at fs.above fp next
        → SaidBefore s next (with_pattern fs at fp)
    more_before s at fs fp next b t =
        let rises = t.rises in
        let known = t.known in
        let every = b.every in
        let said = pattern_saying ed fp.field (pattern fp.its) in
        record {
          every = length-set fs.held fp.field (pattern fp.its) ∙ b.every;
          later = λ (f : ℕ) (h : suc fp.field ≤ f).
              get_or-set_other fs.held fp.field f (pattern fp.its) some_text (λ (e : f ≡ fp.field). omega arith) ∙ b.later f (omega arith);
          bytes =
              ap (λ (l : List ℕ). front ++ l)
              (one_more_said fs.held 0 fp.field fp.its (omega arith) (λ i h. b.later i (omega arith))
              ∙ ap (λ (i : ℕ). patterns_saying ed 0 fs.held ++ pattern_saying ed i (pattern fp.its)) (zero-add fp.field))
              ∙ sym (append_assoc front (patterns_saying ed 0 fs.held) said)
              ∙ ap (λ (l : List ℕ). l ++ said) b.bytes ∙ sym t.bytes;
          top = top_with fs fp (omega arith);
        }

    abbrev Listed : List ℕ → Records Fields → Type 0
    Listed s (faulty x at) = Unit {0}
    Listed s (records fs next) = SaidBefore s next fs

    behind_before : (s : List ℕ) (at : ℕ) (fs : Fields) (go_on : ℕ → Fields → Records Fields) (x : Checked FieldPattern)
        → ((next : ℕ) (more : Fields) → SaidBefore s next more → Listed s (go_on next more))
        → SaidBefore s at fs → Takes s at fs.above x → Listed s (pattern_read fs at go_on x)
    behind_before s at fs go_on (fault x place) i b t = tt
    behind_before s at fs go_on (read fp next) i b t = i next (with_pattern fs at fp) (more_before s at fs fp next b t)

    patterns_before : (n : ℕ) (s : List ℕ) (at : ℕ) (fs : Fields) → SaidBefore s at fs → Listed s (read_patterns ed n s at fs)
    patterns_before zero s at fs b = tt
    patterns_before (suc n) s at fs b =
        cond_by (Listed s) (next_is PA s at)
        (λ h. behind_before s at fs (read_patterns ed n s) (pattern_record ed s at fs.above) (patterns_before n s) b
        (record_takes s at fs.above (next_marked PA s at h)))
        (λ _. b)

    open_before : (s : List ℕ) (at : ℕ) → front ≡ take at s → SaidBefore s at open_fields
    open_before s at e =
        record {
          every = length-replicate fields some_text;
          later = λ f h. open_by (λ (x : Held). x ≡ some_text) refl fields f;
          bytes = append-nil front ∙ e;
          top = λ k h. omega arith;
        }

  -- A side, and the bytes up to its end.
  abbrev SideTakes : Mark → List ℕ → ℕ → Checked Side → Type 0
  SideTakes m s at (fault x place) = Unit {0}
  SideTakes m s at (read side next) = take next s ≡ take at s ++ side_saying ed m side

  side_takes : (m : Mark) (s : List ℕ) (at : ℕ) → marked m s at ≡ true → SideTakes m s at (side_record ed s at)
  unfolding side_record
  side_takes m s at e =
      let n = byte_at s (at + 2) in
      cond_by (SideTakes m s at) (ltb (bytes_left s at) 3) (λ _. tt)
      (λ _. cond_by (SideTakes m s at) (ltb sheet_side n) (λ _. tt)
      (λ _. cond_by (SideTakes m s at) (ltb (bytes_left s at) (3 + n)) (λ _. tt)
      (λ there. cond_by (SideTakes m s at) (all is_token (body_codes ed s (at + 3) n))
      (λ t. take-add at (3 + n) s ∙ ap (λ (l : List ℕ). take at s ++ l) (side_bytes s at ed m e (ltb_false (bytes_left s at) (3 + n) there) t))
      (λ _. tt))))

  marked_takes : (m : Mark) (s : List ℕ) (at : ℕ) → SideTakes m s at (marked_side ed m s at)
  unfolding marked_side
  marked_takes m s at =
      cond_by (SideTakes m s at) (ltb (bytes_left s at) 2) (λ _. tt)
      (λ _. cond_by (SideTakes m s at) (marked m s at) (side_takes m s at) (λ _. tt))

-- The edition's record: the bytes in front of all others.
abbrev EditionTakes : List ℕ → Checked Edition → Type 0
EditionTakes s (fault x at) = Unit {0}
EditionTakes s (read ed at) = edition_laid (edition_byte ed) ≡ take at s

edition_in_front : (s : List ℕ) → 3 ≤ length s → marked ED s 0 ≡ true → byte_at s 2 ≡ 2 → edition_laid 2 ≡ take 3 s
edition_in_front [] h e b = absurd (omega arith)
edition_in_front (x ∷ []) h e b = absurd (omega arith)
edition_in_front (x ∷ y ∷ []) h e b = absurd (omega arith)
edition_in_front (x ∷ y ∷ z ∷ s) h e b =
    let all = x ∷ y ∷ z ∷ s in sym (cons_eq (mark_first all 0 ED e) (cons_eq (mark_second all 0 ED e) (cons_eq b refl)))

edition_takes : (s : List ℕ) → EditionTakes s (edition_front s)
unfolding edition_front
edition_takes s =
    cond_by (EditionTakes s) (next_is ED s 0)
    (λ m. cond_by (EditionTakes s) (ltb (length s) 3) (λ _. tt)
    (λ h. cond_by (EditionTakes s) (eqb (byte_at s 2) 2)
    (λ b. edition_in_front s (ltb_false (length s) 3 h) (next_marked ED s 0 m) (eqb_true (byte_at s 2) 2 b))
    (λ _. tt)))
    (λ _. refl)

-- The sides behind the patterns, and the end, where nothing is left.
abbrev Asks : List ℕ → Reading → Type 0
Asks s (refused x at) = Unit {0}
Asks s (asked q) = sheet_saying q ≡ s

end_asks : (s : List ℕ) (at : ℕ) (marks : List ℕ) (q : Question) → sheet_saying q ≡ take at s → Asks s (read_end no_check s at marks q)
unfolding read_end
end_asks s at marks q e = cond_by (Asks s) (ltb at (length s)) (λ _. tt) (λ h. e ∙ take_all at s (ltb_false at (length s) h))

-- the question that an edition's sheet asks, said record by record
abbrev question_in : Edition → List Held → Side → Side → Question
question_in ed held l r = record { alphabet = alphabet_of ed; left = l; right = r; held = held }

said_in : (ed : Edition) (held : List Held) (l r : Side)
    → sheet_saying (question_in ed held l r)
    ≡ edition_laid (edition_byte ed) ++ (patterns_saying ed 0 held ++ (side_saying ed LE l ++ side_saying ed RI r))
said_in edition_1 held l r = said_parts (question_in edition_1 held l r)
said_in edition_2 held l r = said_parts (question_in edition_2 held l r)

module _ (ed : Edition) where
  abbrev front_bytes : List ℕ
  front_bytes = edition_laid (edition_byte ed)

  right_asks : (s : List ℕ) (fs : Fields) (l : Side) (at : ℕ) (x : Checked Side)
      → (front_bytes ++ patterns_saying ed 0 fs.held) ++ side_saying ed LE l ≡ take at s → SideTakes ed RI s at x → Asks s (right_read no_check ed s fs l x)
  right_asks s fs l at (fault x place) e k = tt
  right_asks s fs l at (read r next) e k =
      let held = fs.held in
      let patterns = patterns_saying ed 0 held in
      let left = side_saying ed LE l in
      let right = side_saying ed RI r in
      end_asks s next fs.marks (question_in ed held l r)
      (said_in ed held l r ∙ sym (append_assoc front_bytes patterns (left ++ right)) ∙ sym (append_assoc (front_bytes ++ patterns) left right)
      ∙ ap (λ (b : List ℕ). b ++ right) e ∙ sym k)

  left_asks : (s : List ℕ) (fs : Fields) (at : ℕ) (x : Checked Side)
      → front_bytes ++ patterns_saying ed 0 fs.held ≡ take at s → SideTakes ed LE s at x → Asks s (left_read no_check ed s fs x)
  left_asks s fs at (fault x place) e k = tt
  left_asks s fs at (read l next) e k =
      right_asks s fs l next (marked_side ed RI s next) (ap (λ (b : List ℕ). b ++ side_saying ed LE l) e ∙ sym k) (marked_takes ed RI s next)

  sides_ask : (s : List ℕ) (x : Records Fields) → Listed ed front_bytes s x → Asks s (sides_read no_check ed s x)
  sides_ask s (faulty x at) b = tt
  sides_ask s (records fs at) b = left_asks s fs at (marked_side ed LE s at) b.bytes (marked_takes ed LE s at)

edition_asks : (s : List ℕ) (x : Checked Edition) → EditionTakes s x → Asks s (edition_read no_check s x)
edition_asks s (fault x at) e = tt
edition_asks s (read ed at) e =
    let front = edition_laid (edition_byte ed) in
    sides_ask ed s (read_patterns ed (suc (length s)) s at open_fields)
    (patterns_before ed front (suc (length s)) s at open_fields (open_before ed front s at e))

pub said_back : (s : List ℕ) (q : Question) → read_before s ≡ asked q → sheet_saying q ≡ s
unfolding read_by
said_back s q e = subst (Asks s) e (edition_asks s (edition_front s) (edition_takes s))

-- A rule: its mark, its patterns, its side.
record RuleSaid (s : List ℕ) (r : Rule) (next : ℕ) : Type 0 where
  bytes : rule_saying r.fields.held r.side ≡ take next s
  top : (k : ℕ) → ((f : ℕ) → k ≤ f → rule_holds r f ≡ some_text) → r.fields.above ≤ k

abbrev RuleListed : List ℕ → Records Rule → Type 0
RuleListed s (faulty x at) = Unit {0}
RuleListed s (records r next) = RuleSaid s r next

with_side_said : (s : List ℕ) (fs : Fields) (at : ℕ) (x : Checked Side) → SaidBefore edition_1 (mark_bytes RU) s at fs → SideTakes edition_1 LE s at x
    → RuleListed s (with_side fs x)
with_side_said s fs at (fault x place) b k = tt
with_side_said s fs at (read side next) b k =
    record { bytes = ap (λ (l : List ℕ). l ++ side_saying edition_1 LE side) b.bytes ∙ sym k; top = b.top }

side_read_said : (s : List ℕ) (x : Records Fields) → Listed edition_1 (mark_bytes RU) s x → RuleListed s (side_read s x)
side_read_said s (faulty x at) b = tt
side_read_said s (records fs at) b = with_side_said s fs at (marked_side edition_1 LE s at) b (marked_takes edition_1 LE s at)

mark_in_front : (s : List ℕ) → 2 ≤ length s → marked RU s 0 ≡ true → mark_bytes RU ≡ take 2 s
mark_in_front [] h e = absurd (omega arith)
mark_in_front (a ∷ []) h e = absurd (omega arith)
mark_in_front (a ∷ b ∷ s) h e = sym (cons_eq (mark_first (a ∷ b ∷ s) 0 RU e) (cons_eq (mark_second (a ∷ b ∷ s) 0 RU e) refl))

front_said : (s : List ℕ) → RuleListed s (rule_front s)
unfolding rule_front
front_said s =
    cond_by (RuleListed s) (ltb (length s) 2) (λ _. tt)
    (λ h. cond_by (RuleListed s) (marked RU s 0)
    (λ e. side_read_said s (read_patterns edition_1 (suc (length s)) s 2 open_fields)
    (patterns_before edition_1 (mark_bytes RU) (suc (length s)) s 2 open_fields
    (open_before edition_1 (mark_bytes RU) s 2 (mark_in_front s (ltb_false (length s) 2 h) e))))
    (λ _. tt))

module _ (s : List ℕ) {r : Rule} {n : ℕ} (e : rule_front s ≡ records r n) where
  said : RuleSaid s r n
  said = subst (RuleListed s) e (front_said s)

  pub rule_said_back : rule_saying r.fields.held r.side ≡ take n s
  rule_said_back = said.bytes

  pub rule_top : (k : ℕ) → ((f : ℕ) → k ≤ f → rule_holds r f ≡ some_text) → r.fields.above ≤ k
  rule_top = said.top
