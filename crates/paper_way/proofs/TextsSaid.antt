-- Reading the answer records of texts, and writing them, are inverse to each other:
--   read_says  : what is read from bytes are texts whose records the bytes are (`Says`)
--   says_read  : and such texts are read
-- Follows from the definition, test by test, and by induction on the fields.
use Prim.Native.Nat.{ℕ, zero, suc, ◌+◌, ◌*◌, ◌/◌, ◌%◌, ◌≤◌, ◌<◌}
use native.Mathlib.Omega.{arith}
use mathlib.Core.Path.{◌≡◌, refl, sym, ap, ◌∙◌, subst, fun_ext}
use mathlib.Core.Bool.{true, false, cond, not}
use mathlib.Core.List.Memᴰ
use mathlib.Core.List.{List, [], ◌∷◌, ◌++◌, Memᴰ}
use lib.Dec.{ltb, eqb}
use lib.ListN.{length, get_or, take, drop, take-append-drop, length-append}
use lib.Seq.{length-take-le, take-append_seam, drop-append_seam}
use Rattle.paper.specs.Lists.{from, all, each, member}
use Rattle.paper.specs.Numbers.{fields}
use Rattle.paper.specs.Equation.{Texts, Over, stands_in}
use Rattle.paper.specs.Question.{Question}
use Rattle.paper.specs.Outcome.{standing, value_record}
use Rattle.paper.proofs.base.Tests.{never, by_bool, cond_by, not_is_false, both_false, ltb_true, ltb_false, lt_ltb, le_ltb, eqb_true, eqb_same, eqb_symmetric, eq_eqb, neq_eqb}
use Rattle.paper.proofs.base.Lists.{NoDup, none, more, nodup_keep, all_true, every_all, mem_from, mem_member, cons_eq}
use Rattle.paper_way.specs.TextRecords.{text_mark_1, text_mark_2, text_head, TextFront, no_text, its_text, values_front, text_front, TextsRead, no_texts, texts_read, with_text, front_read, texts_from, no_texts_yet, read_texts}
use Rattle.paper_way.specs.WayPromised.{Says}

-- the numbers that count are different
from_different : (a n : ℕ) → NoDup (from a n)
from_different a zero = none
from_different a (suc n) = more {x = a} {l = from (suc a) n} (λ d. let h = mem_from (suc a) n d in omega (arith, h.0)) (from_different (suc a) n)

-- what values in front say of bytes
abbrev ValuesAre : ℕ → ℕ → List ℕ → TextFront → Type 0
ValuesAre n k bytes no_text = Unit {0}
ValuesAre n k bytes (its_text w later) = (bytes ≡ w ++ later) × (length w ≡ k) × Over n w

values_are : (n k : ℕ) (bytes : List ℕ) → ValuesAre n k bytes (values_front n k bytes)
values_are n k bytes =
    cond_by (ValuesAre n k bytes) (ltb (length bytes) k) (λ _. tt)
    (λ h.
    cond_by (ValuesAre n k bytes) (not (all (λ (c : ℕ). ltb c n) (take k bytes))) (λ _. tt)
    (λ i. (
      sym (take-append-drop k bytes),
      length-take-le k bytes (ltb_false (length bytes) k h),
      λ c d. ltb_true c n (all_true (λ (x : ℕ). ltb x n) (take k bytes) (not_is_false i) d),
    )))

-- and a record in front
abbrev pub TextIs : ℕ → ℕ → List ℕ → TextFront → Type 0
TextIs n f bytes no_text = Unit {0}
TextIs n f bytes (its_text w later) = (bytes ≡ value_record f w ++ later) × Over n w

head_bytes : (bytes : List ℕ) → 5 ≤ length bytes
    → bytes ≡ get_or bytes 0 0 ∷ get_or bytes 1 0 ∷ get_or bytes 2 0 ∷ get_or bytes 3 0 ∷ get_or bytes 4 0 ∷ drop 5 bytes
head_bytes [] h = absurd (omega arith)
head_bytes (a ∷ []) h = absurd (omega arith)
head_bytes (a ∷ b ∷ []) h = absurd (omega arith)
head_bytes (a ∷ b ∷ g ∷ []) h = absurd (omega arith)
head_bytes (a ∷ b ∷ g ∷ l ∷ []) h = absurd (omega arith)
head_bytes (a ∷ b ∷ g ∷ l ∷ u ∷ rest) h = refl

module _ (n f : ℕ) (bytes : List ℕ) where
  abbrev low : ℕ
  low = get_or bytes 3 0

  abbrev high : ℕ
  high = get_or bytes 4 0

  its_record : (x : TextFront) → bytes ≡ text_mark_1 ∷ text_mark_2 ∷ f ∷ low ∷ high ∷ drop 5 bytes → low < 256
      → ValuesAre n (low + 256 * high) (drop 5 bytes) x → TextIs n f bytes x
  unfolding value_record
  its_record no_text e h v = tt
  its_record (its_text w later) e h (said, many, over) =
      let l : low ≡ length w % 256 = omega arith in
      let u : high ≡ length w / 256 = omega arith in
      (e ∙ cons_eq refl (cons_eq refl (cons_eq refl (cons_eq l (cons_eq u said)))), over)

  pub front_is : TextIs n f bytes (text_front n f bytes)
  unfolding text_front
  front_is =
      let P = TextIs n f bytes in
      cond_by P (ltb (length bytes) text_head) (λ _. tt)
      (λ long.
      cond_by P (not (eqb (get_or bytes 0 0) text_mark_1)) (λ _. tt)
      (λ a.
      cond_by P (not (eqb (get_or bytes 1 0) text_mark_2)) (λ _. tt)
      (λ b.
      cond_by P (not (eqb (get_or bytes 2 0) f)) (λ _. tt)
      (λ g.
      cond_by P (not (ltb low 256)) (λ _. tt)
      (λ h.
      its_record (values_front n (low + 256 * high) (drop 5 bytes))
      (head_bytes bytes (ltb_false (length bytes) text_head long)
      ∙ cons_eq (eqb_true (get_or bytes 0 0) text_mark_1 (not_is_false a))
      (cons_eq (eqb_true (get_or bytes 1 0) text_mark_2 (not_is_false b))
      (cons_eq (eqb_true (get_or bytes 2 0) f (not_is_false g)) refl)))
      (ltb_true low 256 (not_is_false h))
      (values_are n (low + 256 * high) (drop 5 bytes)))))))

-- a text's record is read
values_back : (n k : ℕ) (w later : List ℕ) → k ≡ length w → Over n w → values_front n k (w ++ later) ≡ its_text w later
values_back n k w later e over =
    let long : length w ≤ length (w ++ later) = rw length-append (omega arith) in
    rw (e, le_ltb (length (w ++ later)) (length w) long, take-append_seam w later, every_all (λ (c : ℕ). ltb c n) w (λ c d. lt_ltb c n (over c d)), drop-append_seam w later)

front_back : (n f : ℕ) (w later : List ℕ) → Over n w → text_front n f (value_record f w ++ later) ≡ its_text w later
unfolding text_front value_record
front_back n f w later over =
    let m : length w % 256 < 256 = omega arith in
    let k : length w % 256 + 256 * (length w / 256) ≡ length w = omega arith in
    let long : 5 ≤ length (value_record f w ++ later) = omega arith in
    rw (le_ltb (length (value_record f w ++ later)) 5 long, eqb_same f, lt_ltb (length w % 256) 256 m)
    (values_back n (length w % 256 + 256 * (length w / 256)) w later k over)

-- what was read from the records of these fields
record Records (n : ℕ) (before : Texts) (fs bytes : List ℕ) (texts : Texts) : Type 0 where
  said : bytes ≡ each (λ (f : ℕ). value_record f (texts f)) fs
  over : (f : ℕ) → Memᴰ f fs → Over n (texts f)
  others : (f : ℕ) → (Memᴰ f fs → ⊥) → texts f ≡ before f

abbrev AreRecords : ℕ → Texts → List ℕ → List ℕ → TextsRead → Type 0
AreRecords n before fs bytes no_texts = Unit {0}
AreRecords n before fs bytes (texts_read texts) = Records n before fs bytes texts

all_read : (l : List ℕ) → length l ≡ 0 → l ≡ []
all_read [] e = refl
all_read (x ∷ l) e = absurd (omega arith)

module _ (n : ℕ) where
  one_more : (before : Texts) (f : ℕ) (w : List ℕ) (fs bytes later : List ℕ) (x : TextsRead) → (Memᴰ f fs → ⊥)
      → (bytes ≡ value_record f w ++ later) × Over n w → AreRecords n (with_text f w before) fs later x → AreRecords n before (f ∷ fs) bytes x
  one_more before f w fs bytes later no_texts apart (e, o) r = tt
  one_more before f w fs bytes later (texts_read texts) apart (e, o) r =
      let its : texts f ≡ w = r.others f apart ∙ rw (eqb_same f) in
      record {
        said = e ∙ ap (λ (l : List ℕ). value_record f w ++ l) r.said
            ∙ ap (λ (v : List ℕ). value_record f v ++ each (λ (g : ℕ). value_record g (texts g)) fs) (sym its);
        over = over_all;
        others = λ g m. r.others g (λ d. m (Memᴰ.tail d)) ∙ rw (neq_eqb f g (λ (h : f ≡ g). m (Memᴰ.head (sym h))));
      }
    where
      over_all : (g : ℕ) → Memᴰ g (f ∷ fs) → Over n (texts g)
      over_all g (Memᴰ.head h) = subst (λ (k : ℕ). Over n (texts k)) (sym h) (subst (Over n) (sym (r.others f apart ∙ rw (eqb_same f))) o)
      over_all g (Memᴰ.tail d) = r.over g d

  are_records : (before : Texts) {fs : List ℕ} (bytes : List ℕ) → NoDup fs → AreRecords n before fs bytes (texts_from n before fs bytes)
  are_records before bytes none =
      cond_by (AreRecords n before [] bytes) (eqb (length bytes) 0)
      (λ h.
      record {
        said = all_read bytes (eqb_true (length bytes) 0 h);
        over = λ f d. absurd (Memᴰ.not-nil d);
        others = λ f m. refl;
      })
      (λ h. tt)
  are_records before bytes (more {x = f} {l = fs} apart d) = by (λ w later. are_records (with_text f w before) later d) (text_front n f bytes) (front_is n f bytes)
    where
      by : ((w later : List ℕ) → AreRecords n (with_text f w before) fs later (texts_from n (with_text f w before) fs later)) → (x : TextFront)
          → TextIs n f bytes x
          → AreRecords n before (f ∷ fs) bytes (front_read (λ (w : List ℕ) (later : List ℕ). texts_from n (with_text f w before) fs later) x)
      by go_on no_text i = tt
      by go_on (its_text w later) i =
          one_more before f w fs bytes later (texts_from n (with_text f w before) fs later) apart i (go_on w later)

  -- the records of texts are read back
  records_back : (before texts : Texts) (fs : List ℕ) → ((f : ℕ) → Memᴰ f fs → Over n (texts f))
      → ((f : ℕ) → member f fs ≡ false → texts f ≡ before f)
      → texts_from n before fs (each (λ (f : ℕ). value_record f (texts f)) fs) ≡ texts_read texts
  records_back before texts [] over same = ap texts_read (fun_ext (λ f. sym (same f refl)))
  records_back before texts (f ∷ fs) over same =
      let rest = each (λ (g : ℕ). value_record g (texts g)) fs in
      rw (front_back n f (texts f) rest (over f (Memᴰ.head refl)))
      (records_back (with_text f (texts f) before) texts fs (λ g d. over g (Memᴰ.tail d))
      (λ g m.
      by_bool (eqb f g)
      (λ e. rw e (ap texts (sym (eqb_true f g e))))
      (λ e. rw e (same g (both_false (eqb_symmetric g f ∙ e) m)))))

module _ (q : Question) (bytes : List ℕ) where
  standing_different : NoDup (standing q)
  unfolding standing
  standing_different = nodup_keep (λ (f : ℕ). stands_in f (q.left ++ q.right)) (from_different 0 fields)

  pub read_says : (texts : Texts) → read_texts q bytes ≡ texts_read texts → Says q bytes texts
  unfolding read_texts
  read_says texts e =
      let r = subst (AreRecords q.alphabet.characters no_texts_yet (standing q) bytes) e (are_records q.alphabet.characters no_texts_yet bytes standing_different) in
      record { records = r.said; over = r.over; none = r.others }

  pub says_read : (texts : Texts) → Says q bytes texts → read_texts q bytes ≡ texts_read texts
  unfolding read_texts
  says_read texts s =
      ap (texts_from q.alphabet.characters no_texts_yet (standing q)) s.records
      ∙ records_back q.alphabet.characters no_texts_yet texts (standing q) s.over
      (λ f m. s.none f (λ d. never (let t = mem_member f (standing q) d in cc)))
