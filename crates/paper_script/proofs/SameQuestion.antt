-- A script can be satisfied exactly if the question has a solution.
--   solves_satisfies : texts that solve the word equation with the hidden fields satisfy the script, as code points
--   satisfies_solves : the values of texts that satisfy the script solve the word equation
--   satisfies_points : and those texts are their code points
--   same_question    : some texts solve the question ↔ some texts satisfy the script
-- All of good questions. Follows from what the script means (`ScriptMeans`), since a character is known by its code point, and from the laws of the
-- hidden fields (`Hidden`).
use Prim.Native.Nat.{ℕ, ◌-◌, ◌<◌}
use native.Mathlib.Omega.{arith}
use mathlib.Core.Path.{◌≡◌, refl, sym, ap, ap₂, ◌∙◌, subst}
use mathlib.Core.Logic.{⊎_elim, ◌↔◌}
use mathlib.Core.Bool.{true, not}
use mathlib.Core.List.Memᴰ
use mathlib.Core.List.{List, [], ◌∷◌, ◌++◌, map, Memᴰ}
use lib.Dec.{eqb}
use lib.ListN.{get_or}
use Rattle.paper.specs.Lists.{upto, leading, each}
use Rattle.paper.specs.Numbers.{hidden_left, hidden_right, set_fields}
use Rattle.paper.specs.Pattern.{Holds}
use Rattle.paper.specs.Equation.{Token, chr, fld, Side, is_field, stands_in, Texts, label, Over}
use Rattle.paper.specs.Alphabet.{Alphabet, Edition, edition_1, edition_2, alphabet_of, edition_of}
use Rattle.paper.specs.Question.{Question, held_by, Solution, hidden, Equated}
use Rattle.paper.specs.Printed.{signs, sign}
use Rattle.paper.proofs.base.Tests.{left_true, right_true, eqb_true, eqb_same}
use Rattle.paper.proofs.base.Lists.{cons_eq, mem_cons_by, all_true, any_append, mem_keep, keep_mem, upto_mem, map_append}
use Rattle.paper_laws.proofs.sheets.Asked.{InRange, GoodSide, GoodQuestion}
use Rattle.paper_laws.proofs.sheets.Hidden.{hidden_known, own_solves, with_spaces, hidden_solves}
use Rattle.paper_script.specs.Reader.{Command, read_script}
use Rattle.paper_script.specs.Script.{point, digit, name, all_standing, script}
use Rattle.paper_script.specs.Means.{said, Says, sides, field, Assignment, text_of, Satisfied, Satisfies}
use Rattle.paper_script.proofs.ScriptMeans.{means}

-- A character is known by its code point: in the first edition its value is the place of the sign, in the second it is the code point.
abbrev pub value_of : Edition → ℕ → ℕ
value_of edition_1 b = leading (λ (s : ℕ). not (eqb s b)) signs
value_of edition_2 b = b

abbrev characters : Edition → ℕ
characters e = (alphabet_of e).characters

by_its_point : (e : Edition) (c : ℕ) → c < characters e → value_of e (point e c) ≡ c
by_its_point edition_1 c h =
    let n = characters edition_1 in
    eqb_true (value_of edition_1 (sign c)) c (all_true (λ (a : ℕ). eqb (value_of edition_1 (sign a)) a) (upto n) refl (upto_mem n h))
by_its_point edition_2 c h = refl

by_their_points : (e : Edition) (w : List ℕ) → Over (characters e) w → map (value_of e) (map (point e) w) ≡ w
by_their_points e [] h = refl
by_their_points e (c ∷ w) h = cons_eq (by_its_point e c (h c (Memᴰ.head refl))) (by_their_points e w (λ a d. h a (Memᴰ.tail d)))

same_points : (e : Edition) (u v : List ℕ) → Over (characters e) u → Over (characters e) v → map (point e) u ≡ map (point e) v → u ≡ v
same_points e u v h k i = sym (by_their_points e u h) ∙ ap (map (value_of e)) i ∙ by_their_points e v k

-- A side as a term is the code points of its label, where the texts of its fields are code points.
abbrev Pointed : Edition → Assignment → Texts → ℕ → Type 0
Pointed e a texts f = a (name f) ≡ map (point e) (texts f)

term_points : (e : Edition) (a : Assignment) (texts : Texts) (side : Side) → ((f : ℕ) → stands_in f side ≡ true → Pointed e a texts f)
    → each (text_of a) (map (said e) side) ≡ map (point e) (label texts side)
term_points e a texts [] h = refl
term_points e a texts (chr c ∷ side) h = cons_eq refl (term_points e a texts side h)
term_points e a texts (fld f ∷ side) h =
    ap₂ ◌++◌ (h f (left_true (eqb f f) (stands_in f side) (eqb_same f)))
    (term_points e a texts side (λ g i. h g (right_true (eqb g f) (stands_in g side) i)))
    ∙ sym (map_append (point e) (texts f) (label texts side))

-- Fields of a question.
module _ (q : Question) where
  stands_left : (f : ℕ) → stands_in f q.left ≡ true → stands_in f (q.left ++ q.right) ≡ true
  stands_left f e = any_append (is_field f) q.left q.right ∙ left_true (stands_in f q.left) (stands_in f q.right) e

  stands_right : (f : ℕ) → stands_in f q.right ≡ true → stands_in f (q.left ++ q.right) ≡ true
  stands_right f e = any_append (is_field f) q.left q.right ∙ right_true (stands_in f q.left) (stands_in f q.right) e

  standing_stands : (f : ℕ) → Memᴰ f (all_standing q) → stands_in f (q.left ++ q.right) ≡ true
  unfolding all_standing
  standing_stands f d = (mem_keep (λ (g : ℕ). stands_in g (q.left ++ q.right)) (upto set_fields) d).1

  stands_standing : (f : ℕ) → f < set_fields → stands_in f (q.left ++ q.right) ≡ true → Memᴰ f (all_standing q)
  unfolding all_standing
  stands_standing f h e = keep_mem (λ (g : ℕ). stands_in g (q.left ++ q.right)) (upto set_fields) (upto_mem set_fields h) e

-- Texts that solve what is said make it true.
module _ (e : Edition) (q : Question) (its_edition : q.alphabet ≡ alphabet_of e) (texts : Texts) (x : Equated q texts) (a : Assignment)
    (pointed : (f : ℕ) → Pointed e a texts f) where
  says_true : {fs : List ℕ} {cs : List Command} → Says e q fs cs
      → ((f : ℕ) → Memᴰ f fs → stands_in f (q.left ++ q.right) ≡ true) → Satisfied a cs
  says_true sides h =
      let left = term_points e a texts q.left (λ f _. pointed f) in
      let right = term_points e a texts q.right (λ f _. pointed f) in
      (left ∙ ap (map (point e)) x.same_label ∙ sym right, (tt, tt))
  says_true (field {f = f} same others) h =
      let stands = h f (Memᴰ.head refl) in
      let over = subst (λ (b : Alphabet). Over b.characters (texts f)) its_edition (x.over f stands) in
      let member = same.every (texts f) over (x.holds f stands) in
      (tt, (rw (pointed f) member, says_true others (λ g d. h g (Memᴰ.tail d))))

-- Texts that make it true are the code points of texts that solve it.
record PointsOf (e : Edition) (q : Question) (a : Assignment) (texts : Texts) (f : ℕ) : Type 0 where
  pointed : Pointed e a texts f
  over : Over (characters e) (texts f)
  holds : Holds (held_by q f) (texts f)

abbrev pub values_of : Edition → Assignment → Texts
values_of e a f = map (value_of e) (a (name f))

member_points : (e : Edition) (q : Question) (a : Assignment) (f : ℕ) (w : List ℕ)
    → a (name f) ≡ map (point e) w → Over (characters e) w → Holds (held_by q f) w → PointsOf e q a (values_of e a) f
member_points e q a f w i over h =
    let its : values_of e a f ≡ w = ap (map (value_of e)) i ∙ by_their_points e w over in
    record {
      pointed = i ∙ ap (map (point e)) (sym its);
      over = subst (Over (characters e)) (sym its) over;
      holds = subst (Holds (held_by q f)) (sym its) h;
    }

-- the characters of a side are those of the edition
abbrev Below : ℕ → Token → Type 0
Below n (chr c) = c < n
Below n (fld f) = Unit {0}

abbrev AllBelow : ℕ → Side → Type 0
AllBelow n side = (t : Token) → Memᴰ t side → Below n t

in_range_below : (n : ℕ) (t : Token) → InRange n t → Below n t
in_range_below n (chr c) h = h
in_range_below n (fld f) h = tt

with_field_below : (n : ℕ) (side : Side) (f : ℕ) → GoodSide n side → AllBelow n (side ++ (fld f ∷ []))
with_field_below n side f g t d =
    ⊎_elim (λ i. in_range_below n t (g.tokens t i))
    (mem_cons_by (Below n) tt (λ u i. absurd (Memᴰ.not-nil i)) t)
    (Memᴰ.append_cases side d)

-- a label is over the characters
label_over : (n : ℕ) (texts : Texts) (side : Side) → AllBelow n side
    → ((f : ℕ) → stands_in f side ≡ true → Over n (texts f)) → Over n (label texts side)
label_over n texts [] k h c d = absurd (Memᴰ.not-nil d)
label_over n texts (chr a ∷ side) k h c d =
    mem_cons_by (λ (b : ℕ). b < n) (k (chr a) (Memᴰ.head refl)) (label_over n texts side (λ t i. k t (Memᴰ.tail i)) h) c d
label_over n texts (fld f ∷ side) k h c d =
    ⊎_elim (h f (left_true (eqb f f) (stands_in f side) (eqb_same f)) c)
    (label_over n texts side (λ t i. k t (Memᴰ.tail i)) (λ g i. h g (right_true (eqb g f) (stands_in g side) i)) c)
    (Memᴰ.append_cases (texts f) d)

module _ (e : Edition) (q : Question) (a : Assignment) where
  abbrev texts : Texts
  texts = values_of e a

  true_members : {fs : List ℕ} {cs : List Command} → Says e q fs cs → Satisfied a cs → (f : ℕ) → Memᴰ f fs → PointsOf e q a texts f
  true_members sides t f d = absurd (Memᴰ.not-nil d)
  true_members (field {f = g} same others) t f d =
      let (w, i, over, h) = same.no_other (a (name g)) t.1.0 in
      mem_cons_by (PointsOf e q a texts) (member_points e q a g w i over h) (λ h i. true_members others t.1.1 h i) f d

  true_sides : {fs : List ℕ} {cs : List Command} → Says e q fs cs → Satisfied a cs
      → each (text_of a) (map (said e) q.left) ≡ each (text_of a) (map (said e) q.right)
  true_sides sides t = t.0
  true_sides (field same others) t = true_sides others t.1.1

  module _ (known : (f : ℕ) → stands_in f (q.left ++ q.right) ≡ true → f < set_fields)
      (cs : List Command) (says : Says e q (all_standing q) cs) (holds : Satisfied a cs) where
    standing_points : (f : ℕ) → stands_in f (q.left ++ q.right) ≡ true → PointsOf e q a texts f
    standing_points f i = true_members says holds f (stands_standing q f (known f i) i)

    true_solves : q.alphabet ≡ alphabet_of e → AllBelow q.alphabet.characters q.left → AllBelow q.alphabet.characters q.right
        → Equated q texts
    true_solves its_edition Below-left Below-right =
        let left : (f : ℕ) → stands_in f q.left ≡ true → PointsOf e q a texts f = λ f i. standing_points f (stands_left q f i) in
        let right : (f : ℕ) → stands_in f q.right ≡ true → PointsOf e q a texts f = λ f i. standing_points f (stands_right q f i) in
        let in_edition : (side : Side) → AllBelow q.alphabet.characters side → AllBelow (characters e) side =
        λ side. subst (λ (b : Alphabet). AllBelow b.characters side) its_edition in
        record {
          same_label =
              same_points e (label texts q.left) (label texts q.right)
              (label_over (characters e) texts q.left (in_edition q.left Below-left) (λ f i. (left f i).over))
              (label_over (characters e) texts q.right (in_edition q.right Below-right) (λ f i. (right f i).over))
              (sym (term_points e a texts q.left (λ f i. (left f i).pointed)) ∙ true_sides says holds
              ∙ term_points e a texts q.right (λ f i. (right f i).pointed));
          over = λ f i. subst (λ (b : Alphabet). Over b.characters (texts f)) (sym its_edition) (standing_points f i).over;
          holds = λ f i. (standing_points f i).holds;
        }

-- Texts for the fields as texts for their constants.
abbrev field_named : List ℕ → ℕ
field_named n = get_or n 1 0 - digit 0

abbrev pub assigned : Edition → Texts → Assignment
assigned e texts n = map (point e) (texts (field_named n))

assigned_points : (e : Edition) (texts : Texts) (f : ℕ) → Pointed e (assigned e texts) texts f
assigned_points e texts f = let same : field_named (name f) ≡ f = omega arith in ap (λ (g : ℕ). map (point e) (texts g)) same

module _ (q : Question) (good : GoodQuestion q) where
  abbrev edition : Edition
  edition = edition_of q.alphabet

  pub solves_satisfies : (texts : Texts) → Equated (hidden q) texts → Satisfies (assigned edition texts) (read_script (script q))
  solves_satisfies texts x =
      let m = means q good in
      rw m.is_read (
        tt,
        says_true edition (hidden q) good.alphabet texts x (assigned edition texts) (assigned_points edition texts) m.says (standing_stands (hidden q)),
      )

  module _ (a : Assignment) (t : Satisfies a (read_script (script q))) where
    said_true : Satisfied a (means q good).said_so
    said_true = let all_of = subst (Satisfies a) (means q good).is_read t in all_of.1

    pub satisfies_solves : Equated (hidden q) (values_of edition a)
    satisfies_solves =
        let m = means q good in
        let n = q.alphabet.characters in
        true_solves edition (hidden q) a (hidden_known q good) m.said_so m.says said_true good.alphabet
        (with_field_below n q.left hidden_left good.left) (with_field_below n q.right hidden_right good.right)

    pub satisfies_points : (f : ℕ) → stands_in f ((hidden q).left ++ (hidden q).right) ≡ true
        → a (name f) ≡ map (point edition) (values_of edition a f)
    satisfies_points f i =
        let m = means q good in
        (standing_points edition (hidden q) a (hidden_known q good) m.said_so m.says said_true f i).pointed

  pub same_question : ((texts : Texts) × Solution q texts) ↔ ((a : Assignment) × Satisfies a (read_script (script q)))
  same_question = (
    λ (texts, x). (assigned edition (with_spaces q good texts x), solves_satisfies (with_spaces q good texts x) (hidden_solves q good texts x)),
    λ (a, t). (values_of edition a, own_solves q good (values_of edition a) (satisfies_solves a t)),
  )
