-- The engine's clash against the texts that solve a question.
--   solvable_clashes : GoodQuestion q → Solvable q → clashes_apart q ≡ true, also where a field stands twice
--   clashes_solvable : GoodQuestion q → plain q.left q.right ≡ true → clashes_apart q ≡ true → Solvable q
--   apart_alike, alike_apart : of any question, a clash is one label that both sides spell, each standing apart
-- Texts give each side a label that it spells. A side whose fields stand once, and so two sides of a plain question, spell by texts; the trailing
-- spaces are those of the hidden fields. Follows from `Pairs`, `Meetings` and the laws of hidden fields.
use Prim.Native.Nat.{ℕ, ◌<◌}
use mathlib.Core.Path.{◌≡◌, refl, sym, ap, ◌∙◌, subst}
use mathlib.Core.Logic.{⊎_elim}
use mathlib.Core.Bool.{true, false, cond}
use mathlib.Core.List.Memᴰ
use mathlib.Core.List.{List, [], ◌∷◌, ◌++◌, Memᴰ}
use lib.Dec.{eqb}
use Rattle.paper.specs.Pattern.{Held, Holds}
use Rattle.paper.specs.Equation.{Token, chr, fld, Side, is_field, stands_in, Texts, label, Over, Solves}
use Rattle.paper.specs.Plain.{each_once, plain}
use Rattle.paper.specs.Question.{Question, held_by, hidden}
use Rattle.paper.proofs.base.Tests.{cond_true, cond_false, true_false, not_true, or_is_true, right_true, eqb_true, eqb_same, neq_eqb}
use Rattle.paper.proofs.base.Lists.{cons_eq, mem_cons_by, any_append}
use Rattle.paper_laws.proofs.equations.Labels.{label_same}
use Rattle.paper_laws.proofs.plain.Tails.{stands_front, stands_left, stands_right, once_rest, front_once, once_left, once_right, once_apart}
use Rattle.paper_laws.proofs.sheets.Asked.{GoodQuestion}
use Rattle.paper_laws.proofs.sheets.Hidden.{own_solves, with_spaces, hidden_solves, hidden_plain}
use Rattle.paper_plain.specs.Apart.{Spells, nothing, character, field, SpellAlike}
use Rattle.paper_plain.specs.Engine.{clashes_apart}
use Rattle.paper_plain.specs.EnginePromised.{Solvable}
use Rattle.paper_plain.proofs.Pairs.{found_meeting, meeting_found}
use Rattle.paper_plain.proofs.Meetings.{meeting_alike, alike_meeting}

-- Of any question.
module _ (q : Question) where
  pub apart_alike : clashes_apart q ≡ true → SpellAlike (held_by (hidden q)) q.alphabet.characters (hidden q).left (hidden q).right
  apart_alike h = meeting_alike (held_by (hidden q)) q.alphabet.characters (found_meeting q h)

  pub alike_apart : SpellAlike (held_by (hidden q)) q.alphabet.characters (hidden q).left (hidden q).right → clashes_apart q ≡ true
  alike_apart a = meeting_found q (alike_meeting (held_by (hidden q)) q.alphabet.characters (hidden q).left (hidden q).right a)

module _ (held : ℕ → Held) (characters : ℕ) where
  -- the field's text is one that it may hold, over the characters
  pub record Fits (texts : Texts) (f : ℕ) : Type 0 where
    pub over : Over characters (texts f)
    pub holds : Holds (held f) (texts f)

  abbrev FitIn : Side → Texts → Type 0
  FitIn side texts = (f : ℕ) → stands_in f side ≡ true → Fits texts f

  -- Texts give a label that the side spells.
  pub texts_spell : (texts : Texts) (side : Side) → ((f : ℕ) → stands_in f side ≡ true → Holds (held f) (texts f)) → Spells held side (label texts side)
  texts_spell texts [] h = nothing
  texts_spell texts (chr a ∷ side) h = character (texts_spell texts side h)
  texts_spell texts (fld f ∷ side) h =
      field (texts f) (label texts side) refl (h f (stands_front f side))
      (texts_spell texts side (λ g e. h g (right_true (eqb g f) (stands_in g side) e)))

  -- the characters that stand in the side are characters
  abbrev pub CharactersIn : Side → Type 0
  CharactersIn side = (c : ℕ) → Memᴰ (chr c) side → c < characters

  label_over : (texts : Texts) (side : Side) → CharactersIn side
      → ((f : ℕ) → stands_in f side ≡ true → Over characters (texts f)) → Over characters (label texts side)
  label_over texts [] b h c d = absurd (Memᴰ.not-nil d)
  label_over texts (chr a ∷ side) b h c (Memᴰ.head e) = subst (λ (k : ℕ). k < characters) (sym e) (b a (Memᴰ.head refl))
  label_over texts (chr a ∷ side) b h c (Memᴰ.tail d) = label_over texts side (λ k m. b k (Memᴰ.tail m)) h c d
  label_over texts (fld f ∷ side) b h c d =
      ⊎_elim
      (h f (stands_front f side) c)
      (label_over texts side (λ k m. b k (Memᴰ.tail m)) (λ g e. h g (right_true (eqb g f) (stands_in g side) e)) c)
      (Memᴰ.append_cases (texts f) d)

  -- A side whose fields stand once spells by texts.
  pub record ByTexts (side : Side) (w : List ℕ) : Type 0 where
    pub texts : Texts
    pub spells : label texts side ≡ w
    pub fit : FitIn side texts

  with_text : (f : ℕ) (side : Side) (u v : List ℕ) → stands_in f side ≡ false → Over characters u → Holds (held f) u → ByTexts side v → ByTexts (fld f ∷ side) (u ++ v)
  with_text f side u v once o h t =
      record {
        texts = texts;
        spells = rw (its, same) (ap (λ (l : List ℕ). u ++ l) t.spells);
        fit = λ g e. ⊎_elim
            (λ (i : eqb g f ≡ true). subst (Fits texts) (sym (eqb_true g f i)) (record { over = rw its o; holds = rw its h }))
            (λ (i : stands_in g side ≡ true). let k = t.fit g i in record { over = rw (other g i) k.over; holds = rw (other g i) k.holds })
            (or_is_true (eqb g f) (stands_in g side) e);
      }
    where
      texts : Texts
      texts g = cond (eqb g f) u (t.texts g)

      its : texts f ≡ u
      its = cond_true (eqb f f) u (t.texts f) (eqb_same f)

      other : (g : ℕ) → stands_in g side ≡ true → texts g ≡ t.texts g
      other g i =
          cond_false (eqb g f) u (t.texts g)
          (neq_eqb g f (λ (e : g ≡ f). true_false i (subst (λ (k : ℕ). stands_in k side ≡ false) (sym e) once)))

      same : label texts side ≡ label t.texts side
      same = label_same texts t.texts side other

  once_spells : {side : Side} {w : List ℕ} → Spells held side w → each_once side ≡ true → Over characters w → ByTexts side w
  once_spells nothing e o = record { texts = λ (f : ℕ). []; spells = refl; fit = λ f i. absurd (true_false i refl) }
  once_spells (character {a = a} s) e o =
      let t = once_spells s e (λ c d. o c (Memᴰ.tail d)) in record { texts = t.texts; spells = cons_eq refl t.spells; fit = t.fit }
  once_spells (field {f = f} {side = side} u v k h s) e o =
      let p : Over characters (u ++ v) = subst (Over characters) k o in
      subst (ByTexts (fld f ∷ side)) (sym k)
      (with_text f side u v (front_once f side e) (λ c d. p c (Memᴰ.append_left v d)) h
      (once_spells s (once_rest (fld f) side e) (λ c d. p c (Memᴰ.append_right u d))))

  module _ (l r : Side) where
    -- Texts that solve the word equation: both sides spell one label.
    pub solves_alike : (texts : Texts) → CharactersIn l
        → Solves characters (λ (f : ℕ). Holds (held f)) l r texts → SpellAlike held characters l r
    solves_alike texts b x =
        record {
          spelt = label texts l;
          over = label_over texts l b (λ f e. x.over f (stands_left f l r e));
          left = texts_spell texts l (λ f e. x.holds f (stands_left f l r e));
          right = rw x.same_label (texts_spell texts r (λ f e. x.holds f (stands_right f l r e)));
        }

    -- Two sides of a plain question that spell one label do so by texts.
    pub alike_solves : plain l r ≡ true → SpellAlike held characters l r
        → (texts : Texts) × Solves characters (λ (f : ℕ). Holds (held f)) l r texts
    alike_solves once a = (texts, record { same_label = on_left ∙ sym on_right; over = λ f e. (fit f e).over; holds = λ f e. (fit f e).holds })
      where
        left_by : ByTexts l a.spelt
        left_by = once_spells a.left (once_left l r once) a.over

        right_by : ByTexts r a.spelt
        right_by = once_spells a.right (once_right l r once) a.over

        texts : Texts
        texts f = cond (stands_in f l) (left_by.texts f) (right_by.texts f)

        left_text : (f : ℕ) → stands_in f l ≡ true → texts f ≡ left_by.texts f
        left_text f e = cond_true (stands_in f l) (left_by.texts f) (right_by.texts f) e

        right_text : (f : ℕ) → stands_in f r ≡ true → texts f ≡ right_by.texts f
        right_text f e = cond_false (stands_in f l) (left_by.texts f) (right_by.texts f) (not_true (stands_in f l) (λ i. once_apart l r f once i e))

        on_left : label texts l ≡ a.spelt
        on_left = label_same texts left_by.texts l left_text ∙ left_by.spells

        on_right : label texts r ≡ a.spelt
        on_right = label_same texts right_by.texts r right_text ∙ right_by.spells

        fit : (f : ℕ) → stands_in f (l ++ r) ≡ true → Fits texts f
        fit f e =
            ⊎_elim
            (λ i. let k = left_by.fit f i in record { over = rw (left_text f i) k.over; holds = rw (left_text f i) k.holds })
            (λ i. let k = right_by.fit f i in record { over = rw (right_text f i) k.over; holds = rw (right_text f i) k.holds })
            (or_is_true (stands_in f l) (stands_in f r) (sym (any_append (is_field f) l r) ∙ e))

-- Of good questions.
module _ (q : Question) (g : GoodQuestion q) where
  abbrev InRangeOrField : Token → Type 0
  InRangeOrField (chr c) = c < q.alphabet.characters
  InRangeOrField (fld f) = Unit {0}

  left_characters : CharactersIn (held_by (hidden q)) q.alphabet.characters (hidden q).left
  left_characters c d =
      ⊎_elim
      (g.left.tokens (chr c))
      (mem_cons_by InRangeOrField tt (λ t i. absurd (Memᴰ.not-nil i)) (chr c))
      (Memᴰ.append_cases q.left d)

  pub solvable_clashes : Solvable q → clashes_apart q ≡ true
  solvable_clashes (texts, x) =
      alike_apart q
      (solves_alike (held_by (hidden q)) q.alphabet.characters (hidden q).left (hidden q).right (with_spaces q g texts x) left_characters (hidden_solves q g texts x))

  pub clashes_solvable : plain q.left q.right ≡ true → clashes_apart q ≡ true → Solvable q
  clashes_solvable once h =
      let (texts, x) =
      alike_solves (held_by (hidden q)) q.alphabet.characters (hidden q).left (hidden q).right (hidden_plain q g once) (apart_alike q h) in
      (texts, own_solves q g texts x)
