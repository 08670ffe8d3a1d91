-- What was carried over means what the old one meant.
--   same_solutions : GoodQuestion q → SolutionBefore q texts ↔ Solution (spelt_open q) texts
--   same_labels    : GoodRule r → of a rule with r's side and `held_open r`: MadeBefore r l ↔ Makes new l
-- Follows from the texts of the pattern written out: any over the characters, and no others.
use Prim.Native.Nat.{ℕ, ◌-◌, ◌<◌}
use native.Mathlib.Nat.{zero-add}
use native.Mathlib.Omega.{arith}
use mathlib.Core.Path.{◌≡◌, refl, sym, ap, ◌∙◌}
use mathlib.Core.Logic.{◌↔◌}
use mathlib.Core.Bool.{Bool, true}
use mathlib.Core.List.Memᴰ
use mathlib.Core.List.{List, [], ◌∷◌}
use lib.ListN.{length, get_or}
use Rattle.paper.specs.Numbers.{characters}
use Rattle.paper.specs.Pattern.{Held, some_text, pattern, Fits, one, none, more, Holds}
use Rattle.paper.specs.Equation.{Side, Texts, label, Over}
use Rattle.paper.specs.Question.{Question, held_by, Solution}
use Rattle.paper.specs.Rule.{Rule, rule_holds, Makes}
use Rattle.paper.proofs.base.Tests.{both_true, le_leb}
use Rattle.paper_laws.proofs.sheets.Asked.{GoodQuestion, fields_known}
use Rattle.paper_catalogue.proofs.GoodRule.{GoodRule, own_field}
use Rattle.paper_carry.specs.Opened.{written_out, spelt_held, with_open, opened, stands_asked, spelt_open, stands_ruled, held_open, HeldBefore, SolutionBefore, MadeBefore}
use Rattle.paper_carry.proofs.Opening.{changed_at}

-- the pattern written out, of n characters, takes every text over them
all_fit : (n : ℕ) (w : List ℕ) → Over n w → Fits (written_out n) w
all_fit n [] h = none
all_fit n (c ∷ w) h =
    let below = h c (Memᴰ.head refl) in
    let taken = both_true (le_leb 0 c (omega arith)) (le_leb c (n - 1) (omega arith)) in
    more {u = c ∷ []} {v = w} refl (one taken) (all_fit n w (λ a d. h a (Memᴰ.tail d)))

to_new : (n : ℕ) (h : Held) (w : List ℕ) → Over n w → HeldBefore h w → Holds (spelt_held n h) w
to_new n some_text w over t = all_fit n w over
to_new n (pattern p) w over f = f

to_old : (n : ℕ) (h : Held) (w : List ℕ) → Holds (spelt_held n h) w → HeldBefore h w
to_old n some_text w f = tt
to_old n (pattern p) w f = f

-- what a standing field holds
held_new : (n : ℕ) (stands : ℕ → Bool) (held : List Held) (f : ℕ) → f < length held → stands f ≡ true
    → get_or (opened n stands 0 held) f some_text ≡ spelt_held n (get_or held f some_text)
held_new n stands held f k e = changed_at (with_open n) stands held 0 f k ∙ rw (zero-add f, e)

module _ (q : Question) (good : GoodQuestion q) where
  abbrev its : ℕ
  its = q.alphabet.characters

  asked_new : (f : ℕ) → stands_asked q f ≡ true → held_by (spelt_open q) f ≡ spelt_held its (held_by q f)
  asked_new f e = held_new its (stands_asked q) q.held f (omega (arith, fields_known q good f e, good.held.each_field)) e

  pub same_solutions : (texts : Texts) → SolutionBefore q texts ↔ Solution (spelt_open q) texts
  same_solutions texts = (
    λ s. record {
      same_label = s.same_label;
      over = s.over;
      holds = λ f e. rw (asked_new f e) (to_new its (held_by q f) (texts f) (s.over f e) (s.holds f e));
    },
    λ s. record {
      same_label = s.same_label;
      over = s.over;
      holds = λ f e. to_old its (held_by q f) (texts f) (rw (asked_new f e) at (s.holds f e));
    },
  )

module _ (r new : Rule) (good : GoodRule r) (side : new.side ≡ r.side) (held : new.fields.held ≡ held_open r) where
  ruled_new : (f : ℕ) → stands_ruled r f ≡ true → rule_holds new f ≡ spelt_held characters (rule_holds r f)
  ruled_new f e =
      ap (λ (l : List Held). get_or l f some_text) held
      ∙ held_new characters (stands_ruled r) r.fields.held f (omega (arith, own_field r good f e, good.held.each_field)) e

  stood : (f : ℕ) → stands_ruled new f ≡ true → stands_ruled r f ≡ true
  stood f e = ap (λ (s : Side). stands_ruled (record { side = s; fields = r.fields }) f) (sym side) ∙ e

  pub same_labels : (l : List ℕ) → MadeBefore r l ↔ Makes new l
  same_labels l = (
    λ s. record {
      texts = s.texts;
      over = λ f e. s.over f (stood f e);
      holds = λ f e. rw (ruled_new f (stood f e)) (to_new characters (rule_holds r f) (s.texts f) (s.over f (stood f e)) (s.holds f (stood f e)));
      made = ap (label s.texts) side ∙ s.made;
    },
    λ s. record {
      texts = s.texts;
      over = λ f e. s.over f (stands f e);
      holds = λ f e. to_old characters (rule_holds r f) (s.texts f) (rw (ruled_new f e) at (s.holds f (stands f e)));
      made = ap (label s.texts) (sym side) ∙ s.made;
    },
  )
    where
      stands : (f : ℕ) → stands_ruled r f ≡ true → stands_ruled new f ≡ true
      stands f e = ap (λ (s : Side). stands_ruled (record { side = s; fields = r.fields }) f) side ∙ e
