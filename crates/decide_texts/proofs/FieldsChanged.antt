-- The tables of the fields, changed one after the other: those below f are what they shall be, the others what they were.
--   changing_none : none is changed yet
--   changing_more : one more is changed, changing_not : one more stays
--   changing_all  : all is done
-- Follows from the laws of `set`.
use Prim.Native.Nat.{ℕ, ◌+◌, ◌≤◌, ◌<◌, zero-le}
use native.Mathlib.Omega.{arith}
use mathlib.Core.Path.{◌≡◌, refl, sym, ap, ap₂, ◌∙◌}
use mathlib.Core.Bool.{Bool, true, false, cond}
use mathlib.Core.List.{List, map}
use lib.Dec.{ltb, eqb}
use lib.ListN.{length, get_or, set, length-set, length-map}
use lib.Seq.{ext_get_or, get_or-set_same, get_or-set_other}
use Rattle.paper.specs.Lists.{upto}
use Rattle.paper.specs.Numbers.{fields}
use Rattle.paper.proofs.base.Lists.{length_from}
use Rattle.paper.proofs.base.Listed.{get_or_map_upto}
use Rattle.paper.proofs.base.Tests.{by_bool, cond_true, cond_false, lt_ltb, le_ltb, eqb_true, eqb_false}
use Rattle.base_places.specs.Masks.{within}
use Rattle.base_places.specs.declared.PlaceTables.{PlaceTables}
use Rattle.base_question.specs.Standings.{standing_times}
use Rattle.base_question.specs.declared.Question.{Question}
use Rattle.decide_texts.specs.TextsCoded.{no_tables, tables_at, text_tables, tables_then, texts_coded}
use Rattle.decide_texts.proofs.TextTurns.{ltb_other}

-- a question with other tables
abbrev pub with_fields : Question → List PlaceTables → Question
with_fields s tables = record { alphabet = s.alphabet; left = s.left; right = s.right; fields = tables; bodies = s.bodies }

module _ (s : Question) (asked : ℕ) where
  -- what the field g has where those below f are changed
  abbrev below : ℕ → ℕ → PlaceTables
  below f g = cond (ltb g f) (tables_then s asked g) (tables_at s g)

  pub record Changing (t : Question) (f : ℕ) : Type 0 where
    pub same : t ≡ with_fields s t.fields
    pub long : length t.fields ≡ fields
    pub each : (g : ℕ) → get_or t.fields g no_tables ≡ below f g

  pub changing_none : length s.fields ≡ fields → Changing s 0
  changing_none e =
      record {
        same = refl;
        long = e;
        each = λ (g : ℕ). sym (cond_false (ltb g 0) (tables_then s asked g) (tables_at s g) (le_ltb g 0 zero-le));
      }

  module _ (t : Question) (f : ℕ) (x : Changing t f) where
    -- the field f is what it was
    still : get_or t.fields f no_tables ≡ tables_at s f
    still = x.each f ∙ cond_false (ltb f f) (tables_then s asked f) (tables_at s f) (le_ltb f f (omega arith))

    -- what it shall be, by how often it stands
    module _ (counts : List ℕ) (e : counts ≡ standing_times s.left s.right) where
      pub stands_twice : (n : ℕ) → n ≡ within s.alphabet.characters → 1 < get_or counts f 0
          → text_tables n asked (get_or t.fields f no_tables) ≡ tables_then s asked f
      stands_twice n k h =
          ap₂ (λ (m : ℕ) (its : PlaceTables). text_tables m asked its) k still
          ∙ sym (cond_true _ _ _ (lt_ltb 1 (get_or (standing_times s.left s.right) f 0) (rw e at h)))

      pub stands_once : get_or counts f 0 ≤ 1 → tables_at s f ≡ tables_then s asked f
      stands_once h = sym (cond_false _ _ _ (le_ltb 1 (get_or (standing_times s.left s.right) f 0) (rw e at h)))

    -- the next fields, of which only the one at f may be another
    next : (l : List PlaceTables) → get_or l f no_tables ≡ tables_then s asked f
        → ((g : ℕ) → (g ≡ f → ⊥) → get_or l g no_tables ≡ get_or t.fields g no_tables) → (g : ℕ) → get_or l g no_tables ≡ below (f + 1) g
    next l e others g =
        by_bool (eqb g f)
        (λ (y : eqb g f ≡ true).
        let same : g ≡ f = eqb_true g f y in
        rw same (e ∙ sym (cond_true (ltb f (f + 1)) (tables_then s asked f) (tables_at s f) (lt_ltb f (f + 1) (omega arith)))))
        (λ (y : eqb g f ≡ false).
        let other : g ≡ f → ⊥ = eqb_false g f y in
        others g other ∙ x.each g ∙ ap (λ (b : Bool). cond b (tables_then s asked g) (tables_at s g)) (sym (ltb_other g f other)))

    pub changing_not : tables_at s f ≡ tables_then s asked f → Changing t (f + 1)
    changing_not e = record { same = x.same; long = x.long; each = next t.fields (still ∙ e) (λ g h. refl) }

    pub changing_more : f < fields → (y : PlaceTables) → y ≡ tables_then s asked f → Changing (with_fields t (set t.fields f y)) (f + 1)
    changing_more h y e =
        record {
          same = ap (λ (r : Question). with_fields r (set t.fields f y)) x.same;
          long = length-set t.fields f y ∙ x.long;
          each =
              next (set t.fields f y) (get_or-set_same t.fields f y no_tables (omega (arith, x.long)) ∙ e)
              (λ g other. get_or-set_other t.fields f g y no_tables other);
        }

    pub changing_all : fields ≤ f → t ≡ texts_coded s asked
    unfolding texts_coded
    changing_all h =
        x.same
        ∙ ap (with_fields s)
        (ext_get_or no_tables t.fields (map (tables_then s asked) (upto fields))
        (x.long ∙ sym (length-map (upto fields) (tables_then s asked) ∙ length_from 0 fields))
        (λ g l.
        let k : g < fields = omega (arith, x.long) in
        x.each g
        ∙ cond_true (ltb g f) (tables_then s asked g) (tables_at s g) (lt_ltb g f (omega arith))
        ∙ sym (get_or_map_upto (tables_then s asked) no_tables fields g k)))
