-- One rule more at the end of a list: how many bytes the records have and where each begins; and rules that were read before others.
-- Follows by induction on the list, and from what stands at each place of `begins_of`.
use Prim.Native.Nat.{ℕ, suc, ◌+◌, ◌≤◌, ◌<◌}
use native.Mathlib.Omega.{arith}
use mathlib.Core.Path.{◌≡◌, refl, sym, ap, ◌∙◌}
use mathlib.Core.List.{List, [], ◌∷◌, ◌++◌}
use lib.Dec.{leb, eqb}
use lib.ListN.{length, get_or, set, length-append, length-map, length-set}
use lib.Seq.{take-append-le, take_all, ext_get_or, get_or-set_same, get_or-set_other}
use Rattle.paper.specs.Lists.{upto}
use Rattle.paper.specs.Numbers.{catalogue_rules}
use Rattle.paper_catalogue.specs.Catalogue.{Present, Form, no_catalogue, rules, rule_behind, used}
use Rattle.paper.proofs.base.Lists.{length_from}
use Rattle.paper.proofs.base.Listed.{get_or_map_upto}
use Rattle.paper.proofs.base.Tests.{by_bool, le_leb, lt_leb, leb_true, leb_false, eqb_true, eqb_false}
use Rattle.catalogue_form.specs.Kept.{begin_of, begins_of, no_begins}

abbrev pub and_last : List Present → Present → List Present
and_last l r = l ++ (r ∷ [])

pub length_last : (l : List Present) (r : Present) → length (and_last l r) ≡ suc (length l)
length_last l r = length-append l (r ∷ []) ∙ omega arith

pub used_last : (l : List Present) (r : Present) → used (and_last l r) ≡ used l + r.bytes
used_last [] r = omega arith
used_last (x ∷ l) r = let e = used_last l r in omega arith

-- Where each rule begins.
pub length_begins : (l : List Present) → length (begins_of l) ≡ suc catalogue_rules
unfolding begins_of
length_begins l = length-map (upto (suc catalogue_rules)) (begin_of l) ∙ length_from 0 (suc catalogue_rules)

pub begins_at : (l : List Present) (i : ℕ) → i ≤ catalogue_rules → get_or (begins_of l) i 0 ≡ begin_of l i
unfolding begins_of
begins_at l i h = get_or_map_upto (begin_of l) 0 (suc catalogue_rules) i (omega arith)

pub none_begin : no_begins ≡ begins_of []
unfolding no_begins begins_of
none_begin = refl

-- the last one ends behind the others, and these begin where they did
end_last : (l : List Present) (r : Present) → begin_of (and_last l r) (suc (length l)) ≡ used l + r.bytes
end_last l r =
    let e = length_last l r in
    rw (le_leb (suc (length l)) (length (and_last l r)) (omega (arith, e)), take_all (suc (length l)) (and_last l r) (omega (arith, e)))
    (used_last l r)

begin_other : (l : List Present) (r : Present) (i : ℕ) → (i ≡ suc (length l) → ⊥) → begin_of l i ≡ begin_of (and_last l r) i
begin_other l r i d =
    by_bool (leb i (length l))
    (λ h. let k = leb_true i (length l) h in
    rw (h, le_leb i (length (and_last l r)) (omega (arith, length_last l r)), take-append-le i l (r ∷ []) k))
    (λ h. let k = leb_false i (length l) h in rw (h, lt_leb i (length (and_last l r)) (omega (arith, d, length_last l r))))

pub begins_last : (l : List Present) (r : Present) → length l < catalogue_rules
    → set (begins_of l) (suc (length l)) (used l + r.bytes) ≡ begins_of (and_last l r)
begins_last l r few =
    let x = used l + r.bytes in
    let n = suc (length l) in
    ext_get_or 0 (set (begins_of l) n x) (begins_of (and_last l r))
    (length-set (begins_of l) n x ∙ length_begins l ∙ sym (length_begins (and_last l r)))
    (λ i h.
    let low : i ≤ catalogue_rules = omega (arith, length-set (begins_of l) n x, length_begins l) in
    by_bool (eqb i n)
    (λ (e : eqb i n ≡ _).
    ap (λ (j : ℕ). get_or (set (begins_of l) n x) j 0) (eqb_true i n e)
    ∙ get_or-set_same (begins_of l) n x 0 (omega (arith, length_begins l))
    ∙ sym (end_last l r)
    ∙ ap (begin_of (and_last l r)) (sym (eqb_true i n e))
    ∙ sym (begins_at (and_last l r) i low))
    (λ (e : eqb i n ≡ _).
    get_or-set_other (begins_of l) n i x 0 (eqb_false i n e)
    ∙ begins_at l i low
    ∙ begin_other l r i (eqb_false i n e)
    ∙ sym (begins_at (and_last l r) i low)))

-- the form of a catalogue whose first rules are known
abbrev pub behind_all : List Present → Form → Form
behind_all [] f = f
behind_all (r ∷ l) f = rule_behind r (behind_all l f)

pub behind_last : (l : List Present) (r : Present) (f : Form) → behind_all (and_last l r) f ≡ behind_all l (rule_behind r f)
behind_last [] r f = refl
behind_last (x ∷ l) r f = ap (rule_behind x) (behind_last l r f)

pub behind_none : (l : List Present) → behind_all l no_catalogue ≡ no_catalogue
behind_none [] = refl
behind_none (x ∷ l) = ap (rule_behind x) (behind_none l)

pub behind_end : (l : List Present) → behind_all l (rules []) ≡ rules l
behind_end [] = refl
behind_end (x ∷ l) = ap (rule_behind x) (behind_end l)
