-- Reading a sheet with a last check: a fault met before it is met whichever check it is, and otherwise the check alone decides (request K13).
--   by_last      : of every sheet the one or the other
--   asked_before : read_sheet s ≡ asked q → read_before s ≡ asked q
--   asked_free   : read_sheet s ≡ asked q → strays q ≡ []
--   asked_since  : read_before s ≡ asked q → strays q ≡ [] → read_sheet s ≡ asked q
--   faulty_since : read_before s ≡ refused x at → read_sheet s ≡ refused x at
-- By cases on what each check finds.
use Prim.Native.Nat.{ℕ, suc}
use mathlib.Core.Path.{◌≡◌, refl, sym, ap, ◌∙◌, subst}
use mathlib.Core.Bool.{true, false}
use mathlib.Core.List.{List, [], ◌∷◌}
use lib.Dec.{ltb}
use lib.ListN.{length}
use Rattle.paper.specs.Equation.{Side}
use Rattle.paper.specs.Alphabet.{Edition, alphabet_of}
use Rattle.paper.specs.Question.{Question}
use Rattle.paper.specs.Sheet.{Fault, wrong_mark, Checked, fault, read, LE, RI, marked_side, Records, faulty, records, Fields, open_fields, read_patterns}
use Rattle.paper.specs.Sheet.{Reading, refused, asked, strays, LastCheck, no_check, at_stray, stray_check, read_end, edition_front, read_by, read_before, read_sheet}
use Rattle.paper.proofs.base.Tests.{by_bool}

-- what a sheet is read as, whatever the last check is
pub data ByLast (s : List ℕ) : Type 0 where
  fails : (x : Fault) (at : ℕ) → ((last : LastCheck) → read_by last s ≡ refused x at) → ByLast s
  ends : (e : Edition) (from : ℕ) (fs : Fields) (at : ℕ) (q : Question) → edition_front s ≡ read e from
      → read_patterns e (suc (length s)) s from open_fields ≡ records fs at → q.held ≡ fs.held
      → ((last : LastCheck) → read_by last s ≡ last fs.marks q) → ByLast s

module _ (s : List ℕ) where
  module _ (e : Edition) (from : ℕ) (front : edition_front s ≡ read e from) where
    module _ (fs : Fields) (at : ℕ) (patterns : read_patterns e (suc (length s)) s from open_fields ≡ records fs at) where
      at_right : (l : Side) (mid : ℕ) → marked_side e LE s at ≡ read l mid → (x : Checked Side) → marked_side e RI s mid ≡ x → ByLast s
      unfolding read_by read_end
      at_right l mid left (fault x place) right = fails x place (λ last. rw (front, patterns, left, right))
      at_right l mid left (read r next) right =
          by_bool (ltb next (length s))
          (λ (h : ltb next (length s) ≡ true). fails wrong_mark next (λ last. rw (front, patterns, left, right, h)))
          (λ (h : ltb next (length s) ≡ false).
          ends e from fs at (record { alphabet = alphabet_of e; left = l; right = r; held = fs.held }) front patterns refl
          (λ last. rw (front, patterns, left, right, h)))

      at_left : (x : Checked Side) → marked_side e LE s at ≡ x → ByLast s
      unfolding read_by
      at_left (fault x place) left = fails x place (λ last. rw (front, patterns, left))
      at_left (read l mid) left = at_right l mid left (marked_side e RI s mid) refl

    at_patterns : (x : Records Fields) → read_patterns e (suc (length s)) s from open_fields ≡ x → ByLast s
    unfolding read_by
    at_patterns (faulty x place) patterns = fails x place (λ last. rw (front, patterns))
    at_patterns (records fs at) patterns = at_left fs at patterns (marked_side e LE s at) refl

  at_edition : (x : Checked Edition) → edition_front s ≡ x → ByLast s
  unfolding read_by
  at_edition (fault x place) front = fails x place (λ last. rw front)
  at_edition (read e from) front = at_patterns e from front (read_patterns e (suc (length s)) s from open_fields) refl

  pub by_last : ByLast s
  by_last = at_edition (edition_front s) refl

  -- The check on strays, and none.
  abbrev Free : Question → Reading → Type 0
  Free q (refused x at) = Unit {0}
  Free q (asked p) = (q ≡ p) × (strays p ≡ [])

  free_at : (marks : List ℕ) (q : Question) (fs : List ℕ) → strays q ≡ fs → Free q (at_stray marks q fs)
  free_at marks q [] e = (refl, e)
  free_at marks q (f ∷ fs) e = tt

  -- a fault is no question
  abbrev Refuses : Reading → Type 0
  Refuses (refused x at) = Unit {0}
  Refuses (asked q) = ⊥

  since_by : ByLast s → (q : Question) → read_sheet s ≡ asked q → (read_before s ≡ asked q) × (strays q ≡ [])
  unfolding read_sheet
  since_by (fails x at h) q e = absurd (subst Refuses (sym (h stray_check) ∙ e) tt)
  since_by (ends ed from fs at p front patterns held h) q e =
      let (same, none) = subst (Free p) (sym (h stray_check) ∙ e) (free_at fs.marks p (strays p) refl) in
      (h no_check ∙ ap asked same, none)

  pub asked_before : (q : Question) → read_sheet s ≡ asked q → read_before s ≡ asked q
  asked_before q e = (since_by by_last q e).0

  pub asked_free : (q : Question) → read_sheet s ≡ asked q → strays q ≡ []
  asked_free q e = (since_by by_last q e).1

  as_asked : ByLast s → (q : Question) → read_before s ≡ asked q → strays q ≡ [] → read_sheet s ≡ asked q
  unfolding read_sheet
  as_asked (fails x at h) q e none = absurd (subst Refuses (sym (h no_check) ∙ e) tt)
  as_asked (ends ed from fs at p front patterns held h) q e none =
      let same : p ≡ q = cc (h no_check, e) in
      h stray_check ∙ rw same (ap (at_stray fs.marks q) none)

  pub asked_since : (q : Question) → read_before s ≡ asked q → strays q ≡ [] → read_sheet s ≡ asked q
  asked_since = as_asked by_last

  as_faulty : ByLast s → (x : Fault) (at : ℕ) → read_before s ≡ refused x at → read_sheet s ≡ refused x at
  unfolding read_sheet
  as_faulty (fails y place h) x at e = h stray_check ∙ sym (h no_check) ∙ e
  as_faulty (ends ed from fs mid p front patterns held h) x at e = absurd (subst Refuses (sym e ∙ h no_check) tt)

  pub faulty_since : (x : Fault) (at : ℕ) → read_before s ≡ refused x at → read_sheet s ≡ refused x at
  faulty_since = as_faulty by_last
