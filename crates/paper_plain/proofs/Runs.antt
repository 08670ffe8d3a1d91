-- Runs of single places against place sets: a place set holds a place exactly if some run of single places leads to it.
--   along_run, run_along : over any places, any sets and any step between them
--   stepped              : 01's place sets, of an open field and of a pattern, are stepped by `comes_by`
--   held_run, run_held   : a field may hold a text exactly if some run from the start reads it and ends at a place that may be the last one
--   comes_below          : the places of a run are the field's
-- Follows from the definitions by induction on texts, and from `PlacesDecide`.
use Prim.Native.Nat.{ℕ, ◌<◌}
use native.Mathlib.Omega.{arith}
use mathlib.Core.Path.{◌≡◌, refl, subst}
use mathlib.Core.Bool.{Bool, true}
use mathlib.Core.List.Memᴰ
use mathlib.Core.List.{List, [], ◌∷◌, Memᴰ}
use Rattle.paper.specs.Pattern.{Held, some_text, pattern, Holds}
use Rattle.paper.specs.Places.{leaf_takes, follows, ends_at, PlaceSet, first_set, set_after, may_end, set_along}
use Rattle.paper.proofs.base.Tests.{and_left, and_right, both_true, eqb_true, eq_eqb}
use Rattle.paper.proofs.base.Lists.{any_true, mem_any}
use Rattle.paper_laws.proofs.places.Parts.{takes_within}
use Rattle.paper_laws.proofs.places.PlacesDecide.{mem_after, after_mem, only_held, all_held}
use Rattle.paper_plain.specs.Standing.{places_of, comes_by}
use Rattle.paper_plain.specs.Run.{Run, stays, goes, along, SteppedBy}

module _ {P S : Type 0} {step : P → ℕ → P → Bool} {In : P → S → Type 0} {after : S → ℕ → S} (h : SteppedBy step In after) where
  pub along_run : (w : List ℕ) (s : S) (q : P) → In q (along after s w) → (i : P) × In i s × Run step i w q
  along_run [] s q d = (q, d, stays)
  along_run (c ∷ w) s q d =
      let (k, e, run) = along_run w (after s c) q d in
      let (i, m, t) = h.into s c k e in
      (i, m, goes t run)

  pub run_along : {w : List ℕ} {i q : P} (s : S) → In i s → Run step i w q → In q (along after s w)
  run_along s d stays = d
  run_along s d (goes {i = i} {q = q} {c = c} t run) = run_along (after s c) (h.out s c i q d t) run

-- 01's place sets.
abbrev Has : ℕ → PlaceSet → Type 0
Has i s = Memᴰ i s

open_into : (s : PlaceSet) (c q : ℕ) → Has q (set_after some_text s c) → (i : ℕ) × Has i s × (comes_by some_text i c q ≡ true)
unfolding set_after
open_into [] c q d = absurd (Memᴰ.not-nil d)
open_into (i ∷ s) c q d = (i, Memᴰ.head refl, eq_eqb q 1 (Memᴰ.eq_of_singleton d))

open_out : (s : PlaceSet) (c i q : ℕ) → Has i s → comes_by some_text i c q ≡ true → Has q (set_after some_text s c)
unfolding set_after
open_out [] c i q d e = absurd (Memᴰ.not-nil d)
open_out (j ∷ s) c i q d e = Memᴰ.head (eqb_true q 1 e)

pub stepped : (h : Held) → SteppedBy (comes_by h) Has (set_after h)
stepped some_text = record { into = open_into; out = open_out }
stepped (pattern p) =
    record {
      into = λ s c q d.
          let st = mem_after p s c q d in (st.from_place, st.in_set, both_true {a = follows p st.from_place q} st.follow st.take);
      out = λ s c i q d e.
          after_mem p s c q
          (record {
            from_place = i;
            in_set = d;
            follow = and_left (follows p i q) (leaf_takes p 1 q c) e;
            take = and_right (follows p i q) (leaf_takes p 1 q c) e;
          });
    }

along_same : (h : Held) (w : List ℕ) (s : PlaceSet) → along (set_after h) s w ≡ set_along h s w
along_same h [] s = refl
along_same h (c ∷ w) s = along_same h w (set_after h s c)

pub set_along_run : (h : Held) (w : List ℕ) (s : PlaceSet) (q : ℕ) → Has q (set_along h s w) → (i : ℕ) × Has i s × Run (comes_by h) i w q
set_along_run h w s q d = along_run (stepped h) w s q (rw (along_same h w s) d)

pub run_set_along : (h : Held) (w : List ℕ) (s : PlaceSet) (i q : ℕ) → Has i s → Run (comes_by h) i w q → Has q (set_along h s w)
run_set_along h w s i q d run = rw (along_same h w s) at (run_along (stepped h) s d run)

-- a run from the start that may end
pub record RunsThrough (h : Held) (w : List ℕ) (i : ℕ) : Type 0 where
  pub last : ℕ
  pub run : Run (comes_by h) i w last
  pub ends : ends_at h last ≡ true

pub held_run : (h : Held) (w : List ℕ) → Holds h w → RunsThrough h w 0
unfolding may_end
held_run h w t =
    let (q, d, e) = any_true (λ (i : ℕ). ends_at h i) (set_along h first_set w) (all_held h w t) in
    let (i, m, run) = set_along_run h w first_set q d in
    record { last = q; run = subst (λ (k : ℕ). Run (comes_by h) k w q) (Memᴰ.eq_of_singleton m) run; ends = e }

pub run_held : (h : Held) (w : List ℕ) → RunsThrough h w 0 → Holds h w
unfolding may_end
run_held h w r =
    only_held h w
    (mem_any (λ (i : ℕ). ends_at h i) (set_along h first_set w)
    (run_set_along h w first_set 0 r.last (Memᴰ.head refl) r.run) r.ends)

pub comes_below : (h : Held) (i c q : ℕ) → comes_by h i c q ≡ true → q < places_of h
comes_below some_text i c q e = omega (arith, eqb_true q 1 e)
comes_below (pattern p) i c q e =
    let m = takes_within p 1 q c (and_right (follows p i q) (leaf_takes p 1 q c) e) in omega (arith, m.high)
