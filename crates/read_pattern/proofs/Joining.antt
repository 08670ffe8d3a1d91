-- Joining masks of tests to a table of masks (`Joins`): none, one after the other, by adding sets, and to an empty table. What `link` and `mark`
-- add is joined so. Follows from the laws of `mask_of`: `or` of masks is `||` of tests.
use Prim.Native.Nat.{ℕ, ◌<◌}
use mathlib.Core.Path.{◌≡◌, sym, ap, ap₂, ◌∙◌}
use mathlib.Core.Bool.{Bool, false, cond, ◌&&◌, ◌||◌, and_comm, or-false, or_assoc}
use mathlib.Core.List.{List}
use lib.Dec.{eqb}
use lib.Bits.{bit_or}
use lib.ListN.{length, get_or, replicate}
use Rattle.paper.specs.Pattern.{takes, range}
use Rattle.base_places.specs.Masks.{places, mask_of, in_mask, masks}
use Rattle.read_pattern.specs.ReadPart.{or_at, Adds, Joins}
use Rattle.base_places.proofs.MaskOf.{mask_of_same, mask_of_or, mask_of_cond, mask_of_none, in_mask_of}
use Rattle.base_places.proofs.Filling.{length_table, get_or_table, table_same, table_none}

module _ (n : ℕ) where
  masks_same : (t u : ℕ → ℕ → Bool) → ((i q : ℕ) → t i q ≡ u i q) → masks t n ≡ masks u n
  masks_same t u h =
      table_same (λ (i : ℕ). mask_of (λ (q : ℕ). t i q)) (λ (i : ℕ). mask_of (λ (q : ℕ). u i q)) n
      (λ i l. mask_of_same (λ (q : ℕ). t i q) (λ (q : ℕ). u i q) (λ q k. h i q))

  pub joins_none : (d : List ℕ) → Joins (λ (i q : ℕ). false) n d d
  joins_none d =
      record { joined = λ u e. e ∙ masks_same u (λ (i q : ℕ). u i q || false) (λ i q. sym (or-false (u i q))) }

  pub joins_more : {t u : ℕ → ℕ → Bool} {a b c : List ℕ} → Joins t n a b → Joins u n b c → Joins (λ (i q : ℕ). t i q || u i q) n a c
  joins_more {t} {u} f g =
      record {
        joined = λ v e.
            g.joined (λ (i q : ℕ). v i q || t i q) (f.joined v e)
            ∙ masks_same (λ (i q : ℕ). (v i q || t i q) || u i q) (λ (i q : ℕ). v i q || (t i q || u i q)) (λ i q. or_assoc (v i q) (t i q) (u i q));
      }

  pub joins_same : {t u : ℕ → ℕ → Bool} {a b : List ℕ} → ((i q : ℕ) → t i q ≡ u i q) → Joins t n a b → Joins u n a b
  joins_same {t} {u} h f =
      record {
        joined = λ v e.
            f.joined v e ∙ masks_same (λ (i q : ℕ). v i q || t i q) (λ (i q : ℕ). v i q || u i q) (λ i q. ap (λ (b : Bool). v i q || b) (h i q));
      }

  -- the sets that are added, g 0, g 1, .. , are the masks
  joins_or : (t : ℕ → ℕ → Bool) (d c : List ℕ) (g : ℕ → ℕ) → Adds n g d c → ((i : ℕ) → i < n → g i ≡ mask_of (λ (q : ℕ). t i q)) → Joins t n d c
  joins_or t d c g o h =
      record {
        joined = λ u e.
            o (ap length e ∙ length_table (λ (i : ℕ). mask_of (λ (q : ℕ). u i q)) n)
            ∙ table_same (or_at d g) (λ (i : ℕ). mask_of (λ (q : ℕ). u i q || t i q)) n
            (λ i l.
            ap₂ bit_or (ap (λ (d : List ℕ). get_or d i 0) e ∙ get_or_table (λ (i : ℕ). mask_of (λ (q : ℕ). u i q)) n i l) (h i l)
            ∙ mask_of_or (λ (q : ℕ). u i q) (λ (q : ℕ). t i q));
      }

  -- at first the table is empty
  pub joins_all : {t : ℕ → ℕ → Bool} {d : List ℕ} → Joins t n (replicate n 0) d → d ≡ masks t n
  joins_all {t} f =
      f.joined (λ (i q : ℕ). false)
      (sym (table_same (λ (i : ℕ). mask_of (λ (q : ℕ). false)) (λ (i : ℕ). 0) n (λ i h. mask_of_none) ∙ table_none n))

-- what is first follows what is last
pub joins_linked : (l f : ℕ → Bool) (d c : List ℕ) (last first : ℕ) → last ≡ mask_of l → first ≡ mask_of f
    → Adds places (λ (i : ℕ). cond (in_mask last i) first 0) d c → Joins (λ (i q : ℕ). l i && f q) places d c
joins_linked l f d c last first el ef o =
    joins_or places (λ (i q : ℕ). l i && f q) d c (λ (i : ℕ). cond (in_mask last i) first 0) o
    (λ i h.
    ap₂ (λ (b : Bool) (m : ℕ). cond b m 0) (ap (λ (m : ℕ). in_mask m i) el ∙ in_mask_of l i h) ef ∙ mask_of_cond f (l i))

-- one place takes the characters from lo to hi
pub joins_marked : (p lo hi set n : ℕ) (d c : List ℕ) → set ≡ mask_of (λ (q : ℕ). eqb p q)
    → Adds n (λ (c : ℕ). cond (takes (range lo hi) c) set 0) d c → Joins (λ (c q : ℕ). eqb p q && takes (range lo hi) c) n d c
joins_marked p lo hi set n d c e o =
    joins_or n (λ (c q : ℕ). eqb p q && takes (range lo hi) c) d c (λ (c : ℕ). cond (takes (range lo hi) c) set 0) o
    (λ c h.
    let t = takes (range lo hi) c in
    ap (λ (m : ℕ). cond t m 0) e ∙ mask_of_cond (λ (q : ℕ). eqb p q) t
    ∙ mask_of_same (λ (q : ℕ). t && eqb p q) (λ (q : ℕ). eqb p q && t) (λ q l. and_comm t (eqb p q)))
