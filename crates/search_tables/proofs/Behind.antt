-- A part of each own field's tables, stored one field after the other into a list that has the hidden fields' part everywhere; and the rows of
-- tables cut to some characters.
--   behind_none, behind_more, behind_all : at the end the list is the part of the own fields' tables, and behind it twice that of the hidden ones
--   rows_cut : each field's row cut by itself is the table that is cut
-- Follows from the laws of `set`, `take` and `map`.
use Prim.Native.Nat.{ℕ, suc, ◌+◌, ◌≤◌, ◌<◌}
use native.Mathlib.Numerals.{add-one}
use native.Mathlib.Omega.{arith}
use mathlib.Core.Path.{◌≡◌, refl, sym, ap, ◌∙◌}
use mathlib.Core.Bool.{Bool}
use mathlib.Core.List.{List, [], ◌∷◌, ◌++◌, map, append_assoc}
use lib.ListN.{length, get_or, take, drop, set, replicate, length-append, length-map, get_or-map}
use lib.Seq.{take-suc, drop-cons, take_all, set_at, length-take-le, ext_get_or}
use Rattle.paper.specs.Lists.{upto}
use Rattle.paper.specs.Numbers.{fields, set_fields}
use Rattle.paper.proofs.base.Lists.{map_append, length_from}
use Rattle.paper.proofs.base.Listed.{get_or_map_upto}
use Rattle.base_places.specs.declared.PlaceTables.{PlaceTables}
use Rattle.search_tables.specs.Cut.{listed_by, cut_row, cut_coded}
use Rattle.search_tables.specs.Tables.{taking_of}

-- tables that are not there
abbrev none : PlaceTables
none = record { follow = []; taking = []; last = 0 }

module _ {A : Type 0} (part : PlaceTables → A) (own : List PlaceTables) (d : List A) where
  -- the fields below f have theirs
  pub record Behind (sets : List A) (f : ℕ) : Type 0 where
    pub all : length own ≡ fields
    pub many : length d ≡ set_fields
    pub at_most : f ≤ fields
    pub is : sets ≡ take f (map part own) ++ drop f d

  pub behind_none : length own ≡ fields → length d ≡ set_fields → Behind d 0
  behind_none all many = record { all = all; many = many; at_most = omega arith; is = refl }

  module _ (sets : List A) (f : ℕ) (t : Behind sets f) where
    pub behind_more : f < fields → (y : A) → y ≡ part (get_or own f none) → Behind (set sets f y) (f + 1)
    behind_more h y e =
        let x = part (get_or own f none) in
        let long = length-map own part in
        record {
          all = t.all;
          many = t.many;
          at_most = omega arith;
          is =
              rw (
                e,
                t.is,
                add-one f,
                drop-cons d f x (omega (arith, t.many)),
                set_at (take f (map part own)) (get_or d f x) (drop (suc f) d) x f (length-take-le f (map part own) (omega (arith, t.all))),
                take-suc (map part own) f (part none) (omega (arith, t.all)),
                get_or-map part own f none,
              )
              (sym (append_assoc (take f (map part own)) (x ∷ []) (drop (suc f) d)));
        }

    pub behind_all : (hidden : PlaceTables) → d ≡ replicate set_fields (part hidden) → fields ≤ f → sets ≡ map part (own ++ (hidden ∷ hidden ∷ []))
    behind_all hidden first h =
        let same : f ≡ fields = omega (arith, t.at_most) in
        rw (t.is, same, first, take_all fields (map part own) (omega (arith, length-map own part, t.all)))
        (sym (map_append part own (hidden ∷ hidden ∷ [])))

-- each field's row, cut
pub rows_cut : (n : ℕ) (among : List Bool) (tables : List PlaceTables) → length tables ≡ set_fields
    → map (λ (t : PlaceTables). cut_row n among t.taking) tables ≡ cut_coded n (map taking_of tables) among
unfolding cut_coded listed_by
rows_cut n among tables all =
    let cut : PlaceTables → List ℕ = λ t. cut_row n among t.taking in
    let by : ℕ → List ℕ = λ f. cut_row n among (get_or (map taking_of tables) f []) in
    ext_get_or (cut none) (map cut tables) (map by (upto set_fields))
    (length-map tables cut ∙ all ∙ sym (length-map (upto set_fields) by ∙ length_from 0 set_fields))
    (λ f h.
    let k : f < set_fields = omega (arith, length-map tables cut, all) in
    get_or-map cut tables f none
    ∙ sym (get_or_map_upto by (cut none) set_fields f k ∙ ap (cut_row n among) (get_or-map taking_of tables f none)))

pub rows_cut_behind : (n : ℕ) (among : List Bool) (own : List PlaceTables) (hidden : PlaceTables) → length own ≡ fields
    → map (λ (t : PlaceTables). cut_row n among t.taking) (own ++ (hidden ∷ hidden ∷ [])) ≡ cut_coded n (map taking_of (own ++ (hidden ∷ hidden ∷ []))) among
rows_cut_behind n among own hidden all =
    rows_cut n among (own ++ (hidden ∷ hidden ∷ [])) (omega (arith, length-append own (hidden ∷ hidden ∷ []), all))
