-- What demand 3 counts, known by hand (document 01, "The bound of demand 3"). The checker computes it.
--   plain_known     : whether no field stands more than once in the two sides together
--   standings_known : one for each character of a side and, for each field, the number of its sets
--   bounds_known    : the bound of good sheets, (1 + L) times (1 + R)
use Prim.Native.Nat.{ℕ, suc}
use mathlib.Core.Path.{◌≡◌, refl}
use mathlib.Core.Bool.{Bool, true, false}
use mathlib.Core.List.{List, [], ◌∷◌, ◌++◌, map}
use lib.ListN.{replicate}
use Rattle.paper.specs.Places.{set_after, reachable_sets}
use Rattle.paper.specs.Written.{judge}
use Rattle.paper.specs.Search.{enter, offer, take_next, search}
use Rattle.paper.specs.Equation.{chr, fld, Side}
use Rattle.paper.specs.Plain.{plain, standings}
use Rattle.paper.specs.Alphabet.{code}
use Rattle.paper.specs.Sheet.{Reading, refused, asked, marked, pattern_record, side_record, read_end, marked_side, next_is, edition_front, strays_of, read_by, read_sheet}
use Rattle.paper.specs.Demands.{bound_of}
use Rattle.paper.proofs.known.KnownSheet.{PA, LE, RI, sheet_S}

-- left side, right side, plain or not
abbrev known_plain : List (Side × Side × Bool)
known_plain =
    ([], [], true) ∷
    (fld 0 ∷ [], fld 1 ∷ [], true) ∷
    (chr 0 ∷ fld 0 ∷ chr 0 ∷ fld 1 ∷ [], chr 0 ∷ fld 2 ∷ chr 1 ∷ [], true) ∷
    (fld 0 ∷ fld 0 ∷ [], [], false) ∷
    ([], fld 0 ∷ chr 0 ∷ fld 0 ∷ [], false) ∷
    (fld 0 ∷ fld 1 ∷ [], fld 2 ∷ fld 0 ∷ [], false) ∷
    (fld 0 ∷ fld 1 ∷ [], fld 1 ∷ [], false) ∷
    []

pub plain_known :
    map (λ (k : Side × Side × Bool). plain k.0 k.1) known_plain ≡ map (λ (k : Side × Side × Bool). k.2) known_plain
plain_known = refl

-- a side and its standings, where field 0 has one set, field 1 two, ..
abbrev known_standings : List (Side × ℕ)
known_standings =
    ([], 0) ∷
    (chr 5 ∷ [], 1) ∷
    (fld 0 ∷ [], 1) ∷
    (fld 3 ∷ [], 4) ∷
    (chr 0 ∷ fld 1 ∷ chr 0 ∷ fld 2 ∷ fld 2 ∷ [], 10) ∷
    []

pub standings_known :
    map (λ (k : Side × ℕ). standings (λ (f : ℕ). replicate (suc f) f) k.0) known_standings
    ≡ map (λ (k : Side × ℕ). k.1) known_standings
standings_known = refl

-- a sheet and its bound
abbrev known_bounds : List (List ℕ × ℕ)
known_bounds =
    -- sheet S
    (sheet_S, 25) ∷
    -- both sides empty
    (LE [] ++ RI [], 9) ∷
    -- `A` and `AB`
    (LE (10 ∷ []) ++ RI (10 ∷ 11 ∷ []), 20) ∷
    -- "demand 3 counts two for it": x and `AA`, open; xy and z, open
    (LE (64 ∷ []) ++ RI (10 ∷ 10 ∷ []), 25) ∷
    (LE (64 ∷ 65 ∷ []) ++ RI (66 ∷ []), 35) ∷
    -- x and nothing, open; with 68 65 0 42; with the texts of an open field, by a pattern of three sets
    (LE (64 ∷ []) ++ RI [], 15) ∷
    (PA 0 (68 ∷ 65 ∷ 0 ∷ 42 ∷ []) ++ LE (64 ∷ []) ++ RI [], 15) ∷
    (PA 0 (66 ∷ 65 ∷ 0 ∷ 42 ∷ 68 ∷ 65 ∷ 0 ∷ 42 ∷ []) ++ LE (64 ∷ []) ++ RI [], 18) ∷
    -- `A`x and y`B`z, x the empty text, y `A` then `B`
    (PA 0 (64 ∷ []) ++ PA 1 (66 ∷ 10 ∷ 11 ∷ []) ++ LE (10 ∷ 64 ∷ []) ++ RI (65 ∷ 11 ∷ 66 ∷ []), 45) ∷
    -- x`A` and nothing, x `A` then `B` then `A`
    (PA 0 (66 ∷ 66 ∷ 10 ∷ 11 ∷ 10 ∷ []) ++ LE (64 ∷ 10 ∷ []) ++ RI [], 24) ∷
    -- nothing and x, x one or two of `A` and `B`
    (PA 0 (66 ∷ 67 ∷ 10 ∷ 11 ∷ 67 ∷ 64 ∷ 67 ∷ 10 ∷ 11 ∷ []) ++ LE [] ++ RI (64 ∷ []), 24) ∷
    -- x and nothing, x `A` or `AB`: after `A` one set of two places
    (PA 0 (67 ∷ 10 ∷ 66 ∷ 10 ∷ 11 ∷ []) ++ LE (64 ∷ []) ++ RI [], 18) ∷
    []

abbrev bound_read : Reading → ℕ
bound_read (refused x at) = 0
bound_read (asked q) = bound_of q

pub bounds_known :
    map (λ (k : List ℕ × ℕ). bound_read (read_sheet k.0)) known_bounds ≡ map (λ (k : List ℕ × ℕ). k.1) known_bounds
unfolding set_after enter offer take_next search reachable_sets judge marked pattern_record side_record read_end marked_side next_is code edition_front read_by strays_of read_sheet
bounds_known = refl
