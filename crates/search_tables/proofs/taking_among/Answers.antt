-- `taking_among` meets its contract. The loop's invariant: the fields below `f` have their own rows, cut (`Behind`).
use native.Mathlib.Omega.{arith}
use mathlib.Core.Path.{◌≡◌, refl, ap, ◌∙◌}
use borrow.Author.Rules.{rules}
use lib.ListN.{length, replicate}
use Rattle.paper.specs.Numbers.{fields, set_fields}
use Rattle.base_places.specs.declared.PlaceTables.{PlaceTables}
use Rattle.search_tables.specs.Cut.{cut_row}
use Rattle.search_tables.proofs.Behind.{behind_none, behind_more, behind_all, rows_cut_behind}
use Rattle.search_tables.proofs.taking_among.Goals as goal

pub loop-f-init : goal.loop-f-init
loop-f-init c =
    let a = c.args in
    let all : length a.own ≡ fields = search rules in
    behind_none (λ (t : PlaceTables). cut_row a.characters a.among t.taking) a.own _ all refl

pub loop-f-preserved : goal.loop-f-preserved
loop-f-preserved c =
    let l = c.loop-f in
    let a = c.args in
    behind_more (λ (t : PlaceTables). cut_row a.characters a.among t.taking) _ _ l.parts l.f l.invariant (omega arith) _ c.cut-masks.ensures

pub returns : goal.returns
returns c =
    let l = c.loop-f in
    let a = c.args in
    behind_all (λ (t : PlaceTables). cut_row a.characters a.among t.taking) a.own _ l.parts l.f l.invariant a.hidden
    (ap (replicate set_fields) c.cut-behind.ensures) (omega arith)
    ∙ rows_cut_behind a.characters a.among a.own a.hidden l.invariant.all
