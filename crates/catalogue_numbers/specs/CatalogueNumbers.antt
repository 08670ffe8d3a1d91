-- What the answers of a catalogue tell, as numbers. `Addition` and `PairList` say what each is.
use Rattle.std.specs.Prelude.{ℕ, [], Result}
use Rattle.catalogue_add.specs.Addition.{told_added_by, told_withdrawn}
use Rattle.catalogue_add.specs.declared.AddError.{AddError}
use Rattle.catalogue_add.specs.declared.WithdrawError.{WithdrawError}
use Rattle.catalogue_recheck.specs.PairList.{told_rechecked}
use Rattle.catalogue_recheck.specs.declared.Listed.{Listed}
use Rattle.catalogue_recheck.specs.declared.RecheckError.{RecheckError}
use Rattle.catalogue_numbers.specs.declared.Numbers.{Numbers}
use Rattle.catalogue_numbers.specs.declared.Totals.{Totals}

abbrev pub numbers_of_added : Result (Unit {0}) AddError → Numbers
numbers_of_added a =
    let o = told_added_by a [] [] in
    let t = o.added in
    record { number = t.number; count = t.count; place = t.place; rule = t.rule; answer = t.answer; search = o.search }

abbrev pub number_of_withdrawn : Result (Unit {0}) WithdrawError → ℕ
number_of_withdrawn w = (told_withdrawn w []).number

abbrev pub as_totals : Result Listed RecheckError → Totals
as_totals r = let t = told_rechecked r [] [] in record { number = t.number; pairs = t.pairs; written = t.written }
