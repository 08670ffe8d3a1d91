-- What a caller in another language is told beside the number.
use Rattle.std.specs.Prelude.{ℕ, List, set}
use Rattle.paper_catalogue.specs.Catalogue.{Added}
use Rattle.paper_catalogue.specs.Recheck.{Rechecked}
use Rattle.catalogue_numbers.specs.declared.Numbers.{Numbers}
use Rattle.catalogue_numbers.specs.declared.Totals.{Totals}
use Rattle.c_tell.specs.ToldNumbers.{with_numbers}

-- of an addition, in four elements
abbrev pub telling_added : List ℕ → Added → List ℕ
telling_added told a = set (with_numbers told a.count a.place a.rule) 3 a.answer

abbrev pub telling_numbers : List ℕ → Numbers → List ℕ
telling_numbers told n = set (with_numbers told n.count n.place n.rule) 3 n.answer

-- of checking again, in two
abbrev pub telling_rechecked : List ℕ → Rechecked → List ℕ
telling_rechecked told r = set (set told 0 r.pairs) 1 r.written

abbrev pub telling_totals : List ℕ → Totals → List ℕ
telling_totals told t = set (set told 0 t.pairs) 1 t.written
