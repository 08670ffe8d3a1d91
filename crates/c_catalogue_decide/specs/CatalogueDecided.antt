-- What a caller in another language is told beside the number.
use Rattle.std.specs.Prelude.{ℕ, List, set}
use Rattle.paper_catalogue.specs.Catalogue.{AddedBy}
use Rattle.c_catalogue.specs.Catalogued.{telling_added}

-- of an addition by deciding, in five elements: the fifth is the search
abbrev pub telling_added_by : List ℕ → AddedBy → List ℕ
telling_added_by told o = set (telling_added told o.added) 4 o.search
