-- The code's editions are the paper's. By cases.
use mathlib.Core.Path.{◌≡◌, refl}
use Rattle.paper.specs.Alphabet as Paper
use Rattle.paper.specs.Alphabet.{edition_1, edition_2}
use Rattle.base_editions.specs.Editions.{paper_edition, edition_code}

pub same_edition : (e : Paper.Edition) → paper_edition (edition_code e) ≡ e
same_edition edition_1 = refl
same_edition edition_2 = refl
