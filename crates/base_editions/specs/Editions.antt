-- The code's editions and alphabets, and the paper's.
use Rattle.paper.specs.Alphabet as Paper
use Rattle.paper.specs.Alphabet.{edition_1, edition_2}
use Rattle.base_editions.specs.declared.Alphabet.{Alphabet}
use Rattle.base_editions.specs.declared.Edition.{Edition}
use Rattle.base_editions.specs.declared.Edition.TheVariants.{First, Second}

abbrev pub paper_edition : Edition → Paper.Edition
paper_edition First = edition_1
paper_edition Second = edition_2

abbrev pub edition_code : Paper.Edition → Edition
edition_code edition_1 = First
edition_code edition_2 = Second

abbrev pub alphabet_code : Paper.Alphabet → Alphabet
alphabet_code a = record { characters = a.characters; space = a.space }
