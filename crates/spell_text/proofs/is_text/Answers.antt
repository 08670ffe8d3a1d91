-- `is_text` meets its contract: every byte is below 128.
use Prim.Native.Nat.{ℕ}
use Rattle.std.proofs.Common.{rules, tests}
use mathlib.Core.Path.{◌∙◌}
use lib.Dec.{ltb}
use Rattle.std.proofs.lemmas.Iterator.{YieldsList-from_slice}
use Rattle.std.proofs.lemmas.Iterator.Search.{all_from_yields_List}
use Rattle.paper_spell.specs.FullAscii.{ascii}
use Rattle.spell_text.proofs.SpeltWalk.{text_all}
use Rattle.spell_text.proofs.is_text.Goals as goal

pub returns : goal.returns
returns c =
    let text = c.args.text.now in
    all_from_yields_List (λ (b : ℕ). ltb b ascii) _ _ c.all.result c.all.ensures.ran (YieldsList-from_slice text c.iter.ensures.rest) (λ x b q k. search (rules, tests)) ∙ text_all text
