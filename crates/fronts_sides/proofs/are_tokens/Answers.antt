-- `are_tokens` meets its contract: every byte is a token.
use Prim.Native.Nat.{ℕ}
use Rattle.std.proofs.Common.{rules, tests}
use mathlib.Core.Path.{◌∙◌}
use Rattle.std.proofs.lemmas.Iterator.{YieldsList-from_slice}
use Rattle.std.proofs.lemmas.Iterator.Search.{all_from_yields_List}
use Rattle.paper.specs.Alphabet.{code}
use Rattle.paper.specs.Sheet.{is_token}
use Rattle.base_editions.specs.Editions.{paper_edition}
use Rattle.fronts_sides.proofs.TokenBytes.{tokens_all}
use Rattle.fronts_sides.proofs.are_tokens.Goals as goal

pub returns : goal.returns
returns c =
    let e = paper_edition c.args.edition in
    let side = c.args.side.now in
    all_from_yields_List (λ (b : ℕ). is_token (code e b)) _ _ c.all.result c.all.ensures.ran (YieldsList-from_slice side c.iter.ensures.rest) (λ x b q k. search (rules, tests)) ∙ tokens_all e side
