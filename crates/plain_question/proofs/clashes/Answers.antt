-- `clashes` meets its contract: the sides with their hidden fields and the rows of the tokens are made, and gone through. Follows from `said_of_question`.
use Prim.Native.Nat.{◌+◌}
use native.Mathlib.Omega.{arith}
use mathlib.Core.Path.{◌≡◌, refl, ap, ◌∙◌}
use mathlib.Core.List.{[], ◌∷◌, ◌++◌}
use borrow.Author.Rules.{rules}
use lib.ListN.{length, length-append, length-map}
use Rattle.paper.specs.Numbers.{set_fields}
use Rattle.search_tables.specs.Tables.{last_of}
use Rattle.search_hidden.specs.Behind.{Hidden}
use Rattle.plain_rows.specs.Rows.{rows, rows_of}
use Rattle.plain_question.proofs.ByRows.{said_of_question}
use Rattle.plain_question.proofs.clashes.Goals.{After-last_rows-last}
use Rattle.plain_question.proofs.clashes.Goals as goal

-- the question with its hidden fields, of what the calls gave
abbrev whole : After-last_rows-last → Hidden
whole c =
    let q = c.args.question in
    record {
      characters = q.alphabet.characters;
      left = c.side-left.result;
      right = c.side-right.result;
      fields = q.fields ++ (c.spaces-hidden.result ∷ c.spaces-hidden.result ∷ []);
    }

-- the rows are those of ten fields
each-field : (c : After-last_rows-last) → length (whole c).fields ≡ set_fields
each-field c =
    let each = (whole c).fields in
    let long : length c.last_rows-last.result ≡ rows = search rules in
    let same : length c.last_rows-last.result ≡ length each + 2 = ap length c.last_rows-last.ensures ∙ length-map (rows_of each) last_of ∙ length-append each _ in
    omega arith

pub returns : goal.returns
returns c =
    let q = c.args.question in
    said_of_question q (whole (goal.at.returns c).After-last_rows-last) _ _ _ _ _
    (λ i.
    record {
      characters = q.alphabet.characters;
      left = c.side-left.ensures i;
      right = c.side-right.ensures i;
      fields = q.fields ++ (c.spaces-hidden.ensures i ∷ c.spaces-hidden.ensures i ∷ []);
    })
    refl (each-field (goal.at.returns c).After-last_rows-last) c.follow_rows-follow.ensures refl c.last_rows-last.ensures c.rows_met.ensures
