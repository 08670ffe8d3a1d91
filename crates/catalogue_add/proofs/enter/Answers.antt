-- `enter` meets its contract, from what the pairs gave (`Entering`). Assumes nothing.
use mathlib.Core.Path.{◌≡◌, subst}
use borrow.Author.Rules.{rules}
use Rattle.std.specs.Prelude.{Err}
use Rattle.catalogue_add.specs.Addition.{PairsAsked}
use Rattle.catalogue_add.specs.declared.AddError.TheVariants as Add-error
use Rattle.catalogue_add.proofs.Entering.{adds_rule, adds_not}
use Rattle.catalogue_add.proofs.enter.Goals as goal

pub returns-in_err-ask_all : goal.returns-in_err-ask_all
returns-in_err-ask_all c =
    let x = c.requires in
    let e : c.from_residual.result ≡ Err (Add-error.NotApart c.in_err-ask_all.field-0.0) = search rules in
    rw e
    (adds_not x _ _ _ _ (subst (PairsAsked _ x.asks.standing.rules_present x.asks.rule _ _) c.in_err-ask_all.was (c.ask_all.ensures x.asks)))

pub returns : goal.returns
returns c =
    let x = c.requires in
    adds_rule x _ _ _ (subst (PairsAsked _ x.asks.standing.rules_present x.asks.rule _ _) c.in_ok-ask_all.was (c.ask_all.ensures x.asks)) _ c.put.ensures
