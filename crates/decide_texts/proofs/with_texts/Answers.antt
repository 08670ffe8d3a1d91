-- `with_texts` meets its contract. The loop's invariant: the fields below f are changed (`Changing`).
use Prim.Native.Nat.{ℕ}
use native.Mathlib.Omega.{arith}
use mathlib.Core.Path.{◌≡◌, sym, ◌∙◌}
use mathlib.Core.List.{List, map}
use lib.ListN.{length, length-map}
use borrow.Author.Rules.{rules}
use Rattle.paper.specs.Numbers.{fields}
use Rattle.decide_texts.proofs.FieldsChanged.{changing_none, changing_not, changing_more, changing_all, stands_twice, stands_once}
use Rattle.decide_texts.proofs.with_texts.Goals.{then-counts-f-gt-ONCE, else-counts-f-gt-ONCE}
use Rattle.decide_texts.proofs.with_texts.Goals as goal

unmapped : (X Y : Type 0) (g : X → Y) (l : List X) (n : ℕ) → length (map g l) ≡ n → length l ≡ n
unmapped X Y g l n h = sym (length-map l g) ∙ h

pub loop-f-init : goal.loop-f-init
loop-f-init c =
    let a = c.args in
    let long : length a.question.fields ≡ fields = search (rules, unmapped) in
    changing_none a.question a.asked long

pub with_text-its-requires : goal.with_text-its-requires
with_text-its-requires c = c.within-n.ensures.1

pub loop-f-preserved : goal.loop-f-preserved
loop-f-preserved c =
    let a = c.args in
    let q = c.loop-f.question in
    let f = c.loop-f.f in
    let x = c.loop-f.invariant in
    elim c.if-counts-f-gt-ONCE.branch [
      | then-counts-f-gt-ONCE w ↦
          rw w.question-is
          (changing_more a.question a.asked q f x (omega (arith, c.loop-f-test.true)) w.with_text-its.result
          (w.with_text-its.ensures
          ∙ stands_twice a.question a.asked q f x c.standings-counts.result c.standings-counts.ensures c.within-n.result c.within-n.ensures.0
          w.if-counts-f-gt-ONCE.true))
      | else-counts-f-gt-ONCE w ↦
          rw w.question-is
          (changing_not a.question a.asked q f x
          (stands_once a.question a.asked q f x c.standings-counts.result c.standings-counts.ensures w.if-counts-f-gt-ONCE.false))
    ]

pub returns : goal.returns
returns c =
    let l = c.loop-f in
    let a = c.args in
    changing_all a.question a.asked l.question l.f l.invariant (omega arith)
