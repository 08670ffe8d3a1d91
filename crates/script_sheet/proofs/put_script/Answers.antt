-- `put_script` meets its contract: its parts are those of the script of the question (`Whole`).
use mathlib.Core.Path.{ap, subst}
use mathlib.Core.List.{◌++◌}
use Rattle.paper.specs.Alphabet.{Edition}
use Rattle.paper.specs.Question.{hidden}
use Rattle.base_put.specs.Counted.{Counted}
use Rattle.script_sheet.specs.WrittenOut.{fields_lines}
use Rattle.paper_script.specs.Script.{heading, all_standing, equation, script}
use Rattle.base_editions.specs.Editions.{paper_edition}
use Rattle.base_put.proofs.Counting.{counted_then}
use Rattle.base_question.specs.declared.Question.{Question}
use Rattle.script_sheet.proofs.ScriptWhole.{all_counted, equation_put}
use Rattle.script_sheet.proofs.put_script.Goals as goal

pub returns : goal.returns
unfolding script
returns c = λ q e i.
    let a = c.args in
    let l = ap (λ (x : Question). x.left) i in
    let r = ap (λ (x : Question). x.right) i in
    let x = paper_edition a.edition in
    let stand = all_counted x a.sheet.now q e a.question.now.left a.question.now.right l r c.side-all_left.result c.side-all_right.result c.standings-counts.result
    c.side-all_left.ensures c.side-all_right.ensures c.standings-counts.ensures in
    subst (λ (y : Edition). Counted a.out.now c.equation.new.out 0 c.equation.result (heading ++ fields_lines y q (all_standing (hidden q)) ++ equation y q.left q.right)) e.its_edition
    (counted_then
    (counted_then c.put_heading-begun.ensures (rw stand at (c.put_fields-end.ensures q e (ap (λ (x : Question). x.bodies) i))))
    (rw (equation_put x a.sheet.now q e a.question.now.left a.question.now.right l r) at c.equation.ensures))
