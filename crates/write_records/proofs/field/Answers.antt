-- `field` meets its contract: nothing is put where there is no pattern.
use mathlib.Core.Path.{refl}
use borrow.Author.Tests.{ne_eqb, eq-eqb}
use Rattle.write_records.specs.RecordPut.{field_laid, put}
use Rattle.write_records.proofs.field.Goals as goal

pub returns-then-n-eq0 : goal.returns-then-n-eq0
unfolding field_laid
returns-then-n-eq0 c = rw (eq-eqb _ _ c.if-n-eq0.true) (put _ refl refl)

pub returns : goal.returns
unfolding field_laid
returns c =
    rw (ne_eqb c.args.n 0 c.if-n-eq0.false) c.pattern.ensures
