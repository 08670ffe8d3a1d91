-- `at` meets its contract: behind the array's end is nothing.
use native.Mathlib.Omega.{arith}
use mathlib.Core.Path.{◌≡◌, sym}
use lib.ListN.{length, get_or-eq_default}
use borrow.Author.Rules.{rules}
use Rattle.paper.specs.Numbers.{pattern_bytes}
use Rattle.decide_letters.proofs.pattern.at.Goals as goal

pub returns-else-i-lt-PATTERN_BYTES : goal.returns-else-i-lt-PATTERN_BYTES
returns-else-i-lt-PATTERN_BYTES c =
    sym (get_or-eq_default c.args.stack.now 0 {n = c.args.i} (let long : length c.args.stack.now ≡ pattern_bytes = search rules in omega (arith, c.if-i-lt-PATTERN_BYTES.false)))
