-- `gather` meets its contract. Where there is no such field there is no set, and so no follower.
use native.Mathlib.Omega.{arith}
use mathlib.Core.Path.{◌≡◌, sym}
use mathlib.Core.List.{[]}
use lib.ListN.{length, get_or, get_or-eq_default}
use borrow.Author.Rules.{rules}
use Rattle.paper.specs.Numbers.{set_fields}
use Rattle.base_codes.specs.Inner.{field_of}
use Rattle.search_fronts.proofs.Followers.{no_followers}
use Rattle.search_fronts.proofs.gather.Goals as goal

pub returns-else-f-lt-FIELDS : goal.returns-else-f-lt-FIELDS
returns-else-f-lt-FIELDS c =
    let a = c.args in
    let l : length a.sets ≡ set_fields = search rules in
    rw (get_or-eq_default a.sets 0 {n = field_of a.b} (omega arith)) (sym (no_followers (get_or a.follow.now (field_of a.b) [])))
