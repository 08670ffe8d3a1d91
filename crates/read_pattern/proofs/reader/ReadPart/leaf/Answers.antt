-- `ReadPart::leaf` meets its contract: the one leaf is first and last, and it takes the characters from lo to hi.
use mathlib.Core.Path.{refl, sym, ◌∙◌}
use Rattle.paper.specs.Numbers.{most_characters}
use Rattle.read_pattern.proofs.Joining.{joins_marked}
use Rattle.read_pattern.proofs.Surplus.{surplus_one}
use Rattle.read_pattern.proofs.reader.ReadPart.leaf.Goals as goal

pub returns : goal.returns
returns c =
    let set = c.place-set in
    let a = c.args in
    record {
      reads = λ rest e.
          record {
            left = sym e;
            each = refl;
            next = refl;
            surplus = c.at_limit.ensures ∙ surplus_one a.from a.o;
            empty = refl;
            first = set.ensures;
            last = set.ensures;
          };
      takes = joins_marked a.o a.lo a.hi set.result most_characters a.taking.now _ set.ensures c.mark.ensures;
    }
