-- `write_head` stores the mark and the length, one behind the other. Follows from `head_stored`.
use Rattle.search_records.proofs.Records.{head_stored}
use Rattle.search_records.proofs.write_head.Goals as goal

pub returns : goal.returns
returns c =
    head_stored c.write_mark.new.out c.args.out.now c.args.f c.args.n c.write_mark.ensures c.requires
    c.put_number.new.to c.put_number.ensures
