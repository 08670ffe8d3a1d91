-- `write_out` meets its contract, by how long what is put is (`AnewAnswered`).
use Rattle.carry_anew.proofs.AnewAnswered.{no_room, with_room}
use Rattle.carry_anew.proofs.write_out.Goals as goal

pub returns-then-out-length : goal.returns-then-out-length
returns-then-out-length c short =
    no_room _ _ short c.put_whole-length.ensures c.if-out-length.true

pub returns : goal.returns
returns c short =
    with_room _ _ short c.put_whole-length.ensures c.if-out-length.false c.put_whole-bytes.ensures
