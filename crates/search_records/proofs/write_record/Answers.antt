-- `write_record` stores the head and lends what follows to the text's writer. Follows from `text_part` and `record_stored`.
use Prim.Native.Nat.{◌+◌, ◌≤◌}
use native.Mathlib.Omega.{arith}
use mathlib.Core.Path.{◌∙◌}
use lib.ListN.{length}
use Rattle.search_records.specs.Records.{head_bytes}
use Rattle.search_records.proofs.Records.{text_room, text_part, record_stored}
use Rattle.search_records.proofs.write_record.Goals.{After-text_length-n}
use Rattle.search_records.proofs.write_record.Goals as goal

-- there is room for the text, whose length was counted
room : (c : After-text_length-n) → head_bytes + c.text_length-n.result ≤ length c.args.out.now
room c =
    rw c.text_length-n.ensures c.requires.f_in_bounds

pub slice_bounds-write_head-end : goal.slice_bounds-write_head-end
slice_bounds-write_head-end c = omega (arith, room (goal.at.slice_bounds-write_head-end c).After-text_length-n)

pub overflow_add-n : goal.overflow_add-n
overflow_add-n c = omega (arith, room (goal.at.overflow_add-n c).After-text_length-n)

pub slice_bounds-write_text-end : goal.slice_bounds-write_text-end
slice_bounds-write_text-end c =
    let args = c.args in
    let head = c.write_head in
    text_room args.out.now head.new.out args.f c.text_length-n.result head.ensures (room (goal.at.slice_bounds-write_text-end c).After-text_length-n)

pub write_text-requires : goal.write_text-requires
write_text-requires c =
    let args = c.args in record {
      f_lt_fields = c.requires.f_lt_fields;
      out_len = text_part args.out.now c.write_head.new.out args.f c.text_length-n.result c.write_head.ensures (room (goal.at.write_text-requires c).After-text_length-n)
          ∙ c.text_length-n.ensures;
    }

pub overflow_add-result : goal.overflow_add-result
overflow_add-result c = omega (arith, room (goal.at.overflow_add-result c).After-text_length-n)

pub returns : goal.returns
returns c =
    let args = c.args in
    let head = c.write_head in
    let text = c.write_text in
    let n = c.text_length-n.ensures in
    rw (← text.ensures)
    (record_stored args.out.now head.new.out args.f c.text_length-n.result head.ensures (room (goal.at.returns c).After-text_length-n) text.new.out (rw text.ensures n))
