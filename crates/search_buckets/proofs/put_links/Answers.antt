-- `put_links` copies a link and puts another in its place. Follows from `links_put`.
use Prim.Native.Nat.{◌+◌, ◌-◌}
use native.Mathlib.Omega.{arith}
use mathlib.Core.Path.{◌∙◌}
use lib.ListN.{length-set}
use borrow.Rule.Slice.PartMut.{same_len_mid}
use Rattle.search_slots.proofs.numbers.Bytes.{low_bytes_all}
use Rattle.search_slots.specs.Slots.{number_width}
use Rattle.search_buckets.proofs.Links.{link_copied, copied_length, lent_length, links_put}
use Rattle.search_buckets.proofs.put_links.Goals as goal

pub slice_bounds-put_number-end : goal.slice_bounds-put_number-end
slice_bounds-put_number-end c = simp length-set (omega arith)

pub shape_of-work : goal.shape_of-work
shape_of-work c =
    let args = c.args in
    let at = args.from in
    same_len_mid at (at + number_width - at) (link_copied args.work.now args.to at) c.put_number.new.to c.put_number.auto.to
    ∙ copied_length args.work.now args.to at

pub returns : goal.returns
returns c few =
    let work = c.args.work.now in
    let to = c.args.to in
    let from = c.args.from in
    let within = c.requires.to_in_bounds.1 in
    links_put work c.put_number.new.to to from c.args.n c.requires.to_in_bounds.0 within c.requires.fact
    (c.put_number.ensures ∙ rw (lent_length work to from within) (low_bytes_all (number_width - 1) (c.args.n + 1) (omega arith)))
