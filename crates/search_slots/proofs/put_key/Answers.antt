-- `put_key` stores the key. Follows from `key_stored`.
use borrow.Author.Rules.{rules}
use Rattle.search_slots.proofs.Keys.{key_stored}
use Rattle.search_slots.proofs.put_key.Goals as goal

pub returns : goal.returns
returns c =
    let s = c.args.s in
    rw (c.copy_from_slice.ensures.after, c.copy_from_slice-2.ensures.after, c.put_sets.ensures)
    (key_stored s (record { left = search rules; right = search rules; sets = search rules }) c.args.to.now c.requires)
