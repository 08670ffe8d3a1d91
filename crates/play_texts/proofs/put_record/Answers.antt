-- `put_record` meets its contract: the text is counted, and put behind the head (`record_put`).
use Rattle.base_codes.specs.Coded.{denoted}
use Rattle.search_children.specs.Laid.{tables_lent}
use Rattle.play_walk.specs.WalkCoded.{text_walked}
use Rattle.play_walk.proofs.WalkAgrees.{text_short}
use Rattle.play_texts.proofs.Putting.{record_put}
use Rattle.play_texts.proofs.put_record.Goals as goal

pub returns : goal.returns
returns c =
    let a = c.args in
    let T = tables_lent a.tables.now in
    record_put a.f (text_walked T a.f (denoted a.first) a.steps.now) (text_short T a.f (denoted a.first) a.steps.now) c.head.result
    c.put_text-n.ensures c.head.ensures c.put_all-begun.ensures c.put_text.ensures
