-- `hash` is the hash of a key. The loop's invariant: the hash so far, gone on with over the words that are left, is that over all.
-- Follows from `word_next` and `words_done`.
use native.Mathlib.Omega.{arith}
use mathlib.Core.Path.{◌∙◌}
use Rattle.search_buckets.proofs.Hashed.{word_at, word_next, words_done}
use Rattle.search_buckets.proofs.hash.Goals as goal

pub loop-word-preserved : goal.loop-word-preserved
loop-word-preserved c =
    let key = c.args.key.now in
    let i = c.loop-word.word-index in
    let chunks = c.as_chunks.ensures in
    let w = c.from_le_bytes.result in
    c.loop-word.invariant
    ∙ word_next key i c.loop-word.h w c.mixed-h.result (omega (arith, chunks.front_len, c.requires))
    (word_at key c.as_chunks.result.0.now w i _ c.requires c.loop-word-test.true chunks.front chunks.front_len c.from_le_bytes.ensures) c.mixed-h.ensures

pub returns : goal.returns
returns c =
    words_done c.args.key.now c.loop-word.word-index c.loop-word.h c.mixed.result (omega (arith, c.as_chunks.ensures.front_len, c.requires)) c.loop-word.invariant c.mixed.ensures
