-- `hash` is the hash of a key. The loop's invariant: the hash so far, gone on with over the words that are left, is that over all.
-- Follows from `word_next` and `words_done`.
use mathlib.Core.Path.{◌≡◌}
use Rattle.search_buckets.proofs.Hashed.{hash_left}
use Rattle.search_buckets.proofs.hash.Given as goal

abbrev pub invariant-loop-word : goal.invariant-loop-word
invariant-loop-word l = hash_left 0 0 l.key ≡ hash_left l.word-index l.h l.key
