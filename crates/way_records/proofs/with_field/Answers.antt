-- `with_field` meets its contract (`Reading`).
use Prim.Native.Nat.{ℕ, ◌+◌, ◌≤◌, ◌<◌}
use Rattle.std.proofs.Common.{rules, arith, ap, sym, ◌∙◌, ◌≡◌, List, [], length, drop, refl, ◌⊎◌, inl, inr}
use lib.ListN.{drop_of_length-le}
use borrow.Author.Rules.{part_to_end}
use Rattle.paper_way.specs.TextRecords.{text_front, no_text}
use Rattle.way_records.specs.Spans.{length_of}
use Rattle.way_records.proofs.Reading.{Fronts, head_found, within_bytes, read_other, read_found, own_found}
use Rattle.way_records.proofs.with_field.Goals.{In_ok-length}
use Rattle.way_records.proofs.with_field.Goals as goal

none_front : (n f : ℕ) → text_front n f [] ≡ no_text
unfolding text_front
none_front n f = refl

-- a place that is none within the bytes is behind them
behind : {m n : ℕ} → (m < n) ⊎ (m < m) → m ≤ n
behind (inl h) = omega arith
behind (inr h) = absurd (omega arith)

pub returns-in_err-get-clause-by_index : goal.returns-in_err-get-clause-by_index
returns-in_err-get-clause-by_index c =
    let a = c.args in
    let h : length a.texts.now ≤ a.s.next = behind c.in_err-get.ensures.lookup.0 in
    let e : drop a.s.next a.texts.now ≡ [] = drop_of_length-le a.texts.now {i = a.s.next} h in
    rw c.from_residual.ensures
    (λ x fs. read_other a.characters x a.texts.now a.s a.f a.set fs c.if-set-eq0.false (rw e (none_front a.characters a.f)))

-- the record that is in front, and where it ends
its_front : (c : In_ok-length) → let a = c.args in Fronts a.characters a.f (drop a.s.next a.texts.now) c.in_ok-length.length
its_front c =
    let a = c.args in
    let same : c.in_ok-get.field-0.now ≡ drop a.s.next a.texts.now = c.in_ok-get.ensures.lookup.0.2 ∙ part_to_end a.texts.now a.s.next in
    head_found a.characters a.f (drop a.s.next a.texts.now) c.in_ok-length.length
    (ap (λ (l : List ℕ). length_of (text_front a.characters a.f l)) (sym same) ∙ sym c.in_front.ensures.value ∙ c.in_ok-length.was)

its_end : (c : In_ok-length) → let a = c.args in a.s.next + (5 + c.in_ok-length.length) ≤ length a.texts.now
its_end c = let a = c.args in within_bytes a.characters a.f a.s.next a.texts.now c.in_ok-length.length (its_front c)

pub returns-clause-by_index : goal.returns-clause-by_index
returns-clause-by_index c =
    let a = c.args in
    let k = c.in_ok-length.length in
    let place : a.s.next + 5 + k ≡ a.s.next + (5 + k) = omega arith in
    λ x fs. rw place (read_found a.characters x a.texts.now a.s a.f a.set fs c.if-set-eq0.false k (its_front (goal.at.returns-clause-by_index c).In_ok-length) c.requires (search rules) (search rules))

pub returns-clause-own : goal.returns-clause-own
returns-clause-own c =
    let a = c.args in
    let k = c.in_ok-length.length in
    let place : a.s.next + 5 + k ≡ a.s.next + (5 + k) = omega arith in
    λ o. rw place (own_found a.f k (a.s.next + (5 + k)) o c.requires c.in_ok-length.ensures.two_bytes (omega arith) (its_end (goal.at.returns-clause-own c).In_ok-length))
