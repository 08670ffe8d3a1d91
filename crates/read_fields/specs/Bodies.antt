-- Where the patterns stand, record by record: "Reading goes on from where the last record ended." For all bytes; what it has to do with what the
-- fields may hold is proved (`Standing`).
use Rattle.std.specs.Prelude.{ℕ, zero, suc, ◌+◌, cond, List, length, set}
use Rattle.paper.specs.Sheet.{byte_at, PA, next_is}
use Rattle.base_question.specs.Bodies.{no_bodies}
use Rattle.base_question.specs.declared.Body.{Body}

-- the pattern of the record at the offset, behind its mark, its field byte and its length byte
abbrev pub body_at : List ℕ → ℕ → Body
body_at s at = record { start = at + 4; length = byte_at s (at + 3) }

-- from the record at the offset on; those before it stand where they stand
abbrev pub bodies_from : ℕ → List ℕ → ℕ → List Body → List Body
bodies_from zero s at before = before
bodies_from (suc n) s at before =
    let behind = bodies_from n s (at + (4 + byte_at s (at + 3))) (set before (byte_at s (at + 2)) (body_at s at)) in
    cond (next_is PA s at) behind before

-- as many turns as there are bytes, and one, are enough
unfoldable pub bodies_in : List ℕ → ℕ → List Body
bodies_in s at = bodies_from (suc (length s)) s at no_bodies
