-- What is worked out of what each field may hold, in their order and by their numbers, is the same. Follows from the laws of `map`.
use Prim.Native.Nat.{ℕ, ◌<◌}
use native.Mathlib.Omega.{arith}
use mathlib.Core.Path.{◌≡◌, sym, ◌∙◌}
use mathlib.Core.List.{List, map}
use lib.ListN.{length, get_or, length-map, get_or-map}
use lib.Seq.{ext_get_or}
use Rattle.paper.specs.Lists.{upto}
use Rattle.paper.specs.Numbers.{fields}
use Rattle.paper.specs.Pattern.{Held, some_text}
use Rattle.paper.proofs.base.Lists.{length_from}
use Rattle.paper.proofs.base.Listed.{get_or_map_upto}
use Rattle.base_places.specs.WorkedOut.{worked_out}

pub by_number : (held : List Held) → length held ≡ fields → map worked_out held ≡ map (λ (f : ℕ). worked_out (get_or held f some_text)) (upto fields)
by_number held e =
    ext_get_or (worked_out some_text) (map worked_out held) (map (λ (f : ℕ). worked_out (get_or held f some_text)) (upto fields))
    (length-map held worked_out ∙ e ∙ sym (length-map (upto fields) (λ (f : ℕ). worked_out (get_or held f some_text)) ∙ length_from 0 fields))
    (λ i l.
    let h : i < fields = omega (arith, length-map held worked_out, e) in
    get_or-map worked_out held i some_text
    ∙ sym (get_or_map_upto (λ (f : ℕ). worked_out (get_or held f some_text)) (worked_out some_text) fields i h))
