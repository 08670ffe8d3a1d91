-- What is left behind a pattern, and from a byte at fault on.
--   fault_within  : no more bytes are left from the one at fault on than there are
--   leaves_within : the pattern's leaves are no more than the bytes before those left behind it
--   rest_behind   : what is left behind the pattern stands where so many bytes are left
-- Follows from the ways through the reader (`Reader` of `paper_laws`), and from what it reads being the pattern's code (`read_says`).
use Prim.Native.Nat.{ℕ, ◌+◌, ◌-◌, ◌≤◌}
use native.Mathlib.Omega.{arith}
use mathlib.Core.Path.{◌≡◌, ap, ◌∙◌}
use mathlib.Core.List.{List}
use lib.ListN.{length, drop, length-append}
use lib.Seq.{drop_at}
use Rattle.paper.specs.Pattern.{Pattern}
use Rattle.paper.specs.Places.{leaves}
use Rattle.paper.specs.Written.{no_pattern, part}
use Rattle.paper.specs.Saying.{pattern_code}
use Rattle.paper_laws.proofs.places.Reader.{Reads, runs_out, a_character, empty_text, lo_missing, lo_wrong, hi_missing, hi_wrong, a_range}
use Rattle.paper_laws.proofs.places.Reader.{first_wrong, second_wrong, both_parts, starred_wrong, starred, no_code, shorter}
use Rattle.paper_laws.proofs.places.Judged.{both_leaves}
use Rattle.paper_laws.proofs.saying.Code.{read_says}

pub fault_within : {s : List ℕ} {left : ℕ} → Reads s (no_pattern left) → left ≤ length s
fault_within runs_out = omega arith
fault_within lo_missing = omega arith
fault_within (lo_wrong h) = omega arith
fault_within (hi_missing h) = omega arith
fault_within (hi_wrong h k) = omega arith
fault_within (first_wrong o d) = omega (arith, fault_within d)
fault_within (second_wrong o d e) = omega (arith, shorter d, fault_within e)
fault_within (starred_wrong d) = omega (arith, fault_within d)
fault_within (no_code h0 h1 h2 h3 h4 h5) = omega arith

pub rest_behind : {s starts rest : List ℕ} {p : Pattern} → Reads s (part p starts rest) → drop (length s - length rest) s ≡ rest
rest_behind {s} {rest = rest} {p = p} d =
    let all = ap length (read_says d) ∙ length-append (pattern_code p) rest in
    ap (drop (length s - length rest)) (read_says d) ∙ drop_at (pattern_code p) rest (length s - length rest) (omega arith)

pub leaves_within : {s starts rest : List ℕ} {p : Pattern} → Reads s (part p starts rest) → leaves p + length rest ≤ length s
leaves_within (a_character h) = omega arith
leaves_within empty_text = omega arith
leaves_within (a_range h k) = omega arith
leaves_within (both_parts {a = a} {b = b} o d e) = omega (arith, both_leaves a b o, leaves_within d, leaves_within e)
leaves_within (starred d) = omega (arith, leaves_within d)
