-- `write_in` is safe: what is written fits in the buffer. Follows from `Fits`.
use native.Mathlib.Omega.{arith}
use Rattle.script.proofs.Fits.{written_fits}
use Rattle.script.proofs.write_in.Goals as goal

pub slice_bounds-print-end : goal.slice_bounds-print-end
slice_bounds-print-end g c =
    let a = c.args in
    omega (arith, written_fits _ c.in-Ok.bytes a.sheet.now a.out.now _ c.script.ensures.whole c.in-Ok.is)
