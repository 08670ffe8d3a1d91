-- `sheet` meets its contract, by what reading the sheet by the old rule tells and by what is written anew (`DropAnswered`).
use Rattle.carry_strays.proofs.DropAnswered.{sheet_dropped}
use Rattle.carry_strays.proofs.sheet.Goals as goal

pub returns : goal.returns
returns c = let h = sheet_dropped _ _ _ c.read_before-read.ensures _ c.sheet.ensures in record { whole = h.0; promised = h.1 }
