-- `cut_text::after_first` meets its contract. Assumes nothing.
use Rattle.std.proofs.Common.{◌+◌, ◌-◌, drop, length, length-drop, ◌∙◌, arith}
use Rattle.std.proofs.Math.Seq.{take_all}
use Rattle.cut_text.proofs.FirstLine.{found, unfound}
use Rattle.cut_text.proofs.after_first.Goals as goal

pub returns-in-Some : goal.returns-in-Some
returns-in-Some c =
    let s = c.args.s.now in
    take_all (length s - (c.in-Some.at + 1)) (drop (c.in-Some.at + 1) s) (omega (arith, length-drop (c.in-Some.at + 1) s))
    ∙ found s c.in-Some.at c.in-Some.ensures

pub returns-in-None : goal.returns-in-None
returns-in-None c = unfound c.args.s.now c.in-None.ensures
