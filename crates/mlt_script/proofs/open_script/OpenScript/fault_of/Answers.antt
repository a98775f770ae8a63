use Rattle.std.proofs.Common.{◌≤◌, ◌<◌, reverse, ap, ◌∙◌, sym, length, arith}
use Rattle.std.proofs.lemmas.List.{length-reverse}
use Rattle.mlt_script.proofs.Names.{line_fault, open_of}
use Rattle.mlt_script.proofs.Placing.{deep_here, not_deep_here}
use Rattle.mlt_script.proofs.open_script.OpenScript.fault_of.Goals as goal

pub returns-then-len-ge16 : goal.returns-then-len-ge16
returns-then-len-ge16 c =
    let s = c.args.self.now in
    let l : 16 ≤ length (reverse s.ifs.items) = let e = c.len.ensures in let t = c.if-len-ge16.true in rw (length-reverse s.ifs.items) (omega (arith, e, t)) in
    deep_here s.lines.items (reverse s.ifs.items) c.in-If.field-0 c.in-If.field-1 s.framed l ∙ ap (line_fault (open_of s.lines.items)) (sym c.in-If.is)

pub returns-else-len-ge16 : goal.returns-else-len-ge16
returns-else-len-ge16 c =
    let s = c.args.self.now in
    let l : length (reverse s.ifs.items) < 16 = let e = c.len.ensures in let t = c.if-len-ge16.false in rw (length-reverse s.ifs.items) (omega (arith, e, t)) in
    c.long_fault-else-len-ge16.ensures ∙ not_deep_here s.lines.items (reverse s.ifs.items) c.in-If.field-0 c.in-If.field-1 s.framed l ∙ ap (line_fault (open_of s.lines.items)) (sym c.in-If.is)
