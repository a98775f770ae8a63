use Rattle.std.proofs.Common.{◌≡◌, ◌≤◌, length, ap, arith}
use Rattle.mlt_script_serial.proofs.Names.{lines_of, longest}
use Rattle.mlt_script_serial.proofs.Longest.{longest_asked, longest_lines}
use Rattle.mlt_script_serial.proofs.most.most_asked.Goals as goal

pub returns-clause-most : goal.returns-clause-most
returns-clause-most c =
    let s = c.args.script.now in
    let few : longest s.block ≤ 256 = c.lines.ensures.longest in
    let in_lines : longest s.block ≤ length (lines_of s.block) = longest_lines s.block in
    let same : length c.lines.result.now ≡ length (lines_of s.block) = ap length c.lines.ensures.lines in
    let within : longest s.block ≤ c.min.result = omega (arith, few, in_lines, same, c.min.ensures) in
    longest_asked s c.min.result within
