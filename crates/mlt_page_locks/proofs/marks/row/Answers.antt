use Rattle.std.proofs.Common.{◌≤◌, ◌-◌, length, bit_and, arith}
use Rattle.std.proofs.lemmas.Nat.{and_le_r}
use Rattle.mlt_page_locks.proofs.marks.row.Goals as goal

pub returns-clause-within : goal.returns-clause-within
returns-clause-within c =
    let least : bit_and c.args.number (length c.args.masks.now - 1) ≤ length c.args.masks.now - 1 = and_le_r _ _ in
    omega (arith, least, c.requires)
