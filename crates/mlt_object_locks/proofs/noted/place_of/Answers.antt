use Rattle.std.proofs.Common.{◌≡◌, ap, sym, ◌∙◌, arith}
use Rattle.mlt_object_locks.proofs.Names.{nat_tests}
use Rattle.mlt_object_locks.proofs.Entries.{found_where}
use Rattle.mlt_object_locks.proofs.noted.place_of.Goals as goal

pub returns-in-Some : goal.returns-in-Some
returns-in-Some c =
    let within = c.in-Some.ensures.lookup.0 in
    let test = c.if-eq.ensures in
    let own : c.in-Some.entry.now.0 ≡ c.args.tx = grind (arith, nat_tests) in
    sym (found_where c.args.entries.now c.args.tx c.of-likely.result c.in-Some.entry.now c.requires (grind (arith, nat_tests)) (ap (λ e. e.0) (sym c.in-Some.ensures.lookup.1) ∙ own))
