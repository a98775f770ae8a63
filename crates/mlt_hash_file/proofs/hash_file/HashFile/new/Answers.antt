use Rattle.std.proofs.Common.{arith, rules}
use Rattle.mlt_hash_form.proofs.MapChanges.{opening_map}
use Rattle.mlt_hash_file.proofs.{AloneEnds.at_rest, HashFiles.opened_depth, HashFiles.opened_file}
use Rattle.mlt_hash_file.proofs.hash_file.HashFile.new.Goals as goal

pub invariant_of-result : goal.invariant_of-result
invariant_of-result g c = ((at_rest _ _ c.open_file.new.store 1 1 c.start-subtx.ensures c.in_ok-locks.ensures.empty (omega arith)).0, search rules)

pub invariant_of-result-2 : goal.invariant_of-result-2
invariant_of-result-2 g c = (
  (at_rest _ _ c.open_file.new.store 1 1 c.start-subtx.ensures c.in_ok-locks.ensures.empty (omega arith)).1,
  opened_file (g.P.Pseudo.bits_of c.args.pseudo) c.in_ok-page.page c.in_ok-page.ensures.opening.0 c.in_ok-page.ensures.opening.1 c.args.limits.now.max_depth c.open_file.new.store.pages (g.met.P.Pseudo.has_64_bits c.args.pseudo) (search rules) c.in_ok-page.ensures.opening.2,
)

pub returns-clause-records : goal.returns-clause-records
returns-clause-records g c = opening_map c.open_file.new.store.pages c.in_ok-page.page c.in_ok-page.ensures.opening.0 c.in_ok-page.ensures.opening.1 c.in_ok-page.ensures.opening.2

pub returns-clause-depth : goal.returns-clause-depth
returns-clause-depth g c = opened_depth c.in_ok-page.page c.in_ok-page.ensures.opening.0 c.in_ok-page.ensures.opening.1 c.open_file.new.store.pages c.in_ok-page.ensures.opening.2

pub returns-clause-file : goal.returns-clause-file
returns-clause-file g c =
    opened_file (g.P.Pseudo.bits_of c.args.pseudo) c.in_ok-page.page c.in_ok-page.ensures.opening.0 c.in_ok-page.ensures.opening.1 c.args.limits.now.max_depth c.open_file.new.store.pages (g.met.P.Pseudo.has_64_bits c.args.pseudo) (search rules) c.in_ok-page.ensures.opening.2
