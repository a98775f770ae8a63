use Rattle.std.proofs.Common.{arith}
use Rattle.std.proofs.lemmas.List.Sums.{sum_by-append}
use Rattle.mlt_serve_session.{proofs.Names.Outcome, specs.Tallies.commits_by}
use Rattle.mlt_serve_session.proofs.tally.TallyReceipts.take_in.Goals as goal

pub invariant_of-self-clause-commits_are : goal.invariant_of-self-clause-commits_are
invariant_of-self-clause-commits_are c =
    rw (c.of-self.ensures, sum_by-append (λ (o : Outcome). commits_by o.end)) (omega (arith, c.saturating_add-self-2.ensures, c.args.self.now.commits_are, c.args.more.commits_are))
