use Rattle.std.proofs.Common.{sym, subst, ap, length}
use Rattle.mlt_trace.proofs.Names.{CountsFrom}
use Rattle.mlt_trace.proofs.ItemLaws.{commit_keeps_counted, commits_counted, no_commit}
use Rattle.mlt_trace.proofs.laws.commits_stay_counted.Goals as goal

pub returns : goal.returns
returns c = record {
  commit = commit_keeps_counted;
  one_more = commits_counted;
  other = λ items item none. subst (CountsFrom 1) (sym (no_commit items item none));
  no_more = λ items item none. ap length (no_commit items item none);
}
