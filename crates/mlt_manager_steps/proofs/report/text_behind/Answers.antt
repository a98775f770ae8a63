use Rattle.std.proofs.Common.{rules, append_assoc}
use Rattle.mlt_manager_steps.proofs.report.text_behind.Goals as goal

pub returns-clause-text : goal.returns-clause-text
returns-clause-text g c = record {
  base = c.in_ok-base.base;
  committed = c.in_ok-base.ensures.base;
  depth = c.depth.result;
  deep = c.depth.ensures.depth;
  appended = search (rules, append_assoc);
}
