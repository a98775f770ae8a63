use Rattle.std.proofs.Common.{◌∙◌, not, sym, ap, inl, inr}
use Rattle.std.proofs.lemmas.Bool.{false≢true}
use Rattle.mlt_work_waits.proofs.Found.{found_is_for, none_is_for}
use Rattle.mlt_work_waits.proofs.waits.WaitsFor.can_join.Goals as goal

pub returns-in-Some-clause-cant : goal.returns-in-Some-clause-cant
returns-in-Some-clause-cant c _ _ =
    inr (inl (c.in-Some.field-0, found_is_for c.args.self.now c.args.wait.now.waiter c.in-Some.field-0 (sym c.holder_of.ensures ∙ c.in-Some.is)))

pub returns-in-None-clause-can : goal.returns-in-None-clause-can
returns-in-None-clause-can c acyclic ends = record {
  room = c.is_full.ensures.room c.if-is_full.false;
  first = λ y. none_is_for c.args.self.now c.args.wait.now.waiter y (sym c.holder_of.ensures ∙ c.in-None.is);
  open_end = λ closes. false≢true (sym (ap not (c.leads.ensures.leads acyclic closes)) ∙ ends);
}
