use Rattle.std.proofs.Common.{rules, ◌≡◌, ◌≤◌, ◌++◌, ◌∙◌, arith, false, subst, sym, IsPermutation}
use Rattle.mlt_trace.specs.Numbers.{begun_txs}
use Rattle.mlt_trace_audit.specs.Agreement.{count_of}
use Rattle.mlt_manager.specs.Managers.{ManagerFields}
use Rattle.mlt_work_desk.specs.{Prefixes.times, LogHandles.begun_by}
use Rattle.mlt_serve.proofs.Names.{All-push, IsPermutation-append_right, IsPermutation-trans, TellsOutcomes, AllHaveMemory, all_outcomes}
use Rattle.mlt_serve.{specs.Threads.outcomes_of, proofs.Merging.behind_all, proofs.Merging.last_behind}
use Rattle.mlt_serve.proofs.gathering.gather.Goals as goal

pub loop-thread-preserved : goal.loop-thread-preserved
loop-thread-preserved g c =
    let l = c.loop-thread in
    let w = c.in-Some.thread in
    let rest = c.pop.new.self.items in
    let got = g.K.Receipts.receipts l.gathered.outcomes in
    let after = g.K.Receipts.receipts c.take_in.new.self.outcomes in
    let all = all_outcomes c.args.threads.items in
    record {
      parts = omega (arith, c.in-Some.ensures.len, c.take_in.ensures.parts, l.invariant.parts);
      events = c.take_in.ensures.events;
      outcomes = λ f.
          let was = l.invariant.outcomes (c.take_in.ensures.short f).0 in
          let popped = subst (λ xs. IsPermutation all (all_outcomes xs ++ got)) c.in-Some.ensures.items was in
          IsPermutation-trans all (all_outcomes rest ++ (got ++ outcomes_of w)) (all_outcomes rest ++ after) (last_behind outcomes_of rest w all got popped)
          (IsPermutation-append_right (all_outcomes rest) (got ++ outcomes_of w) after (c.take_in.ensures.outcomes f));
      clients = λ f. c.take_in.ensures.clients f (l.invariant.clients (c.take_in.ensures.short f).0);
      given = λ f. c.take_in.ensures.given f (l.invariant.given (c.take_in.ensures.short f).0);
      of_log = c.take_in.ensures.of_log;
      begun = λ f. c.take_in.ensures.begun f (l.invariant.begun (c.take_in.ensures.short f).0);
      manager = c.take_in.ensures.manager ∙ l.invariant.manager;
      told = λ f. subst (λ (m : _). TellsOutcomes m.shared.history.items got → TellsOutcomes m.shared.history.items after) l.invariant.manager (c.take_in.ensures.told f) (l.invariant.told (c.take_in.ensures.short f).0);
      short = λ f have.
          let both = c.take_in.ensures.short f in
          l.invariant.short both.0 (subst AllHaveMemory (sym c.in-Some.ensures.items) (All-push (λ thread. thread.is_short ≡ false) rest w have both.1));
    }

pub returns-clause-outcomes : goal.returns-clause-outcomes
returns-clause-outcomes g c =
    let l = c.loop-thread in
    λ have.
    let both = c.take_in-2.ensures.short have in
    behind_all (all_outcomes c.args.threads.items) (all_outcomes l.rest.items) (g.K.Receipts.receipts l.gathered.outcomes) (outcomes_of c.args.loader) (g.K.Receipts.receipts c.take_in-2.new.self.outcomes)
    (search rules) (l.invariant.outcomes both.0) (c.take_in-2.ensures.outcomes have)

pub returns-clause-begun : goal.returns-clause-begun
returns-clause-begun g c = λ have tx.
    let l = c.loop-thread in
    let begun = begun_by c.take_in-2.new.begun in
    let items = c.args.desks.now.state.manager.shared.history.items in
    let is : count_of tx (g.K.Receipts.receipts c.take_in-2.new.self.outcomes) ≡ times tx begun = c.take_in-2.ensures.begun have (l.invariant.begun (c.take_in-2.ensures.short have).0) tx in
    let manager : c.take_in-2.new.desks.state.manager ≡ c.args.desks.now.state.manager = search rules in
    let counted : times tx begun ≤ times tx (begun_txs items) = subst (λ (m : ManagerFields _). times tx begun ≤ times tx (begun_txs m.shared.history.items)) manager (c.count.ensures.counted tx) in
    omega (arith, is, counted)
