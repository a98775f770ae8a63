use Rattle.std.proofs.Common.{◌∙◌, ◌+◌, [], ◌∷◌, ◌++◌, sym, subst, ap, arith, eq-eqb, eqb-true}
use Rattle.std.proofs.lemmas.Bool.{false≢true}
use Rattle.mlt_work_waits.{specs.Waits.LeadsBy, proofs.Found.found_is_for, proofs.Ends.ways_end, proofs.Ways.leads_by_holder, proofs.Ways.leads_nowhere, proofs.Ways.one_longer, proofs.Ways.one_more_by}
use Rattle.mlt_work_waits.proofs.waits.WaitsFor.leads.Goals as goal

pub returns-in-None-clause-leads : goal.returns-in-None-clause-leads
returns-in-None-clause-leads c acyclic leads =
    let none = sym c.holder_of.ensures ∙ c.in-None.is in
    absurd (leads_nowhere c.args.self.now c.loop.at c.args.to none (λ same. false≢true (sym c.if-eq.false ∙ c.eq.ensures ∙ eq-eqb c.loop.at c.args.to same)) (c.loop.invariant.leads acyclic leads))

pub loop-preserved : goal.loop-preserved
loop-preserved c =
    let waits = c.args.self.now in
    let holder = sym c.holder_of.ensures ∙ c.in-Some.is in
    record {
      leads = λ acyclic leads. leads_by_holder waits c.loop.at c.args.to c.in-Some.holder acyclic.functional holder (λ same. false≢true (sym c.if-eq.false ∙ c.eq.ensures ∙ eq-eqb c.loop.at c.args.to same)) (c.loop.invariant.leads acyclic leads);
      path = c.loop.invariant.path ++ c.in-Some.holder ∷ [];
      by = one_more_by waits c.args.from c.loop.at c.in-Some.holder c.loop.invariant.path c.loop.invariant.by (found_is_for waits c.loop.at c.in-Some.holder holder);
      long = one_longer c.loop.invariant.path c.in-Some.holder ∙ ap (λ n. n + 1) c.loop.invariant.long;
    }

pub returns-in-Some-clause-cause : goal.returns-in-Some-clause-cause
returns-in-Some-clause-cause c acyclic _ =
    let waits = c.args.self.now in
    let holder = sym c.holder_of.ensures ∙ c.in-Some.is in
    let by = one_more_by waits c.args.from c.loop.at c.in-Some.holder c.loop.invariant.path c.loop.invariant.by (found_is_for waits c.loop.at c.in-Some.holder holder) in
    let ends = ways_end waits c.args.from c.in-Some.holder (c.loop.invariant.path ++ c.in-Some.holder ∷ []) acyclic by in
    absurd (omega (arith, ends, one_longer c.loop.invariant.path c.in-Some.holder, c.loop.auto.counter-end, c.loop.invariant.long, c.count-end.ensures.count))

pub returns-then-eq-clause-cause : goal.returns-then-eq-clause-cause
returns-then-eq-clause-cause c _ _ =
    (c.loop.invariant.path, subst (LeadsBy c.args.self.now c.args.from c.loop.invariant.path) (eqb-true c.loop.at c.args.to (sym c.eq.ensures ∙ c.if-eq.true)) c.loop.invariant.by)
