use Rattle.std.proofs.Common.{◌≡◌, ◌∙◌, Some, length, sym, subst, ap, inl, inr, arith, eq-eqb, eqb-true}
use Rattle.std.proofs.lemmas.Bool.{false≢true}
use Rattle.mlt_work_waits.{specs.Waits.IsAcyclic, specs.Waits.Waits, specs.Waits.wait_in, proofs.Youngest.walked_around, proofs.Youngest.walked_no_longer, proofs.Youngest.walked_on, proofs.Youngest.walked_to_end, proofs.waits.WaitsFor.youngest.Goals.then-is_younger, proofs.waits.WaitsFor.youngest.Goals.else-is_younger}
use Rattle.mlt_work_waits.proofs.waits.WaitsFor.youngest.Goals as goal

pub returns-then-eq-clause-youngest : goal.returns-then-eq-clause-youngest
returns-then-eq-clause-youngest c =
    let acyclic = subst IsAcyclic c.self.view_is c.self.invariant in
    walked_around c.args.self.now acyclic c.args.wait.now c.loop.youngest c.loop.at c.loop.counter (c.loop.invariant acyclic)
    (eqb-true c.loop.at c.args.wait.now.waiter (sym c.eq.ensures ∙ c.if-eq.true))

pub returns-in_default-clause-free : goal.returns-in_default-clause-free
returns-in_default-clause-free c =
    let acyclic = subst IsAcyclic c.self.view_is c.self.invariant in
    walked_to_end c.args.self.now acyclic c.args.wait.now c.loop.youngest c.loop.at c.loop.counter (c.loop.invariant acyclic)
    (λ same. false≢true (sym c.if-eq.false ∙ c.eq.ensures ∙ eq-eqb c.loop.at c.args.wait.now.waiter same))
    (ap (λ items. wait_in items c.loop.at) (sym (c.deref.ensures.0 ∙ ap (λ (w : Waits). w.objects) c.self.view_is)) ∙ sym c.in_default.ensures)

pub loop-preserved : goal.loop-preserved
loop-preserved c acyclic =
    let found : wait_in c.args.self.now.objects c.loop.at ≡ Some c.in-Some.next.now =
    ap (λ items. wait_in items c.loop.at) (sym (c.deref.ensures.0 ∙ ap (λ (w : Waits). w.objects) c.self.view_is)) ∙ sym c.in-Some.ensures in
    walked_on c.args.self.now acyclic c.args.wait.now c.loop.youngest c.in-Some.next.now c.if-is_younger.youngest c.loop.at c.loop.counter (c.loop.invariant acyclic)
    (λ same. false≢true (sym c.if-eq.false ∙ c.eq.ensures ∙ eq-eqb c.loop.at c.args.wait.now.waiter same)) found
    (elim c.if-is_younger.branch [
      | then-is_younger w ↦ inl (sym c.is_younger.ensures ∙ w.if-is_younger.true, w.youngest-is)
      | else-is_younger w ↦ inr (sym c.is_younger.ensures ∙ w.if-is_younger.false, w.youngest-is)
    ])

pub returns-clause-free : goal.returns-clause-free
returns-clause-free c =
    let acyclic = subst IsAcyclic c.self.view_is c.self.invariant in
    let few = ap (λ (w : Waits). length w.objects) c.self.view_is in
    absurd (walked_no_longer c.args.self.now acyclic c.args.wait.now c.loop.youngest c.loop.at c.loop.counter (c.loop.invariant acyclic)
    (omega (arith, c.loop-test.false, c.len-most.ensures.value, few)))
