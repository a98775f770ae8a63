use Rattle.std.proofs.Common.{rules, ◌≡◌, ◌∙◌, [], None, Some, refl, sym, subst, ap, arith, eq-eqb}
use Rattle.mlt_work_waits.{specs.Turns.waiting, specs.Turns.CantSleep, specs.Waits.Waits, specs.Waits.others_in, specs.Waits.wakers_in, specs.declared.wait.Awaited.Awaited, specs.declared.wait.Whose.Whose, specs.declared.desks.Desks.Desks, proofs.Fewer.fewer_wait, proofs.InTurn.same_turns, proofs.InTurn.stay_in_turn, proofs.desks.Desks.wait_for_object.Goals.in-Some+else-eq, proofs.desks.Desks.wait_for_object.Goals.in_default}
use Rattle.std.proofs.lemmas.Bool.{false≢true}
use Rattle.mlt_work_waits.proofs.desks.Desks.wait_for_object.Goals as goal

pub invariant_of-self : goal.invariant_of-self
invariant_of-self c =
    let before = c.args.self.now in
    let one = Whose.Of c.in-Some.youngest.waiter in
    record {
      awake = omega (arith, ap waiting c.release.ensures.releases, fewer_wait Awaited.Objects one before.waits, before.awake);
      turns = same_turns (others_in one before.waits.objects) _ before.queue _ (ap (λ (w : Waits). w.objects) c.release.ensures.releases) refl (stay_in_turn one before.waits.objects before.queue before.turns);
    }

-- it can't sleep among those that are left, who stay
abbrev TriesFast : goal.Else-join → Desks → Type 0
TriesFast c desks = CantSleep desks.count Awaited.Objects c.args.wait desks.waits × (c.join.new.self.waits ≡ desks.waits)

tries_fast : (c : goal.Else-join) → TriesFast c c.match-youngest.self
tries_fast c = (c.join.ensures.cant c.if-join.false, c.join.ensures.stays c.if-join.false)

pub returns-else-join-clause-turns : goal.returns-else-join-clause-turns
returns-else-join-clause-turns c = elim c.match-youngest.branch [
  | in-Some+else-eq w ↦ (
    wakers_in (Whose.Of w.in-Some.youngest.waiter) c.args.self.now.waits.objects,
    ap (λ x. x.items) w.wakers-is ∙ w.release.ensures.wakes,
    (
      Some w.in-Some.youngest,
      record {
        youngest = w.in-Some.ensures.youngest;
        is_other = λ same. false≢true (sym w.if-eq.false ∙ w.eq.ensures ∙ eq-eqb w.in-Some.youngest.waiter c.args.wait.waiter same);
      },
      refl,
      subst (λ waits. CantSleep c.args.self.now.count Awaited.Objects c.args.wait waits × (c.join.new.self.waits ≡ waits)) w.release.ensures.releases
          (subst (TriesFast c) w.self-is (tries_fast c)),
    ),
  )
  | in_default w ↦ (
    [],
    search rules,
    (None, w.in_default.ensures.free, refl, subst (TriesFast c) w.self-is (tries_fast c)),
  )
]
