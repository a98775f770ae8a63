use Rattle.std.proofs.Common.{◌≡◌, ℕ, None, Some, is_some, refl, sym, ap, subst, ◌∙◌, IsSome, Option}
use Rattle.mlt_tx_operation.proofs.Names.{Mode, is_live_of, Live, BucketFields, ObjOp, RecChange, Do, CanChange, decision, size_key_of, target_of, page_at, IsPath, value_in, LocalState, local, WalkContext, context_in, Change, SetsFirst, WriteFields, started_for, Performs, leaves, PassesFast, store_after}
use Rattle.mlt_tx_operation.{specs.Fast.CanWrite, proofs.Passing.no_key, proofs.Passing.passes_reading, proofs.Passing.passes_writing}
use Rattle.mlt_tx_operation.proofs.plan.plan_fast.Goals as goal

pub returns-in_default-decided-clause-passes : goal.returns-in_default-decided-clause-passes
returns-in_default-decided-clause-passes g c =
    let context : WalkContext = context_in g.P.Pseudo.bits_of c.args.environment.now c.args.subtx.now.tx in
    let m : LocalState = local c.args.subtx.now c.args.pages.now in
    let key : c.target-key.result.0 ≡ (target_of (Do c.args.op.now)).0 = ap (λ (t : ℕ × Mode). t.0) c.target-key.ensures in
    let alone : size_key_of (Do c.args.op.now) ≡ None = no_key (size_key_of (Do c.args.op.now)) (ap is_some (sym c.size_key.ensures) ∙ sym c.is_some.ensures ∙ c.if-is_some.false) in
    let path : IsPath (page_at m.store.pages) context.root (context.bits (target_of (Do c.args.op.now)).0) c.in-Some.ensures.path.0 c.in-Some.ensures.path.1 c.in-Some.home.0 c.in-Some.home.1.now =
    subst (λ k. IsPath (page_at m.store.pages) context.root (context.bits k) c.in-Some.ensures.path.0 c.in-Some.ensures.path.1 c.in-Some.home.0 c.in-Some.home.1.now) key c.in-Some.ensures.path.3 in
    let found : c.value_in-found.result ≡ value_in (target_of (Do c.args.op.now)).0 c.in-Some.home.1.now.slots = c.value_in-found.ensures ∙ ap (λ k. value_in k c.in-Some.home.1.now.slots) key in
    passes_reading context m c.args.op.now c.requires.free alone c.requires.ready c.in-Some.ensures.path.0 c.in-Some.ensures.path.1 c.in-Some.home.0 c.in-Some.home.1.now path c.decide-reply.result.0
    (ap (decision (Do c.args.op.now)) (sym found) ∙ sym c.decide-reply.ensures.told ∙ (λ i. (c.decide-reply.result.0, c.in_default-decided.is i)))

pub returns-clause-passes : goal.returns-clause-passes
returns-clause-passes g c =
    let context : WalkContext = context_in g.P.Pseudo.bits_of c.args.environment.now c.args.subtx.now.tx in
    let m : LocalState = local c.args.subtx.now c.args.pages.now in
    let key : c.target-key.result.0 ≡ (target_of (Do c.args.op.now)).0 = ap (λ (t : ℕ × Mode). t.0) c.target-key.ensures in
    let alone : size_key_of (Do c.args.op.now) ≡ None = no_key (size_key_of (Do c.args.op.now)) (ap is_some (sym c.size_key.ensures) ∙ sym c.is_some.ensures ∙ c.if-is_some.false) in
    let fields : BucketFields = c.in-Some.home.1.now in
    let path : IsPath (page_at m.store.pages) context.root (context.bits (target_of (Do c.args.op.now)).0) c.in-Some.ensures.path.0 c.in-Some.ensures.path.1 c.in-Some.home.0 fields =
    subst (λ k. IsPath (page_at m.store.pages) context.root (context.bits k) c.in-Some.ensures.path.0 c.in-Some.ensures.path.1 c.in-Some.home.0 fields) key c.in-Some.ensures.path.3 in
    let found : c.value_in-found.result ≡ value_in (target_of (Do c.args.op.now)).0 fields.slots = c.value_in-found.ensures ∙ ap (λ k. value_in k fields.slots) key in
    let value : ℕ = c.in-Some-Some.value in
    let decided : RecChange = c.in-Some-decided.change in
    let sets : Performs decided c.value_in-found.result (Change.Set value) =
    leaves decided c.value_in-found.result (Some value) _ c.in-Some-Some.is-0 (subst (λ (d : Option RecChange). CanChange d c.value_in-found.result) c.in-Some-decided.is c.decide-reply.ensures.fits) (sym c.value_after.ensures ∙ c.in-Some-Some.is-1) in
    let performs : Performs decided (value_in (target_of (Do c.args.op.now)).0 fields.slots) (Change.Set value) = subst (λ f. Performs decided f (Change.Set value)) found sets in
    let some : IsSome (value_in (target_of (Do c.args.op.now)).0 fields.slots) = subst (λ (f : Option ℕ). IsSome f) (sym c.in-Some-Some.is-0 ∙ found) refl in
    let plan : SetsFirst c.in-Some.home.0 fields (is_live_of (target_of (Do c.args.op.now)).0) (Live (target_of (Do c.args.op.now)).0 value) c.in_ok-write.write =
    subst (λ k. SetsFirst c.in-Some.home.0 fields (is_live_of k) (Live k value) c.in_ok-write.write) key c.in_ok-write.ensures.plan in
    subst (λ (w : WriteFields). PassesFast context m (started_for (Do c.args.op.now)) c.decide-reply.result.0 (store_after (Some w) m.store)) (sym plan.written)
    (passes_writing context m c.args.op.now c.requires.free alone c.requires.ready c.in-Some.ensures.path.0 c.in-Some.ensures.path.1 c.in-Some.home.0 fields path c.decide-reply.result.0 c.in-Some-decided.change value plan.slot
    (ap (decision (Do c.args.op.now)) (sym found) ∙ sym c.decide-reply.ensures.told ∙ (λ i. (c.decide-reply.result.0, c.in-Some-decided.is i))) performs some
    (record { slot = plan.slot; within = plan.within; was = plan.was; first = plan.first; written = refl }))

pub returns-clause-writes : goal.returns-clause-writes
returns-clause-writes g c =
    let plan = c.in_ok-write.ensures.plan in
    subst (λ (w : WriteFields). CanWrite (Some w) c.args.pages.now.store) (sym plan.written) ((c.in-Some.home.1.now, c.in-Some.ensures.path.3.found), plan.within)
