use Rattle.std.proofs.Common.{◌≡◌, ℕ, None, Some, IsSome, refl, sym, ap, subst, ◌∙◌}
use Rattle.std.proofs.lemmas.Option.{none-some}
use Rattle.mlt_tx.proofs.Names.{ObjOp, ObjReply, inverse_of, LocalState, local, WalkContext, context_in, TakeBack, OperationFields, started_for, SharedState, Running}
use Rattle.mlt_hash_access.proofs.Rebased.{same_some}
use Rattle.mlt_tx_operation.specs.Operating.{MayOperate}
use Rattle.mlt_object_base.specs.Undo.{IsLast}
use Rattle.mlt_tx.{specs.Steps.TakesBack, proofs.Backing.end_tells, proofs.Backing.one_last}
use Rattle.mlt_tx.proofs.stepping.step_back.Goals as goal

pub step-requires-clause-untold : goal.step-requires-clause-untold
step-requires-clause-untold g c = sym c.reply.ensures ∙ c.in-None-reply.is

pub step-requires-clause-ready : goal.step-requires-clause-ready
step-requires-clause-ready g c = c.requires.ready.goes c.in-Some.operation c.in-Some.is (sym c.reply.ensures ∙ c.in-None-reply.is)

pub begin_inverse-requires : goal.begin_inverse-requires
begin_inverse-requires g c =
    let context : WalkContext = context_in g.P.Pseudo.bits_of c.args.environment.now c.args.subtx.now.tx in
    let m : LocalState = local c.args.subtx.now c.args.shared.now.pages in
    let last : IsLast (Some c.in-Some-last.last) c.args.undo.now.entries = c.in-Some-last.ensures in
    let same : c.requires.ready.last ≡ c.in-Some-last.last = one_last c.args.undo.now.entries c.requires.ready.front last.0 c.requires.ready.last c.in-Some-last.last c.requires.ready.entries last.1 in
    let inverse : inverse_of c.requires.ready.last ≡ Some c.in-Some-inverse.field-0 = ap inverse_of same ∙ sym c.inverse.ensures.table ∙ c.in-Some-inverse.is in
    let may = c.requires.ready.starts c.in-None.is (subst IsSome (sym inverse) refl) in
    record { ready = subst (λ (x : ObjOp × ObjReply). MayOperate context m (started_for (TakeBack x))) same may }

pub returns-in-Some-reply-clause-tells : goal.returns-in-Some-reply-clause-tells
returns-in-Some-reply-clause-tells g c =
    let context : WalkContext = context_in g.P.Pseudo.bits_of c.args.environment.now c.args.subtx.now.tx in
    let old : SharedState = c.args.shared.now in
    let between : SharedState = record { alloc = old.alloc; pages = record { store = old.pages.store; locks = c.end.new.locks }; objects = old.objects; history = old.history } in
    let tx : c.tx.result ≡ c.args.subtx.now.tx = c.tx.ensures ∙ ap (λ (r : Running). r.tx) c.end.ensures.images in
    let takes = subst (λ (tx : ℕ). TakesBack tx c.args.undo.now c.take_back.new.undo between c.take_back.new.shared c.take_back.result) tx c.take_back.ensures.tells in
    let answered : IsSome c.in-Some.operation.reply = subst IsSome (sym c.in-Some-reply.is ∙ c.reply.ensures) refl in
    end_tells context c.args.inverting.now None c.args.subtx.now c.end.new.self c.args.undo.now c.take_back.new.undo old c.take_back.new.shared c.take_back.result
    (record {
      between = between;
      none = refl;
      fast = λ is. absurd (none-some c.in-Some.operation (sym is ∙ c.in-Some.is));
      without = λ front x is entries. absurd (none-some c.in-Some.operation (sym is ∙ c.in-Some.is));
      at_end = λ o is. (
        subst (λ (p : OperationFields). IsSome p.reply) (same_some c.in-Some.operation o (sym c.in-Some.is ∙ is)) answered,
        record { running = c.end.ensures.images; locks = c.end.ensures.locks; store = refl },
        refl,
        refl,
      );
      takes = takes;
    })

pub returns-in-None-inverse-clause-tells : goal.returns-in-None-inverse-clause-tells
returns-in-None-inverse-clause-tells g c =
    let context : WalkContext = context_in g.P.Pseudo.bits_of c.args.environment.now c.args.subtx.now.tx in
    let last : IsLast (Some c.in-Some-last.last) c.args.undo.now.entries = c.in-Some-last.ensures in
    let takes = subst (λ (tx : ℕ). TakesBack tx c.args.undo.now c.take_back-in-None-inverse.new.undo c.args.shared.now c.take_back-in-None-inverse.new.shared c.take_back-in-None-inverse.result) c.tx-in-None-inverse.ensures c.take_back-in-None-inverse.ensures.tells in
    end_tells context c.args.inverting.now c.args.inverting.now c.args.subtx.now c.args.subtx.now c.args.undo.now c.take_back-in-None-inverse.new.undo c.args.shared.now c.take_back-in-None-inverse.new.shared c.take_back-in-None-inverse.result
    (record {
      between = c.args.shared.now;
      none = c.in-None.is;
      fast = λ is. (refl, refl);
      without = λ front x is entries. ap inverse_of (one_last c.args.undo.now.entries front last.0 x c.in-Some-last.last entries last.1) ∙ sym c.inverse.ensures.table ∙ c.in-None-inverse.is;
      at_end = λ o is. absurd (none-some o (sym c.in-None.is ∙ is));
      takes = takes;
    })
