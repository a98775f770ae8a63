use Rattle.std.proofs.Common.{◌≡◌, ℕ, Option, Some, refl, sym, ap, subst, inl}
use Rattle.mlt_tx_operation.proofs.Names.{ObjReply, RecChange, LocalState, local, view_of, WalkContext, context_in, rolls_back, MayDecide, TellsAtBucket, WalkingFields, walking}
use Rattle.mlt_hash_access.proofs.OwnSteps.{step_keeps_tx}
use Rattle.mlt_tx_operation.proofs.{Going.goes_on, Going.puts, Ready.under_way, Telling.found_tells, Telling.may_decide, Telling.refused, Telling.waits}
use Rattle.mlt_tx_operation.proofs.walking.step_walk.Goals as goal

pub advance-requires : goal.advance-requires
advance-requires g c κs within =
    let context : WalkContext = context_in g.P.Pseudo.bits_of c.args.environment.now c.args.subtx.now.tx in
    (within, (refl, (under_way c.args.walk.now.phase context _ (view_of (local c.args.subtx.now c.args.pages.now)) c.requires.ready.operates.fits c.requires.untold, c.requires.ready.walks)))

pub act_on-requires : goal.act_on-requires
act_on-requires g c =
    let context : WalkContext = context_in g.P.Pseudo.bits_of c.args.environment.now c.args.subtx.now.tx in
    let old : LocalState = local c.args.subtx.now c.args.pages.now in
    let mid : LocalState = local c.advance.new.subtx c.advance.new.pages in
    let at : WalkingFields = walking c.args.request.now c.args.reply.now c.advance.new.self in
    let tx : mid.running.tx ≡ old.running.tx = step_keeps_tx old mid c.in-Found.ensures.leaves.touches in
    let decides = may_decide context old mid _ at c.in-Found.found c.requires.ready c.in-Found.ensures.leaves c.in-Found.ensures.tells refl c.requires.untold in
    record { ready = subst (λ (t : ℕ). MayDecide (context_in g.P.Pseudo.bits_of c.args.environment.now t) mid at c.in-Found.found) (sym tx) decides }

pub returns-in-Going : goal.returns-in-Going
returns-in-Going g c =
    let context : WalkContext = context_in g.P.Pseudo.bits_of c.args.environment.now c.args.subtx.now.tx in
    record { tells = inl (goes_on context _ _ _ _ c.requires.ready c.in-Going.ensures.leaves c.in-Going.ensures.tells refl refl c.requires.untold) }

pub returns-in-Waiting : goal.returns-in-Waiting
returns-in-Waiting g c =
    let context : WalkContext = context_in g.P.Pseudo.bits_of c.args.environment.now c.args.subtx.now.tx in
    record { tells = waits context _ _ _ _ c.in-Waiting.page c.in-Waiting.by c.in-Waiting.ensures.tells refl refl }

pub returns-in-Found : goal.returns-in-Found
returns-in-Found g c =
    let context : WalkContext = context_in g.P.Pseudo.bits_of c.args.environment.now c.args.subtx.now.tx in
    let old : LocalState = local c.args.subtx.now c.args.pages.now in
    let mid : LocalState = local c.advance.new.subtx c.advance.new.pages in
    let new : LocalState = local c.act_on.new.subtx c.act_on.new.pages in
    let tx : mid.running.tx ≡ old.running.tx = step_keeps_tx old mid c.in-Found.ensures.leaves.touches in
    let at : WalkingFields = walking c.args.request.now c.args.reply.now c.advance.new.self in
    let after : WalkingFields = walking c.args.request.now c.act_on.new.reply c.act_on.new.walk in
    let at_bucket : TellsAtBucket context mid new at after c.act_on.result =
    subst (λ (t : ℕ). TellsAtBucket (context_in g.P.Pseudo.bits_of c.args.environment.now t) mid new at after c.act_on.result) tx c.act_on.ensures.tells in
    record { tells = found_tells context old mid new _ at after c.in-Found.found c.act_on.result c.requires.ready c.in-Found.ensures.leaves c.in-Found.ensures.locks c.in-Found.ensures.tells refl refl at_bucket }

pub returns-in-Changed : goal.returns-in-Changed
returns-in-Changed g c =
    let context : WalkContext = context_in g.P.Pseudo.bits_of c.args.environment.now c.args.subtx.now.tx in
    record { tells = inl (puts context _ _ _ _ c.requires.ready c.in-Changed.ensures.leaves c.in-Changed.ensures.tells refl (ap (λ (d : ObjReply × Option RecChange). Some d.0) c.decide.ensures.told)) }

pub returns-in-Refused : goal.returns-in-Refused
returns-in-Refused g c =
    let context : WalkContext = context_in g.P.Pseudo.bits_of c.args.environment.now c.args.subtx.now.tx in
    record { tells = refused context _ _ _ _ c.advance.new.self c.in-Refused.refusal c.requires.ready c.in-Refused.ensures.leaves c.in-Refused.ensures.tells c.in-Refused.ensures.no_room (rolls_back _ _ _ refl c.roll_back.ensures.store c.roll_back.ensures.locks c.roll_back.ensures.images) }
