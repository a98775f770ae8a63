use Rattle.std.proofs.Common.{◌≡◌, ℕ, refl, sym, subst}
use Rattle.mlt_tx_two_records.proofs.Names.{LocalState, local, view_of, step_keeps_tx, WalkContext, context_in, HasJustPut, MayActOnOwn, TellsAtOwn, IsGoingToSize}
use Rattle.mlt_tx_two_records.proofs.{RollingBack.rolls_back, WideTelling.never_needs, WideTelling.refused, WideTelling.waits}
use Rattle.mlt_tx_two_records.proofs.WideOwnSteps.{goes_over_behind, goes_to_own, has_put_behind, is_refused, may_act, may_walk, tells_there}
use Rattle.mlt_tx_two_records.proofs.wide.step_own.Goals as goal

pub advance-requires : goal.advance-requires
advance-requires g c κs within =
    (within, (refl, (c.requires.ready.stands.under_way, may_walk _ _ c.args.request.now c.args.walk.now c.requires.ready)))

pub act_on_own-requires : goal.act_on_own-requires
act_on_own-requires g c =
    let mid : LocalState = local c.advance.new.subtx c.advance.new.pages in
    let may = may_act _ _ c.args.request.now c.args.walk.now c.requires.ready mid c.advance.new.self c.in-Found.ensures.leaves c.in-Found.found c.in-Found.ensures.locks c.in-Found.ensures.tells in
    record { ready = subst (λ (t : ℕ). MayActOnOwn (context_in g.P.Pseudo.bits_of c.args.environment.now t) mid c.args.request.now c.advance.new.self c.in-Found.found) (sym (step_keeps_tx _ _ c.in-Found.ensures.leaves.touches)) may }

pub go_over-requires : goal.go_over-requires
go_over-requires g c κs within =
    let mid : LocalState = local c.advance.new.subtx c.advance.new.pages in
    let put = has_put_behind _ _ c.args.request.now c.args.walk.now c.requires.ready mid c.advance.new.self c.in-Changed.ensures.leaves c.in-Changed.ensures.tells in
    (within, (refl, subst (λ (t : ℕ). HasJustPut (context_in g.P.Pseudo.bits_of c.args.environment.now t) mid c.args.request.now c.advance.new.self) (sym (step_keeps_tx _ _ c.in-Changed.ensures.leaves.touches)) put))

pub unreachable-requires : goal.unreachable-requires
unreachable-requires g c = never_needs _ _ _ c.args.walk.now c.advance.new.self c.advance.result c.advance.ensures.tells c.in-NeedSplit.is

pub returns-in-Going : goal.returns-in-Going
returns-in-Going g c =
    record { tells = goes_to_own _ _ c.args.request.now c.args.walk.now c.requires.ready _ c.advance.new.self c.in-Going.ensures.leaves c.in-Going.ensures.tells }

pub returns-in-Waiting : goal.returns-in-Waiting
returns-in-Waiting g c = record { tells = waits _ _ _ c.args.walk.now c.advance.new.self c.in-Waiting.page c.in-Waiting.by c.in-Waiting.ensures.tells }

pub returns-in-Found : goal.returns-in-Found
returns-in-Found g c =
    let mid : LocalState = local c.advance.new.subtx c.advance.new.pages in
    let new : LocalState = local c.act_on_own.new.subtx c.act_on_own.new.pages in
    let there : TellsAtOwn _ mid new c.args.request.now c.advance.new.self c.act_on_own.result.0 c.act_on_own.new.walk c.act_on_own.result.1 =
    subst (λ (t : ℕ). TellsAtOwn (context_in g.P.Pseudo.bits_of c.args.environment.now t) mid new c.args.request.now c.advance.new.self c.act_on_own.result.0 c.act_on_own.new.walk c.act_on_own.result.1) (step_keeps_tx _ _ c.in-Found.ensures.leaves.touches) c.act_on_own.ensures.tells in
    record { tells = tells_there _ _ c.args.request.now c.args.walk.now c.requires.ready mid c.advance.new.self c.in-Found.ensures.leaves c.in-Found.found c.in-Found.ensures.locks c.in-Found.ensures.tells new c.act_on_own.result.0 c.act_on_own.new.walk c.act_on_own.result.1 there }

pub returns-in-Changed : goal.returns-in-Changed
returns-in-Changed g c =
    let mid : LocalState = local c.advance.new.subtx c.advance.new.pages in
    let goes = subst (λ (t : ℕ). IsGoingToSize (context_in g.P.Pseudo.bits_of c.args.environment.now t) c.args.request.now c.go_over.new.walk (view_of mid)) (step_keeps_tx _ _ c.in-Changed.ensures.leaves.touches) c.go_over.ensures.goes in
    record { tells = goes_over_behind _ _ c.args.request.now c.args.walk.now c.requires.ready mid c.advance.new.self c.in-Changed.ensures.leaves c.in-Changed.ensures.tells c.go_over.new.walk goes c.go_over.ensures.steps }

pub returns-in-Refused : goal.returns-in-Refused
returns-in-Refused g c =
    let why = refused _ _ _ c.args.walk.now c.advance.new.self c.in-Refused.reason c.in-Refused.ensures.tells c.in-Refused.ensures.no_room in
    let back = rolls_back _ _ _ (refl {a = _}) c.roll_back.ensures.store c.roll_back.ensures.locks c.roll_back.ensures.images in
    record { tells = is_refused _ _ c.args.request.now c.args.walk.now c.requires.ready _ c.advance.new.self c.in-Refused.ensures.leaves _ c.in-Refused.reason why back }
