use Rattle.std.proofs.Common.{◌≡◌, ℕ, None, Option, refl, sym, ap, subst}
use Rattle.mlt_tx_two_records.proofs.Names.{ObjReply, RecChange, LocalState, local, step_keeps_tx, WalkContext, context_after, context_in, MayActOnSize, TellsAtSize}
use Rattle.mlt_tx_two_records.proofs.{RollingBack.rolls_back, WideDeciding.is_possible, WideTelling.never_needs, WideTelling.refused}
use Rattle.mlt_tx_two_records.proofs.WideSizeSteps.{goes_to_size, is_refused, may_act, tells_there, told_behind, waits_there}
use Rattle.mlt_tx_two_records.proofs.wide.walk_to_size.Goals as goal

pub advance-requires : goal.advance-requires
advance-requires g c κs within = (within, (refl, (c.requires.1.under_way, c.requires.1.may.walks)))

pub act_on_size-requires : goal.act_on_size-requires
act_on_size-requires g c κs within =
    let mid : LocalState = local c.advance.new.subtx c.advance.new.pages in
    let may = may_act _ _ c.args.request.now c.args.walk.now g.since c.requires.1 mid c.advance.new.self c.in-Found.ensures.leaves c.in-Found.found c.in-Found.ensures.locks c.in-Found.ensures.tells in
    (within, subst (λ (t : ℕ). MayActOnSize (context_in g.P.Pseudo.bits_of c.args.environment.now t) mid c.args.request.now c.advance.new.self c.in-Found.found g.since) (sym (step_keeps_tx _ _ c.in-Found.ensures.leaves.touches)) may)

pub decide-requires : goal.decide-requires
decide-requires g c = record { possible = is_possible c.args.request.now None c.requires.1.may.adds }

pub unreachable-requires : goal.unreachable-requires
unreachable-requires g c = never_needs _ _ _ c.args.walk.now c.advance.new.self c.advance.result c.advance.ensures.tells c.in-NeedSplit.is

pub returns-in-Going : goal.returns-in-Going
returns-in-Going g c =
    record { tells = goes_to_size _ _ c.args.request.now c.args.walk.now g.since c.requires.1 _ c.advance.new.self c.in-Going.ensures.leaves c.in-Going.ensures.tells }

pub returns-in-Waiting : goal.returns-in-Waiting
returns-in-Waiting g c =
    record { tells = waits_there _ _ c.args.request.now c.args.walk.now g.since c.requires.1 _ c.advance.new.self c.in-Waiting.page c.in-Waiting.by c.in-Waiting.ensures.tells }

pub returns-in-Found : goal.returns-in-Found
returns-in-Found g c =
    let mid : LocalState = local c.advance.new.subtx c.advance.new.pages in
    let new : LocalState = local c.act_on_size.new.subtx c.act_on_size.new.pages in
    let there : TellsAtSize _ g.since mid new c.args.request.now c.advance.new.self c.act_on_size.new.walk c.act_on_size.result =
    subst (λ (t : ℕ). TellsAtSize (context_in g.P.Pseudo.bits_of c.args.environment.now t) g.since mid new c.args.request.now c.advance.new.self c.act_on_size.new.walk c.act_on_size.result) (step_keeps_tx _ _ c.in-Found.ensures.leaves.touches) c.act_on_size.ensures.tells in
    record { tells = tells_there _ _ c.args.request.now c.args.walk.now g.since c.requires.1 mid c.advance.new.self c.in-Found.ensures.leaves c.in-Found.found c.in-Found.ensures.locks c.in-Found.ensures.tells new c.act_on_size.new.walk c.act_on_size.result there }

pub returns-in-Changed : goal.returns-in-Changed
returns-in-Changed g c =
    let is = ap (λ (d : ObjReply × Option RecChange). d.0) c.decide.ensures.told in
    record { tells = told_behind _ _ c.args.request.now c.args.walk.now g.since c.requires.1 _ c.advance.new.self c.in-Changed.ensures.leaves c.decide.result.0 is c.in-Changed.ensures.tells }

pub returns-in-Refused : goal.returns-in-Refused
returns-in-Refused g c =
    let why = refused _ _ _ c.args.walk.now c.advance.new.self c.in-Refused.reason c.in-Refused.ensures.tells c.in-Refused.ensures.no_room in
    let back = rolls_back _ _ _ (refl {a = _}) c.roll_back.ensures.store c.roll_back.ensures.locks c.roll_back.ensures.images in
    record { tells = is_refused _ _ c.args.request.now c.args.walk.now g.since c.requires.1 _ c.advance.new.self c.in-Refused.ensures.leaves _ c.in-Refused.reason why back }
