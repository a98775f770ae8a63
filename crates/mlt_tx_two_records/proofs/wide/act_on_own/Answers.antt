use Rattle.std.proofs.Common.{◌≡◌, ℕ, Option, Some, refl, sym, ap, subst, ◌∙◌, inr}
use Rattle.mlt_tx_two_records.proofs.Names.{RecChange, LocalState, local, view_of, step_keeps_tx, WalkContext, context_in, HasJustPut, IsGoingToSize}
use Rattle.mlt_tx_two_records.proofs.{RollingBack.rolls_back, WideDeciding.is_possible, WideDeciding.own_change, WideOwn.is_to_split, WideOwn.just_put, WideOwn.no_room, WideOwn.told_present}
use Rattle.mlt_tx_two_records.proofs.wide.act_on_own.Goals as goal

pub decide-reply-requires : goal.decide-reply-requires
decide-reply-requires g c = record { possible = is_possible c.args.request.now c.args.found c.requires.ready.may.adds }

pub returns-in_default : goal.returns-in_default
returns-in_default g c =
    let is = sym c.decide-reply.ensures.told ∙ ap (λ d. (c.decide-reply.result.0, d)) c.in_default.is in
    record { tells = (refl {a = _}, told_present _ _ c.args.request.now c.args.walk.now c.args.found c.requires.ready c.decide-reply.result.0 is) }

pub unreachable-requires : goal.unreachable-requires
unreachable-requires g c =
    let is = sym c.decide-reply.ensures.told ∙ ap (λ (d : Option RecChange). (c.decide-reply.result.0, d)) c.in-Some.is in
    c.in_default-change.not-Add 0 (own_change c.args.request.now c.args.found c.decide-reply.result.0 c.in-Some.change c.requires.ready.may.adds is).1

pub go_over-requires : goal.go_over-requires
go_over-requires g c κs within =
    let new : LocalState = local c.insert.new.subtx c.insert.new.pages in
    let is = sym c.decide-reply.ensures.told ∙ ap (λ (d : Option RecChange). (c.decide-reply.result.0, d)) (c.in-Some.is ∙ ap Some c.in-Add.is) in
    let put = just_put _ _ c.args.request.now c.args.walk.now c.args.found c.requires.ready new c.insert.new.self c.in-Changed.ensures.leaves c.decide-reply.result.0 c.in-Add.value is c.in-Changed.ensures.tells in
    (within, (refl, subst (λ (t : ℕ). HasJustPut (context_in g.P.Pseudo.bits_of c.args.environment.now t) new c.args.request.now c.insert.new.self) (sym (step_keeps_tx _ _ c.in-Changed.ensures.leaves.touches)) put))

pub returns-in-Changed : goal.returns-in-Changed
returns-in-Changed g c =
    let new : LocalState = local c.insert.new.subtx c.insert.new.pages in
    let goes = subst (λ (t : ℕ). IsGoingToSize (context_in g.P.Pseudo.bits_of c.args.environment.now t) c.args.request.now c.go_over.new.walk (view_of new)) (step_keeps_tx _ _ c.in-Changed.ensures.leaves.touches) c.go_over.ensures.goes in
    record { tells = (record { leaves = c.in-Changed.ensures.leaves; writes = inr c.in-Changed.ensures.writes }, goes, c.go_over.ensures.steps) }

pub returns-in-NeedSplit : goal.returns-in-NeedSplit
returns-in-NeedSplit g c =
    let is = sym c.decide-reply.ensures.told ∙ ap (λ (d : Option RecChange). (c.decide-reply.result.0, d)) (c.in-Some.is ∙ ap Some c.in-Add.is) in
    record { tells = is_to_split _ _ c.args.request.now c.args.walk.now c.args.found c.requires.ready _ c.insert.new.self c.in-NeedSplit.ensures.writes c.decide-reply.result.0 c.in-Add.value is c.in-NeedSplit.ensures.tells }

pub returns-in-Refused : goal.returns-in-Refused
returns-in-Refused g c =
    let is = sym c.decide-reply.ensures.told ∙ ap (λ (d : Option RecChange). (c.decide-reply.result.0, d)) (c.in-Some.is ∙ ap Some c.in-Add.is) in
    let back = rolls_back _ _ _ c.in-Refused.ensures.writes c.roll_back.ensures.store c.roll_back.ensures.locks c.roll_back.ensures.images in
    record { tells = no_room _ _ c.args.request.now c.args.walk.now c.args.found c.requires.ready _ c.insert.new.self _ c.in-Refused.ensures.writes c.decide-reply.result.0 c.in-Add.value is c.in-Refused.reason c.in-Refused.ensures.tells back }
