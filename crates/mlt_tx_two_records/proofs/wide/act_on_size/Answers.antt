use Rattle.std.proofs.Common.{◌≡◌, None, Option, Some, sym, ap, ◌∙◌}
use Rattle.mlt_tx_two_records.proofs.Names.{ObjReply, RecChange, decision, size_decision, LocalState, local, WalkContext, context_in}
use Rattle.mlt_tx_two_records.proofs.RollingBack.{rolls_back}
use Rattle.mlt_tx_two_records.proofs.WideSize.{may_raise, raised, raises_it, refused_there, splits_for_it}
use Rattle.mlt_tx_two_records.proofs.wide.act_on_size.Goals as goal

pub raise_size-requires : goal.raise_size-requires
raise_size-requires g c κs within =
    let told_is : (decision c.args.request.now None).0 ≡ c.decide-reply.result.0 = ap (λ (d : ObjReply × Option RecChange). d.0) (sym c.decide-reply.ensures.told) in
    let is : size_decision c.args.request.now c.decide-reply.result.0 c.args.found ≡ Some c.in-Some.raise = sym c.resize.ensures.change ∙ c.in-Some.is in (
      within,
      (
        may_raise _ _ c.args.request.now c.args.walk.now c.args.found g.since c.requires.1 c.decide-reply.result.0 told_is,
        (
          c.requires.1.may.to_key.wide,
          (
            c.requires.1.at_bucket,
            raises_it _ _ c.args.request.now c.args.walk.now c.args.found g.since c.requires.1 c.decide-reply.result.0 told_is c.in-Some.raise is,
          ),
        ),
      ),
    )

pub returns-in-Changed : goal.returns-in-Changed
returns-in-Changed g c =
    let told_is : (decision c.args.request.now None).0 ≡ c.decide-reply.result.0 = ap (λ (d : ObjReply × Option RecChange). d.0) (sym c.decide-reply.ensures.told) in
    let is : size_decision c.args.request.now c.decide-reply.result.0 c.args.found ≡ Some c.in-Some.raise = sym c.resize.ensures.change ∙ c.in-Some.is in
    record { tells = raised _ _ c.args.request.now c.args.walk.now c.args.found g.since c.requires.1 c.decide-reply.result.0 told_is c.in-Some.raise is _ c.raise_size.new.walk c.in-Changed.ensures.leaves c.in-Changed.ensures.tells c.in-Changed.ensures.writes }

pub returns-in-NeedSplit : goal.returns-in-NeedSplit
returns-in-NeedSplit g c =
    let told_is : (decision c.args.request.now None).0 ≡ c.decide-reply.result.0 = ap (λ (d : ObjReply × Option RecChange). d.0) (sym c.decide-reply.ensures.told) in
    let is : size_decision c.args.request.now c.decide-reply.result.0 c.args.found ≡ Some c.in-Some.raise = sym c.resize.ensures.change ∙ c.in-Some.is in
    record { tells = splits_for_it _ _ c.args.request.now c.args.walk.now c.args.found g.since c.requires.1 c.decide-reply.result.0 told_is c.in-Some.raise is _ c.raise_size.new.walk c.in-NeedSplit.ensures.writes c.in-NeedSplit.ensures.tells }

pub returns-in-Refused : goal.returns-in-Refused
returns-in-Refused g c =
    let told_is : (decision c.args.request.now None).0 ≡ c.decide-reply.result.0 = ap (λ (d : ObjReply × Option RecChange). d.0) (sym c.decide-reply.ensures.told) in
    let is : size_decision c.args.request.now c.decide-reply.result.0 c.args.found ≡ Some c.in-Some.raise = sym c.resize.ensures.change ∙ c.in-Some.is in
    let back = rolls_back _ _ _ c.in-Refused.ensures.writes c.roll_back.ensures.store c.roll_back.ensures.locks c.roll_back.ensures.images in
    record { tells = refused_there _ _ c.args.request.now c.args.walk.now c.args.found g.since c.requires.1 c.decide-reply.result.0 told_is c.in-Some.raise is _ _ c.raise_size.new.walk c.raise_size.new.walk c.in-Refused.reason c.in-Refused.ensures.writes c.in-Refused.ensures.tells back }
