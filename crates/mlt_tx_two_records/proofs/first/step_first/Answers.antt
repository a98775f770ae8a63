use Rattle.std.proofs.Common.{refl}
use Rattle.mlt_tx_two_records.proofs.Names.{LocalState, local, WalkContext, context_in}
use Rattle.mlt_tx_two_records.proofs.FirstSteps.{first_goes, found_tells, may_act}
use Rattle.mlt_tx_two_records.proofs.first.step_first.Goals as goal

pub act_on_both-requires : goal.act_on_both-requires
act_on_both-requires g c κs within =
    (within, (refl, may_act _ _ _ c.args.request.now c.args.pair.now c.advance.new.self c.requires.ready c.in-Found.ensures.leaves c.in-Found.own c.in-Found.size c.in-Found.ensures.tells))

pub returns-in-Going : goal.returns-in-Going
returns-in-Going g c =
    record { tells = first_goes _ _ _ c.args.request.now c.args.pair.now c.advance.new.self c.requires.ready c.in-Going.ensures.leaves c.in-Going.ensures.tells }

pub returns-in-Found : goal.returns-in-Found
returns-in-Found g c =
    record {
      tells = found_tells _ _ _ c.args.request.now c.args.pair.now c.advance.new.self c.requires.ready c.in-Found.ensures.leaves c.in-Found.own c.in-Found.size c.in-Found.ensures.tells
          _ c.act_on_both.new.pair c.act_on_both.result c.act_on_both.ensures.tells;
    }
