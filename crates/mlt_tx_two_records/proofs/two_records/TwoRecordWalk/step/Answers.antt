use Rattle.std.proofs.Common.{◌≡◌, refl, sym, ap, subst, ◌∙◌}
use Rattle.mlt_tx_two_records.proofs.Names.{LocalState, local, view_of, WalkContext, context_in, TwoRecordWalk, Owing, Wide, WideStage, TellsOfTwoRecords, OwesOne}
use Rattle.mlt_tx_two_records.{specs.Answers.TellsLast, specs.TwoRecordWalks.Stands, proofs.FirstSteps.owing_tells}
use Rattle.mlt_tx_two_records.proofs.two_records.TwoRecordWalk.step.Goals as goal

pub write_earlier-requires-clause-ready : goal.write_earlier-requires-clause-ready
write_earlier-requires-clause-ready g c =
    let context : WalkContext = context_in g.P.Pseudo.bits_of c.args.environment.now c.args.subtx.now.tx in
    let old : LocalState = local c.args.subtx.now c.args.pages.now in
    let owes : OwesOne context c.args.request.now c.in-Owing.pair c.in-Owing.reply (view_of old) = subst (λ (d : TwoRecordWalk). Stands d context c.args.request.now (view_of old)) c.in-Owing.is c.requires.ready.stands in
    (context.bits, context.root, context.active, owes.changed)

pub returns-in-Owing : goal.returns-in-Owing
returns-in-Owing g c =
    let context : WalkContext = context_in g.P.Pseudo.bits_of c.args.environment.now c.args.subtx.now.tx in
    let old : LocalState = local c.args.subtx.now c.args.pages.now in
    let owes : OwesOne context c.args.request.now c.in-Owing.pair c.in-Owing.reply (view_of old) = subst (λ (d : TwoRecordWalk). Stands d context c.args.request.now (view_of old)) c.in-Owing.is c.requires.ready.stands in
    let tells = owing_tells context old _ c.args.request.now c.in-Owing.pair c.write_earlier.new.self c.in-Owing.reply owes c.write_earlier.ensures.leaves c.write_earlier.ensures.writes c.write_earlier.ensures.holding c.write_earlier.ensures.pair in
    record { tells = (tells.0, subst (λ (d : TwoRecordWalk). TellsLast d (Owing c.write_earlier.new.self c.in-Owing.reply)) (sym c.in-Owing.is) refl, tells.1) }

pub returns-in-Own : goal.returns-in-Own
returns-in-Own g c =
    let context : WalkContext = context_in g.P.Pseudo.bits_of c.args.environment.now c.args.subtx.now.tx in
    let old : LocalState = local c.args.subtx.now c.args.pages.now in
    let new : LocalState = local c.step_own-next.new.subtx c.step_own-next.new.pages in
    let after : TwoRecordWalk = Wide c.step_own-next.result.0 c.step_own-next.new.walk in
    let is : Wide WideStage.Own c.in-Wide.walk ≡ c.args.self.now = ap (λ (l : WideStage). Wide l c.in-Wide.walk) (sym c.in-Own.is) ∙ sym c.in-Wide.is in
    record { tells = subst (λ (before : TwoRecordWalk). TellsOfTwoRecords context old new before after c.args.request.now c.step_own-next.result.1) is c.step_own-next.ensures.tells }
