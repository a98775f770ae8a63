use Rattle.std.proofs.Common.{◌≡◌, Option, Some, refl, sym, ap, subst, ◌∙◌, inl, inr}
use Rattle.mlt_tx_operation.proofs.Names.{false≢true, RecChange, CanChange, decision, LocalState, local, IsRolledBack, WalkContext, WalkFields, context_in, WalkAnswer, rolls_back, StepAnswer, TellsAtBucket, WalkingFields, walking, TellsOfDecision}
use Rattle.mlt_tx_operation.proofs.AtBucket.{decided_change, absent_to_add, asks_to_add, begins_again, change_finishes, first_restarts, ghost_is_there, splits_in_pass, may_change, narrow_restarts, refused_at_bucket, told_finishes}
use Rattle.mlt_tx_operation.proofs.walking.act_on.Goals.{in-NeedSplit+else-not-is_first, in-Widen-1}
use Rattle.mlt_tx_operation.proofs.walking.act_on.Goals as goal

pub returns-in_default : goal.returns-in_default
returns-in_default g c =
    let context : WalkContext = context_in g.P.Pseudo.bits_of c.args.environment.now c.args.subtx.now.tx in
    let none = decided_change c.args.request.now c.args.found c.decide-told.result _ c.decide-told.ensures.told c.in_default.is in
    record { tells = inl (told_finishes context _ _ _ c.args.found c.decide-told.result.0 c.requires.ready none refl) }

pub perform-requires-clause-ready : goal.perform-requires-clause-ready
perform-requires-clause-ready g c =
    let context : WalkContext = context_in g.P.Pseudo.bits_of c.args.environment.now c.args.subtx.now.tx in
    let some = decided_change c.args.request.now c.args.found c.decide-told.result _ c.decide-told.ensures.told c.in-Some.is in
    may_change context _ _ c.args.found c.decide-told.result.0 c.in-Some.change c.requires.ready some

pub perform-requires-clause-ghost_found : goal.perform-requires-clause-ghost_found
perform-requires-clause-ghost_found g c revives =
    let context : WalkContext = context_in g.P.Pseudo.bits_of c.args.environment.now c.args.subtx.now.tx in
    let some = decided_change c.args.request.now c.args.found c.decide-told.result _ c.decide-told.ensures.told c.in-Some.is in
    ghost_is_there context _ _ c.args.found c.decide-told.result.0 c.in-Some.change c.requires.ready some revives

pub returns-in-Changed : goal.returns-in-Changed
returns-in-Changed g c =
    let context : WalkContext = context_in g.P.Pseudo.bits_of c.args.environment.now c.args.subtx.now.tx in
    let some = decided_change c.args.request.now c.args.found c.decide-told.result _ c.decide-told.ensures.told c.in-Some.is in
    record { tells = inl (change_finishes context _ _ _ _ c.args.found c.decide-told.result.0 c.in-Some.change c.requires.ready some c.in-Changed.ensures.leaves c.in-Changed.ensures.writes c.in-Changed.ensures.tells refl refl) }

pub returns-in-NeedSplit : goal.returns-in-NeedSplit
returns-in-NeedSplit g c =
    let context : WalkContext = context_in g.P.Pseudo.bits_of c.args.environment.now c.args.subtx.now.tx in
    let some = decided_change c.args.request.now c.args.found c.decide-told.result _ c.decide-told.ensures.told c.in-Some.is in
    let can : CanChange (Some c.in-Some.change) c.args.found = subst (λ (d : Option RecChange). CanChange d c.args.found) c.in-Some.is c.decide-told.ensures.fits in
    record { tells = inr (inl (splits_in_pass context _ _ _ _ c.in-Some.change c.args.found c.decide-told.result.0 c.requires.ready some can c.in-NeedSplit.ensures.writes c.in-NeedSplit.ensures.tells (λ first. false≢true (sym c.if-not-is_first.true ∙ c.is_first.ensures.1 first)) refl refl)) }

pub returns-in-Refused : goal.returns-in-Refused
returns-in-Refused g c =
    let context : WalkContext = context_in g.P.Pseudo.bits_of c.args.environment.now c.args.subtx.now.tx in
    let before : WalkingFields = walking c.args.request.now c.args.reply.now c.args.walk.now in
    let some = decided_change c.args.request.now c.args.found c.decide-told.result _ c.decide-told.ensures.told c.in-Some.is in
    let can : CanChange (Some c.in-Some.change) c.args.found = subst (λ (d : Option RecChange). CanChange d c.args.found) c.in-Some.is c.decide-told.ensures.fits in
    let back = rolls_back _ _ _ c.in-Refused.ensures.writes c.roll_back.ensures.store c.roll_back.ensures.locks c.roll_back.ensures.images in
    let refuses : TellsAtBucket context _ _ before before (StepAnswer.Refused c.in-Refused.reason) =
    refused_at_bucket context _ _ _ before before c.in-Some.change c.args.found c.decide-told.result.0 c.perform.new.walk c.in-Refused.reason c.requires.ready some can c.in-Refused.ensures.writes c.in-Refused.ensures.tells back in
    record { tells = refuses }

pub returns-in-NeedSplit-2 : goal.returns-in-NeedSplit-2
returns-in-NeedSplit-2 g c =
    let context : WalkContext = context_in g.P.Pseudo.bits_of c.args.environment.now c.args.subtx.now.tx in
    let m : LocalState = local c.args.subtx.now c.args.pages.now in
    let before : WalkingFields = walking c.args.request.now c.args.reply.now c.args.walk.now in
    let some = decided_change c.args.request.now c.args.found c.decide-told.result _ c.decide-told.ensures.told c.in-Some.is in
    let can : CanChange (Some c.in-Some.change) c.args.found = subst (λ (d : Option RecChange). CanChange d c.args.found) c.in-Some.is c.decide-told.ensures.fits in
    let old : LocalState = local c.perform.new.subtx c.perform.new.pages in
    let new : LocalState = local c.roll_back-in-NeedSplit-2.new.self (record { store = c.roll_back-in-NeedSplit-2.new.store; locks = c.roll_back-in-NeedSplit-2.new.locks }) in
    let full : WalkFields = c.perform.new.walk in
    let rolled : (stays : old ≡ m) → IsRolledBack m new = λ stays. rolls_back m old new stays c.roll_back-in-NeedSplit-2.ensures.store c.roll_back-in-NeedSplit-2.ensures.locks c.roll_back-in-NeedSplit-2.ensures.images in
    elim c.in-NeedSplit-2-1.branch [
      | in-NeedSplit+else-not-is_first w ↦
          let tells : TellsOfDecision context old before.walk full c.in-Some.change c.args.found WalkAnswer.NeedSplit = w.in-NeedSplit.ensures.tells in
          let stays : old ≡ m = w.in-NeedSplit.ensures.writes in
          let first = w.is_first.ensures.0 w.if-not-is_first.false in
          let restarts = first_restarts context m before.walk full c.in-Some.change (subst (λ (n : LocalState). TellsOfDecision context n before.walk full c.in-Some.change c.args.found WalkAnswer.NeedSplit) stays tells) first in
          record { tells = inr (inr (begins_again context m new before _ c.args.found full c.requires.ready (absent_to_add context m before c.args.found c.in-Some.change _ c.requires.ready can tells) (asks_to_add before.request c.args.found c.decide-told.result.0 c.in-Some.change _ some can tells) (rolled stays) restarts.0 restarts.1 c.again.ensures refl refl)) }
      | in-Widen-1 w ↦
          let tells : TellsOfDecision context old before.walk full c.in-Some.change c.args.found WalkAnswer.Widen = w.enum_told-in-NeedSplit-2-1.ensures.tells in
          let stays : old ≡ m = w.enum_told-in-NeedSplit-2-1.ensures.writes in
          let restarts = narrow_restarts context m before.walk full c.in-Some.change (subst (λ (n : LocalState). TellsOfDecision context n before.walk full c.in-Some.change c.args.found WalkAnswer.Widen) stays tells) in
          record { tells = inr (inr (begins_again context m new before _ c.args.found full c.requires.ready (absent_to_add context m before c.args.found c.in-Some.change _ c.requires.ready can tells) (asks_to_add before.request c.args.found c.decide-told.result.0 c.in-Some.change _ some can tells) (rolled stays) restarts.0 restarts.1 c.again.ensures refl refl)) }
    ]
