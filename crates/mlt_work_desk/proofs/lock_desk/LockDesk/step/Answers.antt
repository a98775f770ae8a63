use Rattle.std.proofs.Common.{rules, ◌≡◌, inl, inr, false, refl, subst, true}
use Rattle.mlt_types.specs.declared.refusal.Refusal.TheVariants.{GaveUp}
use Rattle.mlt_work_desk.proofs.Names.{Answer, Event, Told, DeskCall, first_items, EndsWithOp, IfReply, IsToldTo, SeesEvent, SleepingThread}
use Rattle.mlt_work_desk.{specs.Tries.GivesUp, specs.Tries.StepsWithoutWait, specs.Views.desk_view, proofs.Seeing.more_than, proofs.Seeing.sees_more, proofs.Seeing.sees_refused, proofs.Seeing.sees_replied, proofs.Trying.spends_none, proofs.Trying.spends_one}
use Rattle.mlt_work_waits.specs.Gates.{is_to_wait}
use Rattle.mlt_work_desk.proofs.lock_desk.LockDesk.step.Goals as goal

pub returns-in-Answered-Done-clause-sees : goal.returns-in-Answered-Done-clause-sees
returns-in-Answered-Done-clause-sees g c =
    let before = first_items c.args.self.now.snapshot in
    let after = first_items c.hold-told.new.self.snapshot in
    let tx = c.args.self.now.thread.tx in
    let reply = c.in-Answered-Done.reply in
    let held = c.hold-told.ensures in
    let is_reply : c.hold-told.new.self.is_reply ≡ true = c.if-self.true in
    let was_told : c.hold-told.result.0 ≡ Told.Answered (Answer.Done reply) = search rules in
    sees_replied before tx c.args.self.now.thread.op reply after (held.reply is_reply)
    (subst (λ said. SeesEvent before (Event.Step tx) said after) was_told held.sees)

pub returns-in-Answered-Done-2-clause-told : goal.returns-in-Answered-Done-2-clause-told
returns-in-Answered-Done-2-clause-told g c =
    let step = Event.Step c.args.self.now.thread.tx in
    let done = Told.Answered (Answer.Done c.in-Answered-Done.reply) in
    let held = c.hold-told.ensures in
    let is_other : c.hold-told.new.self.is_reply ≡ false = c.if-self.false in
    let was_told : c.hold-told.result.0 ≡ done = search rules in
    let ends = EndsWithOp (first_items c.hold-told.new.self.snapshot) c.args.self.now.thread.op in (
      tt,
      inr (inr (inl (
        refl,
        record {
          told = done;
          before = first_items c.args.self.now.snapshot;
          comes = subst (λ said. IfReply step said (ends → ⊥)) was_told (held.another is_other);
          stepped = subst (λ said. IsToldTo g.P.Pseudo.bits_of step said) was_told held.told;
          sees = subst (λ said. SeesEvent (first_items c.args.self.now.snapshot) step said (first_items c.hold-told.new.self.snapshot)) was_told held.sees;
        },
      ))),
    )

pub returns-then-gives_up-clause-told : goal.returns-then-gives_up-clause-told
returns-then-gives_up-clause-told g c =
    let held = c.hold-told.ensures in
    let gave : c.gives_up.result ≡ true = c.if-gives_up.true in
    let cancel = c.gives_up.ensures.cancels gave in
    let waits : is_to_wait c.hold-told.result.0 ≡ true = search rules in (
      tt,
      inr (inr (inr (
        refl,
        record {
          told = c.hold-told.result.0;
          cancelled = cancel.0;
          to_wait = waits;
          stepped = held.told;
          cancels = subst (λ (s : SleepingThread). IsToldTo g.P.Pseudo.bits_of (Event.Cancel s.tx) cancel.0) held.thread cancel.1;
          reason = subst (λ (s : SleepingThread). GivesUp s.tx c.gives_up.new.self.tries) held.thread (c.gives_up.ensures.reason gave);
        },
      ))),
    )

pub returns-then-gives_up-clause-more : goal.returns-then-gives_up-clause-more
returns-then-gives_up-clause-more g c =
    let before = first_items c.args.self.now.snapshot in
    let mid = first_items c.hold-told.new.self.snapshot in
    more_than before mid (first_items c.gives_up.new.self.snapshot) c.gives_up.ensures.more (sees_more before _ _ mid c.hold-told.ensures.sees)

pub returns-then-gives_up-clause-sees : goal.returns-then-gives_up-clause-sees
returns-then-gives_up-clause-sees g c =
    let before = first_items c.args.self.now.snapshot in
    let mid = first_items c.hold-told.new.self.snapshot in
    let after = first_items c.gives_up.new.self.snapshot in
    let thread = c.args.self.now.thread in
    sees_refused before (DeskCall.Operation thread.tx thread.op) GaveUp after
    (more_than before mid after c.gives_up.ensures.more (sees_more before _ _ mid c.hold-told.ensures.sees))

pub returns-in-Answered-Going-clause-more : goal.returns-in-Answered-Going-clause-more
returns-in-Answered-Going-clause-more g c = sees_more _ _ _ _ c.hold-told.ensures.sees

pub returns-in-Answered-Going-clause-made : goal.returns-in-Answered-Going-clause-made
returns-in-Answered-Going-clause-made g c =
    let not : is_to_wait c.hold-told.result.0 ≡ false = search rules in
    spends_none _ _ _ _ _ c.is_patient-self.result refl refl not c.hold-told.ensures.made c.hold-told.ensures.tries

pub returns-in-Answered-Done-clause-more : goal.returns-in-Answered-Done-clause-more
returns-in-Answered-Done-clause-more g c = sees_more _ _ _ _ c.hold-told.ensures.sees

pub returns-in-Answered-Done-clause-made : goal.returns-in-Answered-Done-clause-made
returns-in-Answered-Done-clause-made g c =
    let not : is_to_wait c.hold-told.result.0 ≡ false = search rules in
    spends_none _ _ _ _ _ c.is_patient-self.result refl refl not c.hold-told.ensures.made c.hold-told.ensures.tries

pub returns-in-Answered-Refused-clause-more : goal.returns-in-Answered-Refused-clause-more
returns-in-Answered-Refused-clause-more g c = sees_more _ _ _ _ c.hold-told.ensures.sees

pub returns-in-Answered-Refused-clause-made : goal.returns-in-Answered-Refused-clause-made
returns-in-Answered-Refused-clause-made g c =
    let not : is_to_wait c.hold-told.result.0 ≡ false = search rules in
    spends_none _ _ _ _ _ c.is_patient-self.result refl refl not c.hold-told.ensures.made c.hold-told.ensures.tries

pub returns-in-Answered-Done-2-clause-more : goal.returns-in-Answered-Done-2-clause-more
returns-in-Answered-Done-2-clause-more g c = sees_more _ _ _ _ c.hold-told.ensures.sees

pub returns-in-Answered-Done-2-clause-made : goal.returns-in-Answered-Done-2-clause-made
returns-in-Answered-Done-2-clause-made g c =
    let not : is_to_wait c.hold-told.result.0 ≡ false = search rules in
    spends_none _ _ _ _ _ c.is_patient-self.result refl refl not c.hold-told.ensures.made c.hold-told.ensures.tries

pub returns-in-Answered-Done-2-2-clause-more : goal.returns-in-Answered-Done-2-2-clause-more
returns-in-Answered-Done-2-2-clause-more g c = sees_more _ _ _ _ c.hold-told.ensures.sees

pub returns-in-Answered-Done-2-2-clause-made : goal.returns-in-Answered-Done-2-2-clause-made
returns-in-Answered-Done-2-2-clause-made g c =
    let not : is_to_wait c.hold-told.result.0 ≡ false = search rules in
    spends_none _ _ _ _ _ c.is_patient-self.result refl refl not c.hold-told.ensures.made c.hold-told.ensures.tries

pub returns-in-Answered-Done-2-3-clause-more : goal.returns-in-Answered-Done-2-3-clause-more
returns-in-Answered-Done-2-3-clause-more g c = sees_more _ _ _ _ c.hold-told.ensures.sees

pub returns-in-Answered-Done-2-3-clause-made : goal.returns-in-Answered-Done-2-3-clause-made
returns-in-Answered-Done-2-3-clause-made g c =
    let not : is_to_wait c.hold-told.result.0 ≡ false = search rules in
    spends_none _ _ _ _ _ c.is_patient-self.result refl refl not c.hold-told.ensures.made c.hold-told.ensures.tries

pub returns-then-gives_up-clause-made : goal.returns-then-gives_up-clause-made
returns-then-gives_up-clause-made g c =
    let waits : is_to_wait c.hold-told.result.0 ≡ true = search rules in
    let held = desk_view c.hold-told.new.self.snapshot c.hold-told.new.self.tries c.hold-told.new.self.share.amount in
    let last = desk_view c.gives_up.new.self.snapshot c.gives_up.new.self.tries c.gives_up.new.self.share.amount in
    spends_one c.args.self.now.thread.tx _ _ _ _ _ c.is_patient-self.result refl refl waits c.hold-told.ensures.made c.hold-told.ensures.tries (subst (λ (s : SleepingThread). StepsWithoutWait s.tx held last) c.hold-told.ensures.thread c.gives_up.ensures.made) c.gives_up.ensures.spent

pub returns-else-gives_up-clause-more : goal.returns-else-gives_up-clause-more
returns-else-gives_up-clause-more g c = more_than _ (first_items c.hold-told.new.self.snapshot) _ c.gives_up.ensures.more (sees_more _ _ _ _ c.hold-told.ensures.sees)

pub returns-else-gives_up-clause-made : goal.returns-else-gives_up-clause-made
returns-else-gives_up-clause-made g c =
    let waits : is_to_wait c.hold-told.result.0 ≡ true = search rules in
    let held = desk_view c.hold-told.new.self.snapshot c.hold-told.new.self.tries c.hold-told.new.self.share.amount in
    let last = desk_view c.gives_up.new.self.snapshot c.gives_up.new.self.tries c.gives_up.new.self.share.amount in
    spends_one c.args.self.now.thread.tx _ _ _ _ _ c.is_patient-self.result refl refl waits c.hold-told.ensures.made c.hold-told.ensures.tries (subst (λ (s : SleepingThread). StepsWithoutWait s.tx held last) c.hold-told.ensures.thread c.gives_up.ensures.made) c.gives_up.ensures.spent
