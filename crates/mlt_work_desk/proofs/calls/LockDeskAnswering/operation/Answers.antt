use Rattle.std.proofs.Common.{rules, ◌≡◌, ◌∙◌, ◌∷◌, [], All, ap, false, refl, subst}
use Rattle.std.proofs.lemmas.List.Elements.{All-nil}
use Rattle.mlt_work_desk.specs.{Acts.IsStepOf, Holds.MayAnswerOperation, LogHandles.begun_by, LogHandles.seen_by, Tries.tries_called, Views.desk_view}
use Rattle.mlt_script_serial.specs.Calls.{answer_by}
use Rattle.mlt_work_desk.proofs.Names.{Replied, DeskCall, Event, StartsWith, first_items, SeesAnswer}
use Rattle.mlt_work_desk.proofs.{Seeing.sees_later, Seeing.sees_more, Seeing.sees_refused, Trying.made_from, Trying.made_more, Trying.spends_before, Trying.spends_behind}
use Rattle.mlt_work_waits.specs.Gates.{is_to_wait}
use Rattle.mlt_work_desk.proofs.calls.LockDeskAnswering.operation.Goals as goal

pub returns-in-Called : goal.returns-in-Called
returns-in-Called g c =
    let bits_of = g.P.Pseudo.bits_of in
    let before = first_items c.args.self.now.snapshot in
    let asking = first_items c.wait_for_turn.new.self.snapshot in
    let asked = first_items c.hold-told.new.self.snapshot in
    let after = first_items c.steps.new.self.snapshot in
    let given = answer_by Replied c.steps.result in
    let from = desk_view c.wait_for_turn.new.self.snapshot c.wait_for_turn.new.self.tries c.wait_for_turn.new.self.share.amount in
    let first = desk_view c.args.self.now.snapshot c.args.self.now.tries c.args.self.now.share.amount in
    let mid = desk_view c.hold-told.new.self.snapshot c.hold-told.new.self.tries c.hold-told.new.self.share.amount in
    let last = desk_view c.steps.new.self.snapshot c.steps.new.self.tries c.steps.new.self.share.amount in
    let call = Event.Call c.args.tx c.args.op in
    let seen : c.wait_for_turn.new.self.snapshot ≡ c.args.self.now.snapshot = search rules in
    let tried : c.wait_for_turn.new.self.tries ≡ tries_called c.args.self.now.tries = search rules in
    let counted : c.wait_for_turn.new.self.share.amount ≡ c.args.self.now.share.amount = search rules in
    let not : is_to_wait c.hold-told.result.0 ≡ false = search rules in
    let is_tx : c.hold-told.new.self.thread.tx ≡ c.args.tx = search rules in
    let is_op : c.hold-told.new.self.thread.op ≡ c.args.op = search rules in
    let held = c.hold-told.ensures in
    let steps = c.steps.ensures in
    let own = steps.made.own in
    let more = subst (StartsWith asked) (ap first_items seen) (sees_more asking _ _ asked held.sees) in
    let of_op = subst (λ o. MayAnswerOperation bits_of c.hold-told.new.self.thread.tx o given last) is_op steps.told in
    let sees_op = subst (λ o. SeesAnswer asked (DeskCall.Operation c.hold-told.new.self.thread.tx o) given after) is_op steps.sees in
    record {
      own = (call, c.hold-told.result.0) ∷ own;
      made = made_more first mid last ((call, c.hold-told.result.0) ∷ []) own (made_from first from mid _ (ap seen_by seen) counted held.made) steps.made.made;
      events = (c.hold-told.result.0, own, refl, subst (λ x. All (IsStepOf x) own) is_tx steps.made.each);
      may = subst (λ x. MayAnswerOperation bits_of x c.args.op given last) is_tx of_op;
      sees = sees_later before asked (DeskCall.Operation c.args.tx c.args.op) given after more (subst (λ x. SeesAnswer asked (DeskCall.Operation x c.args.op) given after) is_tx sees_op);
      begins = steps.begun ∙ held.begun ∙ ap begun_by seen;
      spends = spends_behind _ _ _ call c.hold-told.result.0 own not (held.tries ∙ tried) steps.made.spends;
    }

pub returns-in-Refused : goal.returns-in-Refused
returns-in-Refused g c =
    let first = desk_view c.args.self.now.snapshot c.args.self.now.tries c.args.self.now.share.amount in
    let from = desk_view c.wait_for_turn.new.self.snapshot c.wait_for_turn.new.self.tries c.wait_for_turn.new.self.share.amount in
    let mid = desk_view c.hold-told.new.self.snapshot c.hold-told.new.self.tries c.hold-told.new.self.share.amount in
    let call = Event.Call c.args.tx c.args.op in
    let seen : c.wait_for_turn.new.self.snapshot ≡ c.args.self.now.snapshot = search rules in
    let tried : c.wait_for_turn.new.self.tries ≡ tries_called c.args.self.now.tries = search rules in
    let counted : c.wait_for_turn.new.self.share.amount ≡ c.args.self.now.share.amount = search rules in
    let not : is_to_wait c.hold-told.result.0 ≡ false = search rules in
    let asking = first_items c.wait_for_turn.new.self.snapshot in
    let held = c.hold-told.ensures in
    record {
      own = (call, c.hold-told.result.0) ∷ [];
      made = made_from first from mid _ (ap seen_by seen) counted held.made;
      events = (c.hold-told.result.0, [], refl, All-nil (IsStepOf c.args.tx));
      may = search rules;
      sees = sees_refused _ _ _ _ (subst (StartsWith (first_items c.hold-told.new.self.snapshot)) (ap first_items seen) (sees_more asking _ _ _ held.sees));
      begins = held.begun ∙ ap begun_by seen;
      spends = spends_before _ _ call c.hold-told.result.0 not (held.tries ∙ tried);
    }
