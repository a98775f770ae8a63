use Rattle.std.proofs.Common.{rules, ◌≡◌, ◌∙◌, ap, subst, sym}
use Rattle.mlt_serve.proofs.Names.{StartsWith, first_items, AreOfClients, GrowsFor, TellsOutcomes}
use Rattle.mlt_work_desk.specs.{LogHandles.begun_by, LogHandles.seen_by, Tries.tries_of, Views.DeskView, Views.desk_view, declared.tries.Tries.TheVariants.PerOperation, declared.tries.TriesLeft.TriesLeft}
use Rattle.mlt_serve_session.specs.Sessions.{SessionAnswers}
use Rattle.mlt_serve.specs.{Desks.AnswersOrHolds, Desks.scene_at, Loads.ends, Tellings.txs_of}
use Rattle.mlt_serve.proofs.{Numbering.grown, Receiving.begins_on, Receiving.given_on, Receiving.grows, Receiving.hears, Receiving.sees_on, Telling.grown_told, Viewing.session_of}
use Rattle.mlt_serve.proofs.session_thread.SessionThread.serve.Goals as goal

pub returns-clause-session : goal.returns-clause-session
returns-clause-session g c =
    let bits_of = g.P.Pseudo.bits_of in
    let last = c.session-ended.new.desk.desk in
    let is : c.close-mine.result.2 ≡ last.snapshot = search rules in
    let seen : seen_by c.keep_timestamp.new.self.snapshot ≡ seen_by c.args.self.now.snapshot = search rules in
    let begun : begun_by c.keep_timestamp.new.self.snapshot ≡ begun_by c.args.self.now.snapshot = search rules in
    let tried : c.keep_timestamp.new.self.tries ≡ tries_of (PerOperation c.args.service.now.options.now.tries) = search rules in
    let counted : c.keep_timestamp.new.self.share.amount ≡ 0 = search rules in
    record {
      desk = desk_view last.snapshot last.tries last.share.amount;
      past = ap seen_by (sym is);
      begun = ap begun_by (sym is);
      answers = subst (λ (v : DeskView). SessionAnswers (AnswersOrHolds bits_of) c.args.client
          (scene_at v (ends (g.I.Read.remaining c.args.reader.now) (g.O.Write.contents c.args.writer.now)) (g.K.Receipts.receipts c.args.self.now.outcomes))
          (scene_at (desk_view last.snapshot last.tries last.share.amount) (ends (g.I.Read.remaining c.session-ended.new.reader) (g.O.Write.contents c.session-ended.new.writer)) (g.K.Receipts.receipts c.session-ended.new.outcomes))
          c.session-ended.result)
          (λ i. record { past = seen i; begun = begun i; tries = tried i; events = counted i })
          (session_of (λ d. desk_view d.desk.snapshot d.desk.tries d.desk.share.amount) _ (AnswersOrHolds bits_of) (λ old call answer new moved. moved) c.args.client _ _ c.session-ended.result c.session-ended.ensures.answers);
    }

pub returns-clause-outcomes : goal.returns-clause-outcomes
returns-clause-outcomes g c =
    let ended = c.session-ended.ensures in
    let last = first_items c.session-ended.new.desk.desk.snapshot in
    let is : first_items c.close-mine.result.2 ≡ last = search rules in
    subst (λ items. GrowsFor items c.args.client (g.K.Receipts.receipts c.args.self.now.outcomes) (g.K.Receipts.receipts c.session-ended.new.outcomes)) (sym is)
    (grows g.P.Pseudo.bits_of (λ d. desk_view d.desk.snapshot d.desk.tries d.desk.share.amount) _ (λ old call answer new moved. moved) c.args.client _ _ c.session-ended.result ended.answers ended.refusal)

pub returns-clause-heard : goal.returns-clause-heard
returns-clause-heard g c = hears g.P.Pseudo.bits_of (λ d. desk_view d.desk.snapshot d.desk.tries d.desk.share.amount) _ (λ old call answer new moved. moved) c.args.client _ _ c.session-ended.result c.session-ended.ensures.answers

pub returns-clause-sees : goal.returns-clause-sees
returns-clause-sees g c =
    let ended = c.session-ended.ensures in
    let last = first_items c.session-ended.new.desk.desk.snapshot in
    let began : first_items c.keep_timestamp.new.self.snapshot ≡ first_items c.args.self.now.snapshot = search rules in
    let is : first_items c.close-mine.result.2 ≡ last = search rules in
    let sees = sees_on g.P.Pseudo.bits_of (λ d. desk_view d.desk.snapshot d.desk.tries d.desk.share.amount) _ (λ old call answer new moved. moved) c.args.client _ _ c.session-ended.result ended.answers ended.refusal in
    subst (λ items. StartsWith items (first_items c.args.self.now.snapshot)) (sym is) (subst (StartsWith last) began sees)

pub invariant_of-self-clause-of_clients : goal.invariant_of-self-clause-of_clients
invariant_of-self-clause-of_clients g c =
    let old = g.K.Receipts.receipts c.args.self.now.outcomes in
    let new = g.K.Receipts.receipts c.session-ended.new.outcomes in
    let ended = c.session-ended.ensures in
    let outcomes = grows g.P.Pseudo.bits_of (λ d. desk_view d.desk.snapshot d.desk.tries d.desk.share.amount) _ (λ old call answer new moved. moved) c.args.client _ _ c.session-ended.result ended.answers ended.refusal in
    subst (λ n. AreOfClients n new) (sym c.max.ensures) (grown (first_items c.session-ended.new.desk.desk.snapshot) c.args.client c.args.self.now.last old new c.requires c.args.self.now.of_clients outcomes)

pub invariant_of-self-clause-told : goal.invariant_of-self-clause-told
invariant_of-self-clause-told g c =
    let old = g.K.Receipts.receipts c.args.self.now.outcomes in
    let new = g.K.Receipts.receipts c.session-ended.new.outcomes in
    let first = first_items c.args.self.now.snapshot in
    let last = first_items c.session-ended.new.desk.desk.snapshot in
    let began : first_items c.keep_timestamp.new.self.snapshot ≡ first = search rules in
    let is : first_items c.close-mine.result.2 ≡ last = search rules in
    let ended = c.session-ended.ensures in
    let outcomes = grows g.P.Pseudo.bits_of (λ d. desk_view d.desk.snapshot d.desk.tries d.desk.share.amount) _ (λ old call answer new moved. moved) c.args.client _ _ c.session-ended.result ended.answers ended.refusal in
    let sees = sees_on g.P.Pseudo.bits_of (λ d. desk_view d.desk.snapshot d.desk.tries d.desk.share.amount) _ (λ old call answer new moved. moved) c.args.client _ _ c.session-ended.result ended.answers ended.refusal in
    subst (λ items. TellsOutcomes items new) (sym is)
    (grown_told last first c.args.client old new (subst (StartsWith last) began sees) c.args.self.now.told outcomes)

pub invariant_of-self-clause-begun : goal.invariant_of-self-clause-begun
invariant_of-self-clause-begun g c =
    let ended = c.session-ended.ensures in
    let began : begun_by c.keep_timestamp.new.self.snapshot ≡ txs_of (g.K.Receipts.receipts c.args.self.now.outcomes) = search rules in
    let is : begun_by c.close-mine.result.2 ≡ begun_by c.session-ended.new.desk.desk.snapshot = search rules in
    is ∙ begins_on g.P.Pseudo.bits_of (λ d. desk_view d.desk.snapshot d.desk.tries d.desk.share.amount) _ (λ old call answer new moved. moved) c.args.client _ _ c.session-ended.result ended.answers ended.refusal began

pub invariant_of-self-clause-given : goal.invariant_of-self-clause-given
invariant_of-self-clause-given g c =
    let ended = c.session-ended.ensures in
    let tried : c.keep_timestamp.new.self.tries ≡ tries_of (PerOperation c.args.service.now.options.now.tries) = search rules in
    let given : c.keep_timestamp.new.self.tries.given ≡ g.L.MadeWith.tries = ap (λ (t : TriesLeft). t.given) tried ∙ c.args.service.now.tries in
    given_on g.P.Pseudo.bits_of (λ d. desk_view d.desk.snapshot d.desk.tries d.desk.share.amount) _ (λ old call answer new moved. moved) c.args.client _ _ c.session-ended.result ended.answers ended.refusal
    g.L.MadeWith.tries given c.args.self.now.given
