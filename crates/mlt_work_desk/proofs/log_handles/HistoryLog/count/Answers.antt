use Rattle.std.proofs.Common.{rules, ◌≡◌, ◌≤◌, ◌++◌, ◌∙◌, ap, subst}
use Rattle.mlt_trace.specs.Numbers.{begun_txs}
use Rattle.mlt_work_desk.specs.{Prefixes.times, LogHandles.begun_by, LogHandles.past_of, declared.log_handles.LogView.LogView, declared.log_handles.Past.Past}
use Rattle.mlt_work_desk.proofs.LogMoves.{counts, joins}
use Rattle.mlt_work_desk.proofs.log_handles.HistoryLog.count.Goals as goal

pub join_seat-requires : goal.join_seat-requires
join_seat-requires c = (search rules, search rules, search rules, search rules, joins _ _ _ _)

pub load-requires : goal.load-requires
load-requires c =
    let writes = ap (λ m. m.0.writes) c.join_seat.ensures.2 ∙ ap (λ (v : LogView). v.writes) c.args.writer.now.knows_all in
    (search rules, search rules, counts _ _ _ writes)

pub returns-clause-counted : goal.returns-clause-counted
returns-clause-counted c = λ tx.
    let joined = c.join_seat.ensures.2 in
    let had = c.join_seat.new.seat.me.0 in
    let counted : times tx had.begun ≤ times tx (begun_txs had.past.items) = c.load.ensures.2.0.1 tx in
    let begun : had.begun ≡ begun_by c.args.all = ap (λ m. m.0.begun) joined ∙ ap (λ (v : LogView). v.begun ++ begun_by c.args.all) c.args.writer.now.knows_all in
    let past : had.past ≡ past_of c.args.writer.now = ap (λ m. m.0.past) joined in
    subst (λ txs. times tx txs ≤ times tx (begun_txs (past_of c.args.writer.now).items)) begun
    (subst (λ (p : Past). times tx had.begun ≤ times tx (begun_txs p.items)) past counted)
