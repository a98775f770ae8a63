use Rattle.std.proofs.Common.{rules, ◌≡◌, ◌++◌, ◌∙◌, ap, subst, sym}
use Rattle.mlt_trace.specs.Numbers.{begun_txs}
use Rattle.mlt_work_desk.{specs.declared.log_handles.LogView.LogView, specs.declared.log_handles.Past.Past, specs.Prefixes.HasBegunWith, proofs.LogMoves.grows, proofs.LogMoves.hands_over, proofs.LogMoves.joins}
use Rattle.mlt_work_desk.proofs.log_handles.HistoryLog.see.Goals as goal

pub join_seat-requires : goal.join_seat-requires
join_seat-requires g c = (search rules, search rules, search rules, search rules, joins _ _ _ _)

pub load-requires : goal.load-requires
load-requires g c =
    let joined = c.join_seat.ensures.2 in
    let writes = ap (λ m. m.0.writes) joined ∙ ap (λ (v : LogView). v.writes) c.snapshot-fresh.new.writer.knows_all in
    let past = ap (λ m. m.0.past) joined ∙ c.snapshot-fresh.ensures.same in (
      search rules,
      search rules,
      grows g.G.Growth.past g.G.Growth.begun _ _ _ writes (subst (HasBegunWith g.G.Growth.past) (sym past) c.requires.grows)
          (subst (λ (p : Past). begun_txs g.G.Growth.past.items ≡ begun_txs p.items ++ g.G.Growth.begun) (sym past) c.requires.begins),
    )

pub split_seat-seat-requires : goal.split_seat-seat-requires
split_seat-seat-requires g c = (search rules, search rules, hands_over _ _)
