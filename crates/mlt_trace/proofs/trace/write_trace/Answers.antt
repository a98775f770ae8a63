use Rattle.std.proofs.Common.{◌≡◌, ◌∙◌, ◌++◌, ◌+◌, arith, ap, drop, refl, sym}
use Rattle.std.proofs.lemmas.{List.drop_all, List.drop_more, Result.on_err_weaker, Result.on_ok_weaker}
use Rattle.mlt_text.proofs.Pieces.{on_err_all}
use Rattle.mlt_trace.proofs.Names.{item_line, trace_text}
use Rattle.mlt_trace.proofs.Pieces.{failed, last_moved, longer, moved, stopped}
use Rattle.mlt_trace.proofs.trace.write_trace.Goals as goal

pub returns-in_err-make_room-clause-err : goal.returns-in_err-make_room-clause-err
returns-in_err-make_room-clause-err g c = on_err_all _ _ (failed c.loop-item.invariant _ _ refl c.in_err-make_room.ensures.err)

pub returns-in_err-add_line-clause-err : goal.returns-in_err-add_line-clause-err
returns-in_err-add_line-clause-err g c =
    let out = c.in_ok-make_room.ensures.ok in
    on_err_all _ _ (stopped (moved c.loop-item.invariant _ _ _ out.1 out.2))

pub loop-item-preserved : goal.loop-item-preserved
loop-item-preserved g c =
    let out = c.in_ok-make_room.ensures.ok in
    let items = c.args.items.now in
    let i = c.loop-item.item-index in
    let next : trace_text (drop i items) ≡ item_line c.item-item.result ++ trace_text (drop (i + 1) items) =
    ap trace_text (drop_more items i c.item-item.result c.loop-item-test.true) ∙ ap (λ item. item_line item ++ trace_text (drop (i + 1) items)) (sym c.item-item.is) in
    longer (moved c.loop-item.invariant _ _ _ out.1 out.2) _ _ _ c.in_ok-add_line.ensures.ok next

pub returns-clause-ok : goal.returns-clause-ok
returns-clause-ok g c =
    let sent = c.as_bytes.ensures.value ∙ c.as_str.ensures.value in
    let last = ap trace_text (drop_all c.loop-item.item-index c.args.items.now (omega (arith, c.loop-item-test.false))) in
    on_ok_weaker c.write_text.result (λ q. last_moved c.loop-item.invariant _ _ last sent q) c.write_text.ensures.ok

pub returns-clause-err : goal.returns-clause-err
returns-clause-err g c =
    let sent = c.as_bytes.ensures.value ∙ c.as_str.ensures.value in
    on_err_weaker c.write_text.result (λ q. failed c.loop-item.invariant _ _ sent q) c.write_text.ensures.err
