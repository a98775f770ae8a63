use Rattle.std.proofs.Common.{[], refl, ap, subst, ◌∙◌}
use Rattle.mlt_trace_check.proofs.Names.{Appends, Appends-nil, AppendsFront, on_err_all, serial_lines}
use Rattle.mlt_trace_check.proofs.long_check.tell_commits.Goals as goal

pub returns-in_err-text-clause-err : goal.returns-in_err-text-clause-err
returns-in_err-text-clause-err g c =
    let none : AppendsFront (g.W.Write.contents c.args.writer.now) (g.W.Write.contents c.args.writer.now) (serial_lines c.args.txs.now.items) =
    ([], serial_lines c.args.txs.now.items, refl, Appends-nil (g.W.Write.contents c.args.writer.now)) in
    on_err_all _ _ none

pub returns-in_err-write_text-clause-err : goal.returns-in_err-write_text-clause-err
returns-in_err-write_text-clause-err g c =
    on_err_all _ _ (subst (AppendsFront _ _) (c.as_bytes.ensures.value ∙ c.in_ok-text.ensures ∙ ap serial_lines c.as_slice.ensures.value) c.in_err-write_text.ensures.err)

pub returns-clause-ok : goal.returns-clause-ok
returns-clause-ok g c = subst (Appends _ _) (c.as_bytes.ensures.value ∙ c.in_ok-text.ensures ∙ ap serial_lines c.as_slice.ensures.value) c.in_ok-write_text.ensures.ok
