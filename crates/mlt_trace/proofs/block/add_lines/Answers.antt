use Rattle.std.proofs.Common.{◌≡◌, ◌∙◌, ◌++◌, ◌∷◌, ◌+◌, [], ap, subst, sym, take}
use Rattle.std.proofs.lemmas.List.{take_more}
use Rattle.mlt_trace.{specs.declared.item.TraceItem.TraceItem, specs.Lines.AreLinesOf, proofs.Longer.lines_longer}
use Rattle.mlt_trace.proofs.block.add_lines.Goals as goal

pub loop-count-preserved : goal.loop-count-preserved
loop-count-preserved c =
    let items = c.args.items.now in
    let i = c.loop-count.count in
    let item = c.index-items-count.result in
    let line = c.in_ok-add_line.ensures.line in
    let text = c.add_line.new.piece.bytes in
    let next : take (i + 1) items ≡ take i items ++ item ∷ [] =
    take_more items i item c.loop-count-test.true ∙ ap (λ (it : TraceItem). take i items ++ it ∷ []) (sym c.index-items-count.is) in
    let lines = lines_longer (take i items) c.loop-count.piece.bytes item line.0 line.1 text c.loop-count.invariant.0 line.2 in
    (subst (λ front. AreLinesOf front text) (sym next) lines, c.in_ok-add_line.ensures.keeps)

pub returns-then-len-room-clause-keeps : goal.returns-then-len-room-clause-keeps
returns-then-len-room-clause-keeps c = c.loop-count.invariant.1

pub returns-clause-keeps : goal.returns-clause-keeps
returns-clause-keeps c = c.loop-count.invariant.1
