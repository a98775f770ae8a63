use Rattle.std.proofs.Common.{◌≡◌, ◌++◌, List, length}
use Rattle.mlt_trace.specs.declared.item.TraceItem.{TraceItem}
use Rattle.mlt_serve.specs.TraceLines.{WritesLines}
use Rattle.mlt_serve.proofs.trace_keeping.write_lines.Given as goal

-- lines of the items that are no longer left were written
abbrev pub invariant-loop-rest : goal.invariant-loop-rest
invariant-loop-rest g l = (done : List TraceItem) × (l.items ≡ done ++ l.rest)
    × WritesLines done (g.T.Write.contents l.initial.file.file) (g.T.Write.contents l.file.file)

-- fewer items are left
abbrev pub decreases-loop-rest : goal.decreases-loop-rest
decreases-loop-rest g l = length l.rest
