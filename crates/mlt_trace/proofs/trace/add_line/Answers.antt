use Rattle.std.proofs.lemmas.Fmt.{contents_after_writes}
use Rattle.mlt_trace.proofs.Names.{item_line}
use Rattle.mlt_trace.proofs.trace.add_line.Goals as goal

pub returns-in-Ok-clause-ok : goal.returns-in-Ok-clause-ok
returns-in-Ok-clause-ok c =
    contents_after_writes _ (λ s. s.bytes) (λ s bytes t is. is) c.args.piece.now (item_line c.args.item.now) c.writeln.new.self c.in-Ok.ensures.writes
