use Rattle.std.proofs.lemmas.Fmt.{contents_after_writes}
use Rattle.mlt_trace.specs.Items.{item_text}
use Rattle.mlt_trace.proofs.block.add_text.Goals as goal

pub returns-in-Ok-clause-ok : goal.returns-in-Ok-clause-ok
returns-in-Ok-clause-ok c =
    contents_after_writes _ (λ s. s.bytes) (λ s bytes t is. is) c.args.piece.now (item_text c.args.item.now) c.write.new.self c.in-Ok.ensures.writes
