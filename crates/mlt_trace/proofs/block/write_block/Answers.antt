use Rattle.std.proofs.Common.{ℕ, List, [], refl, take}
use Rattle.std.proofs.KnownBytes.{Appends-nil}
use Rattle.mlt_text.{proofs.Pieces.on_err_all, specs.Texts.AppendsFront}
use Rattle.mlt_trace.specs.Lines.{AreLinesOf}
use Rattle.mlt_trace.proofs.block.write_block.Goals as goal

pub returns-in_err-count-clause-err : goal.returns-in_err-count-clause-err
returns-in_err-count-clause-err g c =
    let before = g.W.Write.contents c.args.writer.now in
    let nothing : (text : List ℕ) × (count : ℕ) × AreLinesOf (take count c.args.items.now) text × AppendsFront before before text =
    ([], 0, refl, ([], [], refl, Appends-nil before)) in
    on_err_all _ _ nothing
