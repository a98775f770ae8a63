use Rattle.std.proofs.Common.{rules, ◌≡◌, [], Some, length}
use Rattle.mlt_serve.specs.Loads.{Heard, ends}
use Rattle.mlt_serve.proofs.Loading.{all_heard}
use Rattle.mlt_serve.proofs.session_thread.SessionThread.hear.Goals as goal

pub returns-then-is_empty : goal.returns-then-is_empty
returns-then-is_empty g c = λ told.
    let lines = c.args.piece.now.lines.items in
    let rest = c.serve-ended.new.reader.lines.now in
    let text = c.serve-ended.new.writer.items in
    let before = g.K.Receipts.receipts c.args.self.now.outcomes in
    let after = g.K.Receipts.receipts c.serve-ended.new.self.outcomes in
    let heard : Heard c.args.client (ends (Some lines) (Some [])) (ends (Some rest) (Some text)) before after = search rules in
    let empty : length rest ≡ 0 = search rules in
    let same : text ≡ c.args.piece.now.answers.items = search rules in
    all_heard c.args.client lines c.args.piece.now.answers.items text rest before after heard empty same
