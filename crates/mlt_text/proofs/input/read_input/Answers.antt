use Rattle.mlt_text.proofs.Pieces.{last_piece_read}
use Rattle.mlt_text.proofs.input.read_input.Goals as goal

pub returns-in_err-read_piece-clause-bounded : goal.returns-in_err-read_piece-clause-bounded
returns-in_err-read_piece-clause-bounded g c = last_piece_read _ _ _ _ c.in_err-read_piece.ensures.err.0 16777217 c.loop.invariant.3 c.in_err-read_piece.ensures.err.1 c.in_err-read_piece.ensures.err.2
