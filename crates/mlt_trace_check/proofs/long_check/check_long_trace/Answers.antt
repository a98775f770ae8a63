use Rattle.mlt_trace_check.proofs.{Exactness.only_accepted, Exactness.only_faulty, Saying.answers_known, Saying.refused_for, Saying.text_of}
use Rattle.mlt_trace_check.proofs.long_check.check_long_trace.Goals as goal

pub returns-clause-text : goal.returns-clause-text
returns-clause-text g c = text_of c.check_pieces.result _ _ _ _ c.check_pieces.ensures.answer

pub returns-clause-only_accepted : goal.returns-clause-only_accepted
returns-clause-only_accepted g c = λ input txs base had. only_accepted _ c.check_pieces.result input txs base (answers_known c.check_pieces.result _ _ _ _ input c.check_pieces.ensures.answer had)

pub returns-clause-only_faulty : goal.returns-clause-only_faulty
returns-clause-only_faulty g c = λ input line cause had. only_faulty _ c.check_pieces.result input line cause (answers_known c.check_pieces.result _ _ _ _ input c.check_pieces.ensures.answer had)

pub returns-clause-refusals : goal.returns-clause-refusals
returns-clause-refusals g c = refused_for c.check_pieces.result _ _ _ _ c.check_pieces.ensures.answer
