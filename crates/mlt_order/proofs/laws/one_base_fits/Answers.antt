use Rattle.std.proofs.Common.{[], sym}
use Rattle.mlt_order.proofs.{Mixing.finitely_many_mix, RunLemmas.serial_to_one, UndoLaws.one_base}
use Rattle.mlt_order.proofs.laws.one_base_fits.Goals as goal

pub returns-clause-undone : goal.returns-clause-undone
returns-clause-undone g c = λ one other state transcripts finite.
    let m = (finitely_many_mix transcripts).0 finite in
    one_base g.T.Steps.step g.T.Steps.one_start one other state transcripts m.0 m.1

pub returns-clause-nothing_open : goal.returns-clause-nothing_open
returns-clause-nothing_open g c = λ base state transcripts none undone. undone [] (λ i. sym (none i))

pub returns-clause-serial : goal.returns-clause-serial
returns-clause-serial g c = λ start one other transcripts. serial_to_one g.T.Steps.step g.T.Steps.one_end transcripts start one other
