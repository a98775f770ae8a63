use Rattle.mlt_order.proofs.{Mixing.finitely_many_mix, Mixing.interleaving_without, Parts.without, UndoLaws.commit}
use Rattle.mlt_order.proofs.laws.commit_keeps_undone_to.Goals as goal

pub returns : goal.returns
returns g c = λ base state i before after emptied finite undone.
    let m = (finitely_many_mix before).0 finite in
    commit g.T.Steps.step g.T.Steps.one_end base state i before after emptied (without i m.0) (interleaving_without i before after emptied m.0 m.1) undone
