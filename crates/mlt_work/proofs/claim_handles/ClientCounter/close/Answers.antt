use Rattle.std.proofs.Common.{◌≡◌, sym, subst}
use mathlib.Core.Option.{some}
use lib.ListN.{get_elem?}
use Rattle.mlt_work.proofs.ClaimMoves.{learns}
use Rattle.mlt_work.proofs.claim_handles.ClientCounter.close.Goals as goal

pub returns : goal.returns
returns c =
    let final = c.close_with-closed.ensures.values.2 in
    let s = final.0 in
    learns _ _ s.words s.views _ c.word-word.result final.1.0 final.1.1 c.requires.all (subst (λ ws. get_elem? ws 0 ≡ some c.word-word.result) (sym final.2) c.word-word.ensures)
