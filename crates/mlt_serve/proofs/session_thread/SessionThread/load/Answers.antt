use Rattle.std.proofs.Common.{rules, ◌≡◌, ◌+◌, ◌++◌, ◌∷◌, [], List, ap, arith, length, subst, sym, true}
use Rattle.std.proofs.lemmas.List.{length-append}
use Rattle.mlt_serve.specs.{Loads.AreHeard, declared.operating.Piece.Piece}
use Rattle.mlt_serve.proofs.Loading.{one_more_heard}
use Rattle.mlt_serve.proofs.session_thread.SessionThread.load.Goals as goal

pub loop-preserved : goal.loop-preserved
loop-preserved g c =
    let l = c.loop in
    let piece = c.in-Ok-Some.piece in
    let pieces = g.B.BaseSource.given l.base in
    let client = c.in-Some-checked_add.client in
    let more : g.B.BaseSource.given c.next-in-loop.new.self ≡ pieces ++ piece ∷ [] = search rules in
    let next : client ≡ 1 + length pieces = search rules in
    let told : c.hear.result ≡ true = search rules in
    let heard = c.hear.ensures told in
    let all = one_more_heard 1 client pieces piece (g.K.Receipts.receipts l.self.outcomes) heard.0 l.invariant.heard next heard.1 in
    let long = ap length more in
    let grown = length-append pieces (piece ∷ []) in
    record {
      heard = subst (λ (ps : List Piece). AreHeard 1 ps (g.K.Receipts.receipts c.hear.new.self.outcomes)) (sym more) (subst (AreHeard 1 (pieces ++ piece ∷ [])) (sym heard.2) all);
      count = omega (arith, next, long, grown);
    }
