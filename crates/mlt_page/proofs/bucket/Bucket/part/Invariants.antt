use Rattle.std.proofs.Common.{◌≡◌, length}
use Rattle.mlt_page.{specs.Slots.half, proofs.Halves.AreHalves}
use Rattle.mlt_page.proofs.bucket.Bucket.part.Given as goal

abbrev pub invariant-loop-at : goal.invariant-loop-at
invariant-loop-at g l =
    let f = half (g.P.Pseudo.bits_of l.pseudo) l.active l.place in
    record {
      zeros_size : length l.zeros ≡ 8;
      ones_size : length l.ones ≡ 8;
      zeros : AreHalves (f 0) l.self-inside.slots l.zeros l.at;
      ones : AreHalves (f 1) l.self-inside.slots l.ones l.at;
    }
