use Rattle.std.proofs.Common.{◌≡◌, ℕ, ◌<◌, ◌≤◌, true}
use Rattle.mlt_hash_form.specs.Room.{is_crowded}
use Rattle.mlt_hash_form.proofs.room.depth_with_room.Given as goal

abbrev pub invariant-loop-depth : goal.invariant-loop-depth
invariant-loop-depth g l =
    (d : ℕ) → l.bucket.depth ≤ d → d < l.depth → is_crowded (g.P.Pseudo.bits_of l.pseudo) l.active d l.bits l.bucket.slots ≡ true
