-- A manager stays one where items of its history are handed out.
use Rattle.std.proofs.Common.{ℕ, List, None, Some, sym, subst}
use Rattle.mlt_manager.proofs.Names.{TraceItem, At, Transaction, FitsAt, IsSound, State, IsManager, ManagerFields}
use Rattle.mlt_manager_invariant.specs.Sound.{Fits}
use Rattle.mlt_manager.specs.{HandingOut.HandsOut, HandingOut.with_handed}

-- the state, with these items of its history handed out
abbrev state_with : List TraceItem → State → State
state_with handed s = record s {
  shared = record s.shared { history = record s.shared.history { handed = handed } };
}

module _ (handed : List TraceItem) where
  fits_at : (where_at : At) (s : State) (i : ℕ) (t : Transaction) → FitsAt where_at s i t → FitsAt where_at (state_with handed s) i t
  fits_at At.Idle s i t f = f
  fits_at (At.Pending o) s i t f =
      record { op = f.op; asked = f.asked; in_range = f.in_range; operates = f.operates; reserved = f.reserved; spare = f.spare; fewer = f.fewer }
  fits_at (At.Undoing None) s i t f = f
  fits_at (At.Undoing (Some o)) s i t f = record { front = f.front; last = f.last; entries = f.entries; inverts = f.inverts; has = f.has; operates = f.operates }

  fits : (s : State) (i : ℕ) (t : Transaction) → Fits s i t → Fits (state_with handed s) i t
  fits s i t f = record { number = f.number; stands = f.stands; few = f.few; where_at = fits_at t.at s i t f.where_at }

  sound_with : (s : State) → IsSound s → IsSound (state_with handed s)
  sound_with s h = record {
    match = h.match;
    running = h.running;
    kept = h.kept;
    opened = h.opened;
    fits = λ i t is. fits s i t (h.fits i t is);
    held = h.held;
    begun = h.begun;
    count = h.count;
    commits = h.commits;
    room = h.room;
  }

  module _ {P : Type 0} (bits_of : P → ℕ → ℕ) where
    manager_with : (m : ManagerFields P) → IsManager bits_of m → IsManager bits_of (with_handed handed m)
    manager_with m h = record {
      images = h.images;
      base = h.base;
      sound = sound_with _ h.sound;
      traced = assumption h.traced;
      limits = assumption h.limits;
    }

-- **Handing out keeps the manager.**
pub hands_out_keeps : {P : Type 0} (bits_of : P → ℕ → ℕ) (old new : ManagerFields P) → HandsOut old new → IsManager bits_of old → IsManager bits_of new
hands_out_keeps bits_of old new out h = subst (IsManager bits_of) (sym out.same) (manager_with new.shared.history.handed bits_of old h)
