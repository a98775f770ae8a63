-- What an open transaction is at
use Rattle.std.proofs.Common.{◌≡◌, ℕ, Option, Some, Bor, sym, ap, subst, ◌∙◌, option_copied}
use Rattle.std.specs.FinMap as map
use Rattle.mlt_manager.proofs.Names.{At, Transaction, IsPending, IsBusy, IsIdleWith, IsOpenAt, IsUndoing, Table}
use Rattle.mlt_manager.specs.{Answers.IsIdle, Undoings.IsNotUndoing}

-- one that was found is open at what it is at
pub open_at : (txs : Table) (tx : ℕ) (got : Option (Bor Transaction)) (one : Bor Transaction) (Is : At → Type 0)
    → option_copied got ≡ map.get txs tx → got ≡ Some one → Is one.now.at → IsOpenAt txs tx Is
open_at txs tx got one Is found is fits = record { one = one.now; there = sym found ∙ ap option_copied is; is_at = fits }

pub idle_at : (txs : Table) (tx count : ℕ) → IsIdleWith txs tx count → IsOpenAt txs tx IsIdle
idle_at txs tx count h = record { one = h.one; there = h.there; is_at = subst IsIdle (sym h.idle) tt }

busy_if : (a : At) → IsPending a → IsBusy a
busy_if At.Idle none = absurd none
busy_if (At.Pending o) is = tt
busy_if (At.Undoing inverting) none = absurd none

busy_if_undoing : (a : At) → IsUndoing a → IsBusy a
busy_if_undoing At.Idle none = absurd none
busy_if_undoing (At.Pending o) none = absurd none
busy_if_undoing (At.Undoing inverting) is = tt

pub pending_is_busy : (txs : Table) (tx : ℕ) → IsOpenAt txs tx IsPending → IsOpenAt txs tx IsBusy
pending_is_busy txs tx h = record { one = h.one; there = h.there; is_at = busy_if h.one.at h.is_at }

pub undoing_is_busy : (txs : Table) (tx : ℕ) → IsOpenAt txs tx IsUndoing → IsOpenAt txs tx IsBusy
undoing_is_busy txs tx h = record { one = h.one; there = h.there; is_at = busy_if_undoing h.one.at h.is_at }

not_undoing_if : (a : At) → IsPending a → IsNotUndoing a
not_undoing_if At.Idle none = absurd none
not_undoing_if (At.Pending o) is = tt
not_undoing_if (At.Undoing inverting) none = absurd none

pub pending_is_not_undoing : (txs : Table) (tx : ℕ) → IsOpenAt txs tx IsPending → IsOpenAt txs tx IsNotUndoing
pending_is_not_undoing txs tx h = record { one = h.one; there = h.there; is_at = not_undoing_if h.one.at h.is_at }

pub idle_is_not_undoing : (txs : Table) (tx count : ℕ) → IsIdleWith txs tx count → IsOpenAt txs tx IsNotUndoing
idle_is_not_undoing txs tx count h = record { one = h.one; there = h.there; is_at = subst IsNotUndoing (sym h.idle) tt }
