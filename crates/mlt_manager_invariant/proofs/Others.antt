-- What an event of one transaction leaves of another
use Rattle.std.proofs.Common.{◌≡◌, ◌≢◌, ℕ, ◌<◌, length, None, Some, sym, subst, ◌∙◌}
use Rattle.mlt_manager_invariant.proofs.Names.{View, view_of, SameReservations, AllRunning, HoldsNothing, KeepsRunning, local_of, IsOperating, OperationFields, context_of, At, Transaction, WalkContext, FitsAt, State, all_of, abstract_state_of}

-- another transaction that holds nothing still holds nothing
pub still_nothing : (i j : ℕ) (old new : AllRunning) → KeepsRunning i old new → j ≢ i → HoldsNothing old j → HoldsNothing new j
still_nothing i j old new keeps ne none = record {
  no_images = keeps.images j ne ∙ none.no_images;
  no_locks = keeps.holders j ne ∙ none.no_locks;
}

-- what stays between two states for another transaction j: what its walks go by, and how many operations it may have
pub record StaysFor (i j : ℕ) (s s' : State) : Type 0 where
  pub other : j ≢ i
  pub runs : KeepsRunning i (all_of s) (all_of s')
  pub context : context_of (abstract_state_of s') j ≡ context_of (abstract_state_of s) j
  pub reserved : SameReservations s.shared.objects.reserved s'.shared.objects.reserved i
  pub max_ops : s'.max_ops ≡ s.max_ops

operates_still : (i j : ℕ) (s s' : State) (o : OperationFields) → StaysFor i j s s' → IsOperating (context_of (abstract_state_of s) j) o (view_of (local_of (all_of s) j)) → IsOperating (context_of (abstract_state_of s') j) o (view_of (local_of (all_of s') j))
operates_still i j s s' o stays operates =
    subst (λ (b : WalkContext). IsOperating b o (view_of (local_of (all_of s') j))) (sym stays.context)
    (subst (λ (v : View). IsOperating (context_of (abstract_state_of s) j) o v) (sym (stays.runs.views j stays.other)) operates)

-- another transaction is where it was, from what its operations are at
pub fits_with : (a : At) (i j : ℕ) (s s' : State) (t : Transaction) → j ≢ i → KeepsRunning i (all_of s) (all_of s')
    → SameReservations s.shared.objects.reserved s'.shared.objects.reserved i → s'.max_ops ≡ s.max_ops
    → ((o : OperationFields) → IsOperating (context_of (abstract_state_of s) j) o (view_of (local_of (all_of s) j)) → IsOperating (context_of (abstract_state_of s') j) o (view_of (local_of (all_of s') j)))
    → FitsAt a s j t → FitsAt a s' j t
fits_with At.Idle i j s s' t other runs reserved max_ops still fits = still_nothing i j (all_of s) (all_of s') runs other fits
fits_with (At.Pending o) i j s s' t other runs reserved max_ops still fits = record {
  op = fits.op;
  asked = fits.asked;
  in_range = fits.in_range;
  operates = still o fits.operates;
  reserved = reserved j other ∙ fits.reserved;
  spare = fits.spare;
  fewer = subst (λ (n : ℕ). length t.undo.entries < n) (sym max_ops) fits.fewer;
}
fits_with (At.Undoing None) i j s s' t other runs reserved max_ops still fits = (still_nothing i j (all_of s) (all_of s') runs other fits.0, fits.1)
fits_with (At.Undoing (Some o)) i j s s' t other runs reserved max_ops still fits = record {
  front = fits.front;
  last = fits.last;
  entries = fits.entries;
  inverts = fits.inverts;
  has = fits.has;
  operates = still o fits.operates;
}

-- **Another transaction is where it was.**
pub still_fits : (a : At) (i j : ℕ) (s s' : State) (t : Transaction) → StaysFor i j s s' → FitsAt a s j t → FitsAt a s' j t
still_fits a i j s s' t stays = fits_with a i j s s' t stays.other stays.runs stays.reserved stays.max_ops (λ o. operates_still i j s s' o stays)
