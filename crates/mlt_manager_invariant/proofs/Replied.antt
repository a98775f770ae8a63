-- The reply of a pending operation, before its end
use Rattle.std.proofs.Common.{◌≡◌, ℕ, true, Option, Some, is_some, ap, subst, sym, ◌∙◌}
use Rattle.std.specs.FinMap as map
use Rattle.mlt_manager_invariant.proofs.Names.{Page, Base, Step, ObjOp, ObjReply, view_of, clean_pages, is_open, local_of, agrees_with_each, end_clean, Do, OperationFields, sees_held_alone, IsOpInRange, At, Transaction, FitsAt, HasPending, IsSound, State, all_of, images_kept, abstract_state_of}
use Rattle.mlt_tx_meaning.proofs.Fixed.{step_there}
use Rattle.mlt_manager_invariant.proofs.Found.{IsAnswered, is_answered}

module _ (s : State) (i : ℕ) (o : OperationFields) (before : Transaction) (op : ObjOp) (reply : ObjReply)
    (sound : IsSound s) (was : map.get s.txs i ≡ Some before) (is_pending : before.at ≡ At.Pending o) (asked : o.request ≡ Do op) (told : o.reply ≡ Some reply) where
  pending : HasPending s i before o
  pending = subst (λ (a : At). FitsAt a s i before) is_pending (sound.fits i before was).where_at

  is_open_here : is_open (all_of s) i ≡ true
  is_open_here = ap is_some (sound.kept i ∙ ap images_kept was)

  in_range : IsOpInRange op
  in_range = let same : Do pending.op ≡ Do op = sym pending.asked ∙ asked in subst IsOpInRange (let one : pending.op ≡ op = cc in one) pending.in_range

  -- what its end would leave
  answered : IsAnswered (abstract_state_of s) i op reply (clean_pages (map.insert s.images i map.empty) s.shared.pages.store.pages)
  answered =
      is_answered (abstract_state_of s) i o (view_of (local_of (all_of s) i)) op reply (clean_pages (map.insert s.images i map.empty) s.shared.pages.store.pages)
      sound.match in_range.cell pending.operates asked told (agrees_with_each (all_of s) i sound.running is_open_here)
      (record { held = sees_held_alone (local_of (all_of s) i); ends = λ q. ap (λ (f : ℕ → Option Page). f q) (end_clean (all_of s) i sound.running) })

  -- **The reply is the one with which it is a step of the base.**
  pub reply_is_step : (base : Base) × Step s.base (op, reply) base
  reply_is_step =
      let there = step_there (abstract_state_of s) op sound.match in_range in
      (there.0, subst (λ (r : ObjReply). Step s.base (op, r) there.0) answered.told there.1)
