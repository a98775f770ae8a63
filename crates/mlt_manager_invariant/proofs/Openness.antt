-- What is left of another transaction by an event that changes who is open
use Rattle.std.proofs.Common.{◌≡◌, ◌≢◌, ℕ, Some, is_some, sym, ap, subst, ◌∙◌, nat_cmp}
use Rattle.std.specs.FinMap as map
use Rattle.std.specs.FinSet as set
use Rattle.mlt_manager_invariant.proofs.Names.{WalkContext, Agrees, View, view_of, SameReservations, KeepsRunning, clean_of, local_of, agrees_with_each, IsOperating, OperationFields, context_of, At, Transaction, FitsAt, IsSound, State, all_of, abstract_state_of}
use Rattle.mlt_hash_split.specs.Rests.{KeepsNoMore}
use Rattle.mlt_tx_operation.proofs.Operations.{KeepsFewer, stands_with}
use Rattle.mlt_manager_invariant.proofs.{InverseEnds.open_there, Others.fits_with}

-- what stays between two states for another transaction j, of whose pages no slot's room is kept that was not before
pub record IsActiveFor (i j : ℕ) (s s' : State) : Type 0 where
  pub other : j ≢ i
  pub runs : KeepsRunning i (all_of s) (all_of s')
  pub context : context_of (abstract_state_of s') j ≡ record (context_of (abstract_state_of s) j) { active = s'.active }
  pub keeps : KeepsFewer (context_of (abstract_state_of s) j) s'.active (view_of (local_of (all_of s) j)) (clean_of (all_of s))
  pub reserved : SameReservations s.shared.objects.reserved s'.shared.objects.reserved i
  pub max_ops : s'.max_ops ≡ s.max_ops

operates_on : (i j : ℕ) (s s' : State) (o : OperationFields) → IsActiveFor i j s s' → IsOperating (context_of (abstract_state_of s) j) o (view_of (local_of (all_of s) j)) → IsOperating (context_of (abstract_state_of s') j) o (view_of (local_of (all_of s') j))
operates_on i j s s' o stays operates =
    let view = view_of (local_of (all_of s) j) in
    let here : IsOperating (record (context_of (abstract_state_of s) j) { active = s'.active }) o view =
    stands_with (context_of (abstract_state_of s) j) s'.active o view (clean_of (all_of s)) operates stays.keeps in
    subst (λ (b : WalkContext). IsOperating b o (view_of (local_of (all_of s') j))) (sym stays.context)
    (subst (λ (v : View). IsOperating (record (context_of (abstract_state_of s) j) { active = s'.active }) o v) (sym (stays.runs.views j stays.other)) here)

-- **Another transaction is where it was.**
pub active_fits : (a : At) (i j : ℕ) (s s' : State) (t : Transaction) → IsActiveFor i j s s' → FitsAt a s j t → FitsAt a s' j t
active_fits a i j s s' t stays = fits_with a i j s s' t stays.other stays.runs stays.reserved stays.max_ops (λ o. operates_on i j s s' o stays)

-- what an open transaction has read is clean
pub agrees_in : (s : State) (j : ℕ) (t : Transaction) → IsSound s → map.get s.txs j ≡ Some t → Agrees (view_of (local_of (all_of s) j)).seen (clean_of (all_of s))
agrees_in s j t sound is = agrees_with_each (all_of s) j sound.running (open_there s j t sound is)

-- and it keeps its own ghosts
pub keeps_fewer : (s : State) (j : ℕ) (t : Transaction) (active : set.FinSet nat_cmp) → IsSound s → map.get s.txs j ≡ Some t → KeepsNoMore s.active active (view_of (local_of (all_of s) j))
    → KeepsFewer (context_of (abstract_state_of s) j) active (view_of (local_of (all_of s) j)) (clean_of (all_of s))
keeps_fewer s j t active sound is no_more = record {
  no_more = no_more;
  own = sound.opened j ∙ ap is_some is;
  agree = agrees_in s j t sound is;
  form = sound.match.file.form;
}
