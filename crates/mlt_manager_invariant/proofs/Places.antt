-- In a sound state items have their places
use Rattle.std.proofs.Common.{◌≡◌, ℕ, ◌+◌, ◌<◌, List, [], ◌∷◌, length, Contains, Some, is_some, sym, ap, ◌∙◌, inl, inr, refl, arith}
use Rattle.std.specs.FinMap as map
use Rattle.mlt_manager_invariant.proofs.Names.{ObjOp, ObjReply, TraceItem, commit_count, HasPlace, IsWhole, Transaction, IsSound, State}
use Rattle.mlt_order.proofs.RunLemmas.{contains-nothing}
use Rattle.mlt_trace.{specs.Numbers.CountsFrom, specs.Numbers.begun_txs, proofs.BegunLaws.first_or_later}
use Rattle.mlt_trace_check.specs.Traces.{IsRunning}

counts_below : (ns : List ℕ) (first n : ℕ) → CountsFrom first ns → Contains ns n → n < first + length ns
counts_below [] first n counts h = absurd (contains-nothing n h)
counts_below (k ∷ ns) first n counts h = elim (first_or_later k ns n h) [
  | inl same ↦ let is = counts.0 in omega (arith, same, is)
  | inr later ↦ let rest = counts_below ns (first + 1) n counts.1 later in omega (arith, rest)
]

pub begin_place : (s : State) → IsSound s → HasPlace s.shared.history.items (TraceItem.Begin (s.begun + 1))
begin_place s sound other h =
    let below = counts_below (begun_txs s.shared.history.items) 1 other sound.begun h in
    let count : s.begun ≡ length (begun_txs s.shared.history.items) = sound.count in
    omega (arith, below, count)

module _ (s : State) (i : ℕ) (t : Transaction) (sound : IsSound s) (was : map.get s.txs i ≡ Some t) where
  pub runs_now : IsRunning s.shared.history.items i
  runs_now = (sound.match.records.running i).0 (sound.opened i ∙ ap is_some was)

  pub done_place : (done : ObjOp × ObjReply) → IsWhole s.shared.history.items i → HasPlace s.shared.history.items (TraceItem.Op i done)
  done_place done whole = (runs_now, whole)

  pub back_place : (t.undo.entries ≡ [] → ⊥) → HasPlace s.shared.history.items (TraceItem.Back i)
  back_place some = (runs_now, λ none. some ((sound.fits i t was).stands ∙ none))

  pub commit_place : IsWhole s.shared.history.items i → HasPlace s.shared.history.items (TraceItem.Commit i (commit_count s.shared.history.items + 1))
  commit_place whole = (runs_now, whole, refl)

  pub close_place : t.undo.entries ≡ [] → HasPlace s.shared.history.items (TraceItem.Abort i)
  close_place none = (runs_now, sym (sound.fits i t was).stands ∙ none)
