-- What the items of a history say of what is committed, and which base a manager at rest has
use Rattle.std.proofs.Common.{◌≡◌, ◌≢◌, ℕ, zero, suc, replicate, List, [], ◌∷◌, ◌++◌, true, false, is_some, Some, refl, sym, ap, subst, ◌∙◌, append_assoc}
use Rattle.std.specs.FinMap as map
use Rattle.std.specs.FinSet as set
use Rattle.mlt_manager_solo.proofs.Names.{Base, Step, Transcript, empty_base, ObjOp, ObjReply, Entry, IsHistory, no_lists, follow_push, TraceItem, entries_of, entries_of-append, Transaction, HasBase, IsManager, ManagerFields, lists_by, IsAtRest, KeepsCommitted}
use Rattle.mlt_order.{specs.Histories.Lists, specs.Histories.lists_of, specs.Histories.Entry.Committed, specs.Histories.Stage.Running, specs.Runs.IsSerialBase, proofs.Growing.after_entries-push, proofs.RunLemmas.serial_to_one}
use Rattle.mlt_trace.specs.Entries.{entry_of}
use Rattle.mlt_trace_check.proofs.Histories.{nothing_of_others, serializable}
use Rattle.mlt_object_conflicts.proofs.BaseOrder.{base_functional}
use Rattle.mlt_manager.proofs.Stepped.{same_base}

-- the transcripts that the items say were committed
abbrev pub committed_by : List TraceItem → List (List (ObjOp × ObjReply))
committed_by items = (lists_of (entries_of items)).committed

-- no item but a commit changes what is committed
abbrev pub CommitsNone : TraceItem → Type 0
CommitsNone (TraceItem.Commit tx number) = ⊥
CommitsNone other = Unit {0}

pub commits_none : (items : List TraceItem) (item : TraceItem) → CommitsNone item → committed_by (items ++ item ∷ []) ≡ committed_by items
commits_none items (TraceItem.Commit tx number) none = absurd none
commits_none items other none =
    ap (λ (l : Lists (ObjOp × ObjReply)). l.committed) (ap lists_of (entries_of-append items (other ∷ [])) ∙ after_entries-push (entries_of items) no_lists (entry_of other))

-- nor do operations that are taken back, up to the abort
pub backs_commit_none : (count : ℕ) (items : List TraceItem) (tx : ℕ) → committed_by (items ++ (replicate count (TraceItem.Back tx) ++ TraceItem.Abort tx ∷ [])) ≡ committed_by items
backs_commit_none zero items tx = commits_none items (TraceItem.Abort tx) tt
backs_commit_none (suc count) items tx =
    ap committed_by (sym (append_assoc items (TraceItem.Back tx ∷ []) (replicate count (TraceItem.Back tx) ++ TraceItem.Abort tx ∷ []))) ∙ backs_commit_none count (items ++ TraceItem.Back tx ∷ []) tx
    ∙ commits_none items (TraceItem.Back tx) tt

module _ {P : Type 0} (bits_of : P → ℕ → ℕ) (m : ManagerFields P) (rest : IsAtRest bits_of m) where
  not_running : (i : ℕ) → (lists_by m).stage i ≢ Running
  not_running i runs =
      let inside : set.contains m.active i ≡ true = (rest.manager.sound.match.records.running i).1 runs in
      let outside : set.contains m.active i ≡ false = rest.manager.sound.opened i ∙ ap is_some (rest.nobody i) in
      cc

  -- the base that is left is that of the committed transcripts
  left_is_serial : IsSerialBase Step empty_base (lists_by m).committed rest.manager.base
  left_is_serial =
      let history = rest.manager.sound.match.records.history in
      let s = serializable m.shared.history.items rest.manager.base history in
      let same : s.0 ≡ rest.manager.base = s.2 [] (λ i. sym (nothing_of_others m.shared.history.items rest.manager.base history i (not_running i))) in
      subst (IsSerialBase Step empty_base (lists_by m).committed) same s.1

-- **At rest, where no more is committed, the base is what it was,** that of the committed transcripts, run one after another.
pub back_to_base : {P : Type 0} (bits_of : P → ℕ → ℕ) (old new : ManagerFields P) (base : Base) → IsAtRest bits_of old → IsAtRest bits_of new → KeepsCommitted old new → HasBase old base → HasBase new base
back_to_base bits_of old new base before after keeps leads =
    let was = subst (IsSerialBase Step empty_base (lists_by old).committed) (sym (same_base bits_of old before.manager 0 base leads)) (left_is_serial bits_of old before) in
    let is = subst (λ (ts : List Transcript). IsSerialBase Step empty_base ts base) (sym keeps.0) was in
    let same : base ≡ after.manager.base = serial_to_one Step base_functional (lists_by new).committed empty_base base after.manager.base is (left_is_serial bits_of new after) in
    subst (HasBase new) (sym same) after.manager.sound.match.records.history

-- a commit of an open transaction leaves the base
pub commit_keeps_base : {P : Type 0} (bits_of : P → ℕ → ℕ) (m : ManagerFields P) (h : IsManager bits_of m) (tx number : ℕ) (one : Transaction) → map.get m.txs tx ≡ Some one
    → (base : Base) → HasBase m base → (m' : ManagerFields P) → m'.shared.history.items ≡ m.shared.history.items ++ TraceItem.Commit tx number ∷ [] → HasBase m' base
commit_keeps_base bits_of m h tx number one there base leads m' items =
    let inside : set.contains m.active tx ≡ true = h.sound.opened tx ∙ ap is_some there in
    let running : (lists_by m).stage tx ≡ Running = (h.sound.match.records.running tx).0 inside in
    let grown = follow_push Step (entries_of m.shared.history.items) no_lists empty_base base base (Committed tx) leads (running, refl) in
    let same : entries_of m'.shared.history.items ≡ entries_of m.shared.history.items ++ Committed tx ∷ [] = ap entries_of items ∙ entries_of-append m.shared.history.items (TraceItem.Commit tx number ∷ []) in
    subst (λ (es : List (Entry (ObjOp × ObjReply))). IsHistory Step empty_base es base) (sym same) grown
