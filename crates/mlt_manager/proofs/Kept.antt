-- What each event answers keeps what is always true of a manager
use Rattle.std.proofs.Common.{◌≡◌, ◌<◌, ◌≤◌, ℕ, ◌^◌, Bool, true, false, Result, Ok, Err, IfOk, sym, ap, subst, ◌∙◌, arith, nat_cmp}
use Rattle.std.specs.FinMap as map
use Rattle.std.specs.FinSet as set
use Rattle.mlt_manager.proofs.Names.{Limits, Refusal, empty_base, ObjOp, commit_count, GivesPseudokeys, Answer, IsSound, Transaction, IsTraced, AnswersAbort, AnswersBegin, AnswersCall, AnswersCancel, AnswersCommit, AnswersStep, LeavesBase, IsManager, ManagerFields, state_of, IsNew, AnswersWholeUndo, GoesOnBack, StopsBack, AnswersWhole}
use Rattle.mlt_manager_invariant.{specs.Opening.opening_state, proofs.Opening.opening_sound, proofs.TraceStays.opening_traced}
use Rattle.mlt_manager.proofs.{Called.called_keeps, Called.cancelled_keeps, Called.not_called_keeps, Ended.abort_begun_keeps, Ended.begun_keeps, Ended.closed_keeps, Ended.committed_keeps, Keeping.same_manager, RunningOn.run_keeps, Stepped.step_keeps, Chains.up_to_keeps}

module _ {P : Type 0} (bits_of : P → ℕ → ℕ) (m m' : ManagerFields P) (h : IsManager bits_of m) where
  pub begin_kept : (r : Result ℕ Refusal) → AnswersBegin m m' r → IsManager bits_of m'
  begin_kept (Ok tx) a = begun_keeps bits_of m h tx m' a
  begin_kept (Err reason) a = same_manager bits_of m' m a.1 h

  pub call_kept : (tx : ℕ) (op : ObjOp) (r : Result (Unit {0}) Refusal) → AnswersCall m m' tx op r → IsManager bits_of m'
  call_kept tx op (Ok done) a = called_keeps bits_of m h tx m' a.rest op a
  call_kept tx op (Err Refusal.OutOfMemory) a = (not_called_keeps bits_of m h tx m' a.2 a.0 a.1).0
  call_kept tx op (Err reason) a = same_manager bits_of m' m a.1 h

  pub step_kept : (tx : ℕ) (r : Result Answer Refusal) → AnswersStep bits_of m m' tx r → IsManager bits_of m'
  step_kept tx (Ok told) a = (step_keeps bits_of m h tx m' told a).0
  step_kept tx (Err reason) a = same_manager bits_of m' m a.1 h

  pub step_leads : (tx : ℕ) (r : Result Answer Refusal) → AnswersStep bits_of m m' tx r → IfOk r (λ told. LeavesBase told m m' tx)
  step_leads tx (Ok told) a = (step_keeps bits_of m h tx m' told a).1
  step_leads tx (Err reason) a = tt

  pub whole_undo_kept : (tx : ℕ) (r : Result Answer Refusal) → AnswersWholeUndo bits_of m m' tx r → IsManager bits_of m'
  whole_undo_kept tx (Ok told) a = up_to_keeps bits_of GoesOnBack tx StopsBack m m' told h a.1
  whole_undo_kept tx (Err reason) a = same_manager bits_of m' m a.1 h

  pub whole_kept : (tx : ℕ) (op : ObjOp) (r : Result Answer Refusal) → AnswersWhole bits_of m m' tx op r → IsManager bits_of m'
  whole_kept tx op (Ok told) a = run_keeps bits_of m m' tx op told h a
  whole_kept tx op (Err reason) a = call_kept tx op (Err reason) a

  pub cancel_kept : (tx : ℕ) (r : Result (Unit {0}) Refusal) → AnswersCancel m m' tx r → IsManager bits_of m'
  cancel_kept tx (Ok done) a = (cancelled_keeps bits_of m h tx m' a.2 a.0 a.1).0
  cancel_kept tx (Err reason) a = same_manager bits_of m' m a.1 h

  pub commit_kept : (tx : ℕ) (r : Result ℕ Refusal) → AnswersCommit m m' tx r → IsManager bits_of m'
  commit_kept tx (Ok number) a = committed_keeps bits_of m h tx m' number a
  commit_kept tx (Err reason) a = same_manager bits_of m' m a.1 h

  pub abort_kept : (tx : ℕ) (r : Result Bool Refusal) → AnswersAbort m m' tx r → IsManager bits_of m'
  abort_kept tx (Ok true) a = closed_keeps bits_of m h tx m' a
  abort_kept tx (Ok false) a = abort_begun_keeps bits_of m h tx m' a
  abort_kept tx (Err reason) a = same_manager bits_of m' m a.1 h

-- a manager as it is made
module _ {P : Type 0} (bits_of : P → ℕ → ℕ) (m : ManagerFields P) (limits : Limits) (pseudo : P) (keys : GivesPseudokeys (bits_of m.root.pseudo)) (new : IsNew m limits pseudo) where
  same_state : state_of bits_of m map.empty empty_base ≡ opening_state (bits_of m.root.pseudo) m.root.page m.root.max_depth m.max_ops m.shared
  same_state i = record {
    bits = bits_of m.root.pseudo;
    root = m.root.page;
    max_depth = m.root.max_depth;
    max_ops = m.max_ops;
    shared = m.shared;
    txs = new.txs i;
    images = map.empty;
    active = new.active i;
    begun = new.begun i;
    base = empty_base;
  }

  small : m.root.max_depth ≤ 16
  small = subst (λ (n : ℕ). n ≤ 16) (sym new.made.depth) limits.in_range.depth_most

  sound : IsSound (opening_state (bits_of m.root.pseudo) m.root.page m.root.max_depth m.max_ops m.shared)
  sound = opening_sound (bits_of m.root.pseudo) m.root.page m.root.max_depth m.max_ops limits.max_open new.dir new.bucket m.shared keys small new.file new.page_locks new.object_locks new.items new.room

  traced : IsTraced (opening_state (bits_of m.root.pseudo) m.root.page m.root.max_depth m.max_ops m.shared)
  traced = opening_traced (bits_of m.root.pseudo) m.root.page m.root.max_depth m.max_ops m.shared new.items

  none_open : map.len m.txs ≡ 0
  none_open = ap map.len new.txs ∙ map.len-empty nat_cmp Transaction

  pub new_kept : IsManager bits_of m
  new_kept = record {
    images = map.empty;
    base = empty_base;
    sound = subst IsSound (sym same_state) sound;
    traced = subst IsTraced (sym same_state) traced;
    limits = record {
      locks_for = (λ i. (new.page_locks i).max_open) ∙ sym new.made.open_at_most;
      pages_for = new.page_limit ∙ sym new.made.pages;
      few_open = omega (arith, none_open);
      open_in_set = ap set.len new.active ∙ set.len-empty nat_cmp ∙ sym none_open;
      set_holds = subst (λ (n : ℕ). n ≤ 64) (sym new.made.open_at_most) limits.in_range.open_most;
      few_ids = omega (arith, new.begun);
      ids_fit = subst (λ (n : ℕ). n < 2 ^ 63) (sym new.made.ids) limits.in_range.ids_most;
      ops_fit = subst (λ (n : ℕ). n ≤ 1024) (sym new.made.ops) limits.in_range.ops_most;
      ended = omega (arith, none_open, new.commits);
      counted = new.commits ∙ sym (ap commit_count new.items);
    };
  }
