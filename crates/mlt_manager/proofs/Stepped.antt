-- A step keeps what is always true of a manager
use Rattle.std.proofs.Common.{◌≡◌, ℕ, List, [], ◌∷◌, ◌++◌, Option, None, Some, refl, sym, ap, subst, ◌∙◌, arith}
use Rattle.std.specs.FinMap as map
use Rattle.mlt_manager.proofs.Names.{Page, Base, Step, ObjOp, ObjReply, IsLowestClash, TraceItem, clean_pages, context_by, OperationFields, Do, context_of, Answer, SharedState, At, Transaction, EndsBack, StepsBack, StepsPending, TellsAt, tx_state_of, KeepsImage, KeepsNoImage, Table, KeepsCleanPages, State, abstract_state_of, inserted_here, removed_here, HasStepped, IsOpenAt, active_after, txs_after, HasBase, IsPendingWith, KeepsWhatCounts, LeavesBase, TakesStepBack, IsManager, ManagerFields, state_of}
use Rattle.mlt_tx_meaning.proofs.Fixed.{history_fixes}
use Rattle.mlt_tx.specs.Steps.{Ends}
use Rattle.mlt_manager_invariant.{specs.Events.EndsPending, specs.Undoing.LedBack, specs.Undoing.TakesLastBack, specs.Undoing.with_aborted, specs.Undoing.with_undone, proofs.Aborting.aborted_sound, proofs.Done.done_sound, proofs.Inverting.inverse_sound, proofs.Pending.not_done_sound, proofs.Replied.reply_is_step, proofs.Stays.stays_sound, proofs.Tables.removed_inserted, proofs.Undoing.undone_sound, proofs.Items.done_traced, proofs.Items.last_undone_traced, proofs.Items.undone_traced, proofs.TraceStays.clean_traced}
use Rattle.mlt_manager.{specs.Bases.MakesStep, proofs.CleanPages.clean_alike, proofs.CleanPages.pages_clean, proofs.CleanPages.same_clean, proofs.Counts.KeepsCounts, proofs.Counts.step_counts, proofs.Keeping.IsStill, proofs.Keeping.changed_keeps, proofs.Keeping.removed_keeps, proofs.Keeping.same_manager}

module _ {P : Type 0} (bits_of : P → ℕ → ℕ) (m : ManagerFields P) (h : IsManager bits_of m) (tx : ℕ) where
  abbrev pub now : State
  now = state_of bits_of m h.images h.base

  -- one base is what the history leads to
  pub same_base : (base : Base) → HasBase m base → base ≡ h.base
  same_base base leads = history_fixes (abstract_state_of now) base h.sound.match leads

  module _ (before after : Transaction) (shared : SharedState) (was : map.get m.txs tx ≡ Some before) where
    -- an event that keeps the clean pages
    pub still : KeepsCleanPages now tx before after shared → IsStill bits_of (record m { shared = shared; txs = map.insert m.txs tx after })
    still (images, keeps) = record {
      images = images;
      base = h.base;
      sound = stays_sound now tx before after shared images h.sound was keeps;
      traced = clean_traced now tx before after shared images h.traced was keeps;
    }

    pub keeps_what_counts : (m' : ManagerFields P) → m'.shared ≡ shared → m'.txs ≡ map.insert m.txs tx after → KeepsCleanPages now tx before after shared → KeepsWhatCounts m m'
    keeps_what_counts m' same_shared same_txs (images, keeps) = record {
      clean = λ clean has.
          let step = record m { shared = shared; txs = map.insert m.txs tx after } in
          let old_pages = clean_pages h.images m.shared.pages.store.pages in
          let new_pages = clean_pages images shared.pages.store.pages in
          let same : (q : ℕ) → map.get clean q ≡ map.get new_pages q = λ q.
          same_clean m clean old_pages q has (pages_clean bits_of m h.images h.base h.sound)
          ∙ sym (ap (λ (f : ℕ → Option Page). f q) keeps.clean) in
          let now_clean = pages_clean bits_of step images h.base (stays_sound now tx before after shared images h.sound was keeps) in
          let is = clean_alike step new_pages clean same now_clean in
          record {
            put_back = λ q first kept. is.put_back q first (subst (λ (t : Table). KeepsImage t q first) same_txs kept);
            as_stored = λ q none. is.as_stored q (subst (λ (t : Table). KeepsNoImage t q) same_txs none)
                ∙ sym (ap (λ (k : SharedState). map.get k.pages.store.pages q) same_shared);
          };
      items = ap (λ (k : SharedState). k.history.items) same_shared ∙ keeps.items;
      held = ap (λ (k : SharedState). k.objects.held) same_shared ∙ keeps.held;
    }

    -- what the manager is then, where this was told
    abbrev pub core : Answer → ManagerFields P
    core told = record m { shared = shared; txs = txs_after told tx (map.insert m.txs tx after); active = active_after told tx m.active }

    abbrev StillBy : Answer → Type 0
    StillBy told = IsStill bits_of (record m { shared = shared; txs = txs_after told tx (map.insert m.txs tx after); active = active_after told tx m.active })

    -- the operation that is pending
    asked_here : (o : OperationFields) (op : ObjOp) → before.at ≡ At.Pending o → o.request ≡ Do op → IsOpenAt m.txs tx (IsPendingWith op)
    asked_here o op pending_at asked = record { one = before; there = was; is_at = subst (IsPendingWith op) (sym pending_at) asked }

    done : (o : OperationFields) (reply : ObjReply) → EndsPending now tx o before after shared reply → StillBy (Answer.Done reply) × LeavesBase (Answer.Done reply) m (core (Answer.Done reply)) tx
    done o reply e =
        let d = done_sound now tx o before after shared reply h.sound was e in
        let number = (h.sound.fits tx before was).number in
        let makes : MakesStep m (core (Answer.Done reply)) tx (e.ends.op, e.ends.reply) = record {
          pending = asked_here o e.ends.op e.pending e.ends.asked;
          adds = record {
            items = e.ends.tells.1.items ∙ ap (λ (n : ℕ). m.shared.history.items ++ TraceItem.Op n (e.ends.op, e.ends.reply) ∷ []) number;
            leads = λ base leads. (d.0, subst (λ (b : Base). Step b (e.ends.op, e.ends.reply) d.0) (sym (same_base base leads)) d.1, d.2.match.records.history);
          };
        } in (
          record { images = map.insert h.images tx map.empty; base = d.0; sound = d.2; traced = done_traced now tx o before after shared reply d.0 h.sound h.traced was e },
          (e.ends.op, subst (λ (r : ObjReply). MakesStep m (core (Answer.Done reply)) tx (e.ends.op, r)) (sym e.ends.tells.0) makes),
        )

    ends_pending : (o next : OperationFields) (reply : ObjReply) (between : SharedState) → before.at ≡ At.Pending o → after.at ≡ At.Idle → shared ≡ between
        → Ends o (tx_state_of before m.shared) (tx_state_of after between) (Answer.Done reply) → EndsPending now tx o before after shared reply
    ends_pending o next reply between pending_at idle same ends = record {
      pending = pending_at;
      ends = subst (λ (k : SharedState). Ends o (tx_state_of before m.shared) (tx_state_of after k) (Answer.Done reply)) (sym same) ends;
      idle = idle;
    }

    -- it is not done, and this may be told
    not_done : (o : OperationFields) (told : Answer) → before.at ≡ At.Pending o → StepsPending (context_of (abstract_state_of now) tx) o before after m.shared shared told
        → ((reply : ObjReply) → told ≡ Answer.Done reply → ⊥) → KeepsCleanPages now tx before after shared
    not_done o told pending_at steps not = not_done_sound now tx o before after shared told h.sound was pending_at steps not

    by_pending : (o : OperationFields) (told : Answer) → before.at ≡ At.Pending o → StepsPending (context_of (abstract_state_of now) tx) o before after m.shared shared told → StillBy told × LeavesBase told m (core told) tx
    by_pending o Answer.Going pending_at steps =
        let k = not_done o Answer.Going pending_at steps (λ reply is. cc) in (still k, keeps_what_counts (core Answer.Going) refl refl k)
    by_pending o (Answer.Waiting page by) pending_at steps =
        let k = not_done o (Answer.Waiting page by) pending_at steps (λ reply is. cc) in (still k, keeps_what_counts (core (Answer.Waiting page by)) refl refl k)
    by_pending o (Answer.Refused reason) pending_at steps =
        let k = not_done o (Answer.Refused reason) pending_at steps (λ reply is. cc) in (still k, keeps_what_counts (core (Answer.Refused reason)) refl refl k)
    by_pending o (Answer.Blocked by) pending_at steps =
        let k = not_done o (Answer.Blocked by) pending_at steps (λ reply is. cc) in
        let ends = steps.tells.0 in
        let there = reply_is_step now tx o before ends.op ends.reply h.sound was pending_at ends.asked ends.ready in (
          still k,
          (
            keeps_what_counts (core (Answer.Blocked by)) refl refl k,
            (
              (ends.op, ends.reply),
              record {
                pending = asked_here o ends.op pending_at ends.asked;
                blocked = record {
                  steps = λ base leads. (there.0, subst (λ (b : Base). Step b (ends.op, ends.reply) there.0) (sym (same_base base leads)) there.1);
                  lowest = subst (λ (n : ℕ). IsLowestClash m.shared.objects.held n (ends.op, ends.reply) by) (h.sound.fits tx before was).number ends.tells.lowest;
                };
              },
            ),
          ),
        )
    by_pending o (Answer.Done reply) pending_at steps = done o reply (ends_pending o steps.next reply steps.between pending_at steps.now_at steps.leaves steps.tells)
    by_pending o Answer.Undone pending_at steps = absurd steps.tells
    by_pending o Answer.Aborted pending_at steps = absurd steps.tells

    -- the last operation is taken back
    takes_back : (inverting next : Option OperationFields) (told : Answer) → before.at ≡ At.Undoing inverting → after.at ≡ At.Undoing next
        → EndsBack inverting next (tx_state_of before m.shared) (tx_state_of after shared) told → TakesLastBack now inverting before after shared told
    takes_back inverting next told back_at now_at ends = record {
      was_at = back_at;
      is_at = now_at ∙ ap At.Undoing ends.none;
      ends = subst (λ (n : Option OperationFields). EndsBack inverting n (tx_state_of before m.shared) (tx_state_of after shared) told) ends.none ends;
    }

    history_between : (inverting next : Option OperationFields) (told : Answer) (e : EndsBack inverting next (tx_state_of before m.shared) (tx_state_of after shared) told) → e.between.history ≡ m.shared.history
    history_between None next told e = ap (λ (k : SharedState). k.history) (e.fast refl).0
    history_between (Some o) next told e = (e.at_end o refl).3

    led_back : (told : Answer) (of_base : Base → State) (left : List (ObjOp × ObjReply)) (added : List TraceItem) (led : LedBack now before after of_base) → after.undo.entries ≡ left → HasBase (core told) led.base
        → shared.history.items ≡ m.shared.history.items ++ added → ((next : Transaction) → map.get (core told).txs tx ≡ Some next → next.undo.entries ≡ left) → TakesStepBack m (core told) tx left led.last added
    led_back told of_base left added led is_left leads_to items stands = record {
      one = before;
      there = was;
      entries = led.entries ∙ ap (λ (l : List (ObjOp × ObjReply)). l ++ led.last ∷ []) is_left;
      stands = stands;
      items = items;
      leads = λ base leads. (led.base, subst (λ (b : Base). Step led.base led.last b) (sym (same_base base leads)) led.step, leads_to);
    }

    stands_after : (next : Transaction) → map.get (map.insert m.txs tx after) tx ≡ Some next → next.undo.entries ≡ after.undo.entries
    stands_after next there =
        let both : Some after ≡ Some next = sym (inserted_here m.txs tx after) ∙ there in
        let same : next ≡ after = cc in
        ap (λ (t : Transaction). t.undo.entries) same

    nothing_after : (left : List (ObjOp × ObjReply)) (next : Transaction) → map.get (map.remove (map.insert m.txs tx after) tx) tx ≡ Some next → next.undo.entries ≡ left
    nothing_after left next there = let none : None ≡ Some next = sym (removed_here (map.insert m.txs tx after) tx) ∙ there in absurd cc

    undone : (inverting : Option OperationFields) → TakesLastBack now inverting before after shared Answer.Undone → StillBy Answer.Undone × LeavesBase Answer.Undone m (core Answer.Undone) tx
    undone inverting takes =
        let led = undone_sound now tx inverting before after shared h.sound was takes in
        let number : before.subtx.tx ≡ tx = (h.sound.fits tx before was).number in
        let history = history_between inverting None Answer.Undone takes.ends in (
          record { images = map.insert h.images tx map.empty; base = led.base; sound = led.sound; traced = undone_traced now tx inverting before after shared led.base h.sound h.traced was takes },
          (
            after.undo.entries,
            led.last,
            led_back Answer.Undone (with_undone now tx after shared) after.undo.entries (TraceItem.Back tx ∷ []) led refl led.sound.match.records.history (takes.ends.takes.items ∙ (λ p. (history p).items ++ TraceItem.Back (number p) ∷ [])) stands_after,
          ),
        )

    aborted : (inverting : Option OperationFields) → TakesLastBack now inverting before after shared Answer.Aborted → StillBy Answer.Aborted × LeavesBase Answer.Aborted m (core Answer.Aborted) tx
    aborted inverting takes =
        let led = aborted_sound now tx inverting before after shared h.sound was takes in
        let number : before.subtx.tx ≡ tx = (h.sound.fits tx before was).number in
        let history = history_between inverting None Answer.Aborted takes.ends in (
          subst (λ (t : Table). IsStill bits_of (record m { shared = shared; txs = t; active = active_after Answer.Aborted tx m.active })) (sym (removed_inserted m.txs tx after))
              (record { images = map.remove h.images tx; base = led.base; sound = led.sound; traced = last_undone_traced now tx inverting before after shared led.base h.sound h.traced was takes }),
          (
            led.last,
            led_back Answer.Aborted (with_aborted now tx shared) [] (TraceItem.Back tx ∷ TraceItem.Abort tx ∷ []) led takes.ends.takes.none led.sound.match.records.history
                (takes.ends.takes.items ∙ (λ p. (history p).items ++ TraceItem.Back (number p) ∷ TraceItem.Abort (number p) ∷ [])) (nothing_after []),
          ),
        )

    by_undoing : (inverting : Option OperationFields) (told : Answer) → before.at ≡ At.Undoing inverting → StepsBack (context_of (abstract_state_of now) tx) inverting before after m.shared shared told
        → StillBy told × LeavesBase told m (core told) tx
    by_undoing inverting Answer.Going back_at steps =
        let k = inverse_sound now tx inverting before after shared Answer.Going h.sound was back_at steps (λ is. cc) (λ is. cc) in (still k, keeps_what_counts (core Answer.Going) refl refl k)
    by_undoing inverting (Answer.Waiting page by) back_at steps =
        let k = inverse_sound now tx inverting before after shared (Answer.Waiting page by) h.sound was back_at steps (λ is. cc) (λ is. cc) in
        (still k, keeps_what_counts (core (Answer.Waiting page by)) refl refl k)
    by_undoing inverting Answer.Undone back_at steps = undone inverting (takes_back inverting steps.next Answer.Undone back_at steps.now_at steps.tells)
    by_undoing inverting Answer.Aborted back_at steps = aborted inverting (takes_back inverting steps.next Answer.Aborted back_at steps.now_at steps.tells)
    by_undoing inverting other back_at steps = absurd steps.tells

    by_at : (a : At) (told : Answer) → before.at ≡ a → TellsAt a (context_of (abstract_state_of now) tx) before after m.shared shared told → StillBy told × LeavesBase told m (core told) tx
    by_at At.Idle told is tells = absurd tells
    by_at (At.Pending o) told is tells = by_pending o told is tells
    by_at (At.Undoing inverting) told is tells = by_undoing inverting told is tells

    -- it is a manager again
    manager_by : (told : Answer) → KeepsCounts m.shared shared → StillBy told → IsManager bits_of (core told)
    manager_by Answer.Aborted counts is =
        let same = removed_inserted m.txs tx after in
        subst (λ (t : Table). IsManager bits_of (record m { shared = shared; txs = t; active = active_after Answer.Aborted tx m.active })) (sym same)
        (removed_keeps bits_of m h tx m.commits before shared was counts.locks counts.pages (h.limits.counted ∙ sym counts.commits) (omega arith)
        (subst (λ (t : Table). IsStill bits_of (record m { shared = shared; txs = t; active = active_after Answer.Aborted tx m.active })) same is))
    manager_by other counts is = changed_keeps bits_of m h tx before after shared was counts is

    pub all_by : (told : Answer) → TellsAt before.at (context_by bits_of m.root m.active before.subtx.tx) before after m.shared shared told → IsManager bits_of (core told) × LeavesBase told m (core told) tx
    all_by told tells =
        let number = (h.sound.fits tx before was).number in
        let here = by_at before.at told refl (subst (λ (n : ℕ). TellsAt before.at (context_by bits_of m.root m.active n) before after m.shared shared told) number tells) in
        (manager_by told (step_counts before.at (context_by bits_of m.root m.active before.subtx.tx) before after m.shared shared told tells) here.0, here.1)

  -- **A step keeps what is always true, and does to the base what its answer says.**
  pub step_keeps : (m' : ManagerFields P) (told : Answer) → HasStepped bits_of m m' tx told → IsManager bits_of m' × LeavesBase told m m' tx
  step_keeps m' told d =
      let c = d.steps.changes in
      let all = all_by c.before c.after m'.shared c.was told d.steps.tells in
      let same : m' ≡ core c.before c.after m'.shared c.was told = d.rest ∙ (λ p. record m { shared = m'.shared; txs = txs_after told tx (c.is p); active = active_after told tx m.active }) in
      (same_manager bits_of m' (core c.before c.after m'.shared c.was told) same all.0, subst (λ (n : ManagerFields P). LeavesBase told m n tx) (sym same) all.1)
