-- A change that a walk makes alone: what is in the store then
use Rattle.std.proofs.Common.{◌≡◌, ℕ, ◌≤◌, Option, None, Some, sym, subst, ◌∙◌, arith}
use Rattle.mlt_hash_file.proofs.Names.{page_of, Before, Stands, WalkContext, WalkFields, view_for, WalkAnswer, Change, Phase, written_stays, LocalState, MayStep, Leaves, HasWritten, view_of, IsAlone, context_alone, pages_before, pages_since, ChangesValue, HasChanged, HasMade, IsHashFile, IsReadySince, header_of, over, Root, page_at, Page}
use Rattle.mlt_hash_form.proofs.HeldPages.{changed_values}
use Rattle.mlt_hash_split.specs.Rests.{held_page}
use Rattle.mlt_hash.specs.{Changes.IsChangedPhase, Changes.Makes, Changes.TellsOfChange, Passes.change_to, Passes.value_after, Walks.IsChanged, Walks.MayWalk}
use Rattle.mlt_hash_file.proofs.Alone.{alone_after_step, before_is_clean, sees_since, step_keeps_before, store_is_since}
use Rattle.mlt_hash_file.{proofs.AloneWalks.file_kept, specs.AloneWalks.TellsOfMaking}

-- what a walk holds stands over the pages that it goes by,
held_is_over : (context : WalkContext) (m : LocalState) (q : ℕ) (read : Page) → MayStep m → held_page (view_for context m) q ≡ Some read → over (pages_since context.before m) (view_for context m).own q ≡ Some read
held_is_over context m q read may reads = let agree = sees_since context.before m may q in grind (arith, agree, reads)

-- so it is in the store
pub held_is_stored : (context : WalkContext) (m : LocalState) (q : ℕ) (read : Page) → MayStep m → HasWritten context.before.written (view_of m) → held_page (view_for context m) q ≡ Some read → page_at m.store.pages q ≡ Some read
held_is_stored context m q read may written reads = (λ i. sym (store_is_since context.before m may written) i q) ∙ held_is_over context m q read may reads

-- **Where a walk has changed its bucket, the store has a file with the new value.**
changed_alone : (context : WalkContext) (m : LocalState) (walk : WalkFields) (bucket : ℕ) (done : Change) → IsAlone m → HasWritten context.before.written (view_of m) → IsHashFile context.bits (pages_since context.before m) context.root context.max_depth → IsChanged context walk (view_for context m) bucket done
    → HasChanged context m walk.key (value_after done)
changed_alone context m walk bucket done alone written file changed =
    let own : ℕ → Option Page = (view_for context m).own in
    let was : ℕ → Option Page = pages_since context.before m in
    let values = changed_values context.bits context.active context.root walk.key bucket changed.slot (value_after done) _ (view_for context m).seen changed.rest own was changed.changes (sees_since context.before m alone.may) file.form in
    let head = held_is_over context m context.root (Page.Head changed.header) alone.may changed.head in
    let shallow = subst (λ (p : Option Page). (header_of p).depth ≤ context.max_depth) (sym head) changed.shallow in
    subst (λ (pages : ℕ → Option Page). ChangesValue context.bits was pages context.root context.max_depth walk.key (value_after done)) (store_is_since context.before m alone.may written)
    (record { file = record { bounded = file.bounded; form = values.0; shallow = shallow; small = file.small }; here = values.1; others = values.2 })

-- what a walk made is in the store
pub made_alone : (context : WalkContext) (new : LocalState) (before after : WalkFields) (done : Change) → IsAlone new → HasWritten context.before.written (view_of new) → IsHashFile context.bits (pages_since context.before new) context.root context.max_depth → Makes context new before after done
    → HasMade context new before after (value_after done)
made_alone context new before after done alone written file makes =
    let changed : IsChanged context after (view_for context new) (page_of before.phase) done = subst (λ (phase : Phase). Stands phase context after (view_for context new)) makes.phase makes.stands in
    record {
      changed = subst (λ (key : ℕ). HasChanged context new key (value_after done)) makes.same.key (changed_alone context new after (page_of before.phase) done alone written file changed);
      same = makes.same;
      phase = subst IsChangedPhase (sym makes.phase) tt;
      stands = makes.stands;
    }

module _ {P : Type 0} (since : Before) (bits_of : P → ℕ → ℕ) (root : Root P) (m : LocalState) (walk : WalkFields) (alone : IsAlone m) (ready : IsReadySince since bits_of root m walk) where
  -- a transaction alone may go on with its walk, where the pages that it goes by are a hash file
  pub may_walk_alone : MayWalk (context_alone since bits_of root m) m walk
  may_walk_alone = record {
    bounded = ready.file.bounded;
    small = ready.file.small;
    may = alone.may;
    written = ready.written;
    file = record { clean = pages_before m; is_clean = before_is_clean m alone.may; form = ready.file.form };
    shallow = ready.file.shallow;
    stands = ready.stands;
  }

  -- what it makes then is in the store
  pub made_then : (new : LocalState) (after : WalkFields) (done : Change) → Leaves m new → Makes (context_alone since bits_of root m) new walk after done → HasMade (context_alone since bits_of root m) new walk after (value_after done)
  made_then new after done leaves makes =
      let file : IsHashFile (bits_of root.pseudo) (pages_since since new) root.page root.max_depth = file_kept since bits_of root m new (step_keeps_before m new alone leaves) ready.file in
      made_alone (context_alone since bits_of root m) new walk after done (alone_after_step m new alone leaves) (written_stays since.written m new alone.may leaves.touches ready.written) file makes

  -- **So is a change of the record that it has found.**
  pub change_alone : (new : LocalState) (after : WalkFields) (value : Option ℕ) (told : WalkAnswer) → Leaves m new → TellsOfChange (context_alone since bits_of root m) new walk after (change_to value) told → TellsOfMaking (context_alone since bits_of root m) new walk after value told
  change_alone new after (Some value) WalkAnswer.Changed leaves tells = made_then new after (Change.Set value) leaves tells
  change_alone new after None WalkAnswer.Changed leaves tells = made_then new after Change.Remove leaves tells
  change_alone new after value (WalkAnswer.Refused reason) leaves tells = (tells.0, tells.1)
  change_alone new after value other leaves tells = absurd tells
