-- Steps of a split, as steps of the walk whose bucket is split
use Rattle.std.proofs.Common.{ℕ, ◌≡◌, ◌<◌, ◌≤◌, true, false, Option, None, Some, refl, sym, ◌∙◌, ap, subst, inl, inr, arith, ◌↔◌}
use Rattle.std.specs.FinMap as map
use Rattle.mlt_hash.{specs.Steps.IsSameWalk, specs.Splitting.OfSplit, specs.Steps.LocksIfFound, specs.Steps.TellsOfPath, proofs.StepsLeft.some_is_one}
use Rattle.mlt_hash.proofs.Names.{cases_eq, false≢true, Mode, Exclusive, Refusal, Agrees, over, can_write, HasFileOver, MayStep, LocalState, TouchesOnePage, view_of, step_keeps_tx, agrees_over, may_write, IsUnderWay, MayAdvance, SplitFields, steps_left, SplitTarget, IsDone, IsMaking, GoesOn, Rests, SplitAnswer, WalkContext, HasRead, HoldsByPass, IsAdding, IsSplitting, IsStanding, MayWalk, Stands, StaysNarrow, WalkFields, split_target, view_for, page_of, SplitCloses, SplitGoesOn, TellsOfAdding, TellsOfSplitting, WalkStep, walk_step, HasFound, steps_to_bucket, WalkAnswer, Pass, Phase}
use Rattle.mlt_page_locks.{specs.LockTables.LockTable, proofs.LockLaws.can_write-granted, specs.Requests.granted}
use Rattle.mlt_hash_access.{specs.PageSteps.LocksAtMost, specs.PageSteps.WritesAtMost, proofs.Views.holds_exclusively}
use Rattle.mlt_hash_split.specs.{Steps.IsLeft, Steps.Touches, Tells.Tells, declared.phase.SplitPhase.SplitPhase}
use Rattle.mlt_hash.proofs.Passed.{StepsOn, holds_on, narrow_keeps_header, reads_on, steps_by_split}

-- a lock more takes no right away
granted_keeps : (locks new : LockTable) (tx q root : ℕ) (mode : Mode) → new ≡ granted locks tx q mode → can_write locks tx root ≡ true → can_write new tx root ≡ true
granted_keeps locks new tx q root mode is held = ap (λ (t : LockTable). can_write t tx root) is ∙ grind (arith, can_write-granted locks tx q mode tx root, held)

locks_keep : (old mid : LocalState) (q root : ℕ) → LocksAtMost old mid q → can_write old.locks old.running.tx root ≡ true → can_write mid.locks old.running.tx root ≡ true
locks_keep old mid q root (inl same) held = ap (λ (m : LocalState). can_write m.locks old.running.tx root) same ∙ held
locks_keep old mid q root (inr lock) held = granted_keeps old.locks mid.locks old.running.tx q root lock.0 lock.1.locks held

writes_keep : (mid new : LocalState) (q tx root : ℕ) → WritesAtMost mid new q → can_write mid.locks tx root ≡ true → can_write new.locks tx root ≡ true
writes_keep mid new q tx root (inl same) held = ap (λ (m : LocalState). can_write m.locks tx root) same ∙ held
writes_keep mid new q tx root (inr write) held = ap (λ (t : LockTable). can_write t tx root) write.1.locks ∙ held

-- what the transaction may write before a step it may write afterwards
step_keeps_right : (old new : LocalState) (root : ℕ) → TouchesOnePage old new → can_write old.locks old.running.tx root ≡ true → can_write new.locks old.running.tx root ≡ true
step_keeps_right old new root (q, inl step) held = writes_keep step.0 new q old.running.tx root step.2 (locks_keep old step.0 q root step.1 held)
step_keeps_right old new root (q, inr make) held = granted_keeps old.locks new.locks old.running.tx q root Exclusive make.1.locks held

-- **A page that is held exclusively stays so through a step.**
pub stays_exclusive_in_step : (old new : LocalState) (root : ℕ) → MayStep old → TouchesOnePage old new → map.get (view_of old).modes root ≡ Some Exclusive → map.get (view_of new).modes root ≡ Some Exclusive
stays_exclusive_in_step old new root may touches held =
    let right : can_write new.locks old.running.tx root ≡ true = step_keeps_right old new root touches (may_write old root held) in
    holds_exclusively new root (ap (λ tx. can_write new.locks tx root) (step_keeps_tx old new touches) ∙ right)

-- where a walk that splits stands
splitting_at : (context : WalkContext) (walk : WalkFields) (old : LocalState) (value room_depth : ℕ) → walk.phase ≡ Phase.Splitting value room_depth → IsStanding context walk (view_for context old) → IsSplitting context walk (view_for context old) room_depth
splitting_at context walk old value room_depth phase stands = subst (λ p. Stands p context walk (view_for context old)) phase stands

-- a walk that splits may go on with its split
pub may_advance : (context : WalkContext) (walk : WalkFields) (old : LocalState) (value room_depth : ℕ) (was : SplitFields) → walk.phase ≡ Phase.Splitting value room_depth → walk.split ≡ Some was → MayWalk context old walk → MayAdvance (split_target context walk room_depth) old was
may_advance context walk old value room_depth was phase was_is ready =
    let splits = splitting_at context walk old value room_depth phase ready.stands in
    record {
      may = ready.may;
      written = ready.written;
      file = ready.file;
      under_way = subst (λ (s : SplitFields). IsUnderWay (split_target context walk room_depth) (view_for context old) s) (some_is_one splits.split was walk.split splits.split_is was_is) splits.under_way;
    }

module _ (context : WalkContext) (walk after : WalkFields) (old new : LocalState) (value room_depth : ℕ) (was : SplitFields) (phase : walk.phase ≡ Phase.Splitting value room_depth) (stands : IsStanding context walk (view_for context old)) (was_is : walk.split ≡ Some was) (may : MayStep old) (file : HasFileOver context.bits context.root context.before.written old) (touches : TouchesOnePage old new) (done : IsDone was.phase (split_target context walk room_depth) old new was) where
  splits : IsSplitting context walk (view_for context old) room_depth
  splits = splitting_at context walk old value room_depth phase stands

  same_split : splits.split ≡ was
  same_split = some_is_one splits.split was walk.split splits.split_is was_is

  narrow_before : walk.pass ≡ Pass.Narrow → StaysNarrow context.root (view_for context old) room_depth was.depth was.directory_depth
  narrow_before narrow = subst (λ (s : SplitFields). StaysNarrow context.root (view_for context old) room_depth s.depth s.directory_depth) same_split (splits.narrow narrow)

  way : IsUnderWay (split_target context walk room_depth) (view_for context old) was
  way = subst (λ (s : SplitFields). IsUnderWay (split_target context walk room_depth) (view_for context old) s) same_split splits.under_way

  shallow_before : was.directory_depth ≤ context.max_depth
  shallow_before = subst (λ (s : SplitFields). s.directory_depth ≤ context.max_depth) same_split splits.shallow

  agreed : Agrees (view_for context old).seen (over file.clean context.before.written)
  agreed = agrees_over context.before.written old file.clean may file.is_clean

  deep_before : was.depth < room_depth
  deep_before = (way.begins (over file.clean context.before.written) agreed file.form).deep

  step : StepsOn walk (view_for context old) (view_for context new)
  step = steps_by_split context walk old new room_depth was may (over file.clean context.before.written) agreed file.form way None splits.read splits.holds splits.later narrow_before touches done

  abbrev read_now : HasRead context walk.key (view_for context new) None
  read_now = reads_on context walk (view_for context old) (view_for context new) step None splits.read

  holds_now : HoldsByPass context.before.held walk.pass walk.mode context.root read_now.dir read_now.bucket (view_for context new)
  holds_now = holds_on context walk (view_for context old) (view_for context new) step None splits.read splits.holds

  header_kept : walk.pass ≡ Pass.Narrow → (view_for context new).own context.root ≡ None
  header_kept narrow = narrow_keeps_header context walk old new room_depth was may (over file.clean context.before.written) agreed file.form way None splits.read (narrow_before narrow) done

  wide_now : walk.pass ≡ Pass.Wide → map.get (view_for context new).modes context.root ≡ Some Exclusive
  wide_now wide = stays_exclusive_in_step old new context.root may touches (splits.wide wide)

  is_same : (next : Phase) (split : Option SplitFields) → after ≡ record walk { phase = next; split = split } → IsSameWalk walk after
  is_same next split is = record { key = ap (λ (w : WalkFields). w.key) is; mode = ap (λ (w : WalkFields). w.mode) is; pass = ap (λ (w : WalkFields). w.pass) is }

  -- **The split goes on.**
  pub split_goes_on : (is : SplitFields) → after ≡ record walk { split = Some is } → GoesOn (split_target context walk room_depth) new was is → SplitGoesOn context new walk after value room_depth
  split_goes_on is after_is goes =
      let here : IsSplitting context (record walk { split = Some is }) (view_for context new) room_depth = record {
        split = is;
        split_is = refl;
        read = read_now;
        holds = holds_now;
        shallow = let same = goes.directory_depth in omega (arith, shallow_before, same);
        under_way = goes.under_way;
        most = splits.most;
        later = splits.later;
        narrow = λ narrow. let before = narrow_before narrow in let same = goes.directory_depth in let depth = goes.depth in record {
          enough = let enough = before.enough in omega (arith, enough, same);
          one_page = let one = before.one_page in omega (arith, one, same, depth);
          unwritten = header_kept narrow;
        };
        wide = wide_now;
      } in
      record {
        on = record { same = is_same _ _ after_is; stands = subst (λ (w : WalkFields). Stands w.phase context w (view_for context new)) (sym after_is) (subst (λ p. Stands p context (record walk { split = Some is }) (view_for context new)) (sym phase) here) };
        phase = ap (λ (w : WalkFields). w.phase) after_is ∙ phase;
        was = was;
        is = is;
        was_is = was_is;
        is_is = ap (λ (w : WalkFields). w.split) after_is;
        fewer = goes.fewer;
        depth = goes.depth;
        directory_depth = goes.directory_depth;
      }

  -- the directory is no deeper than it may be
  within_limit : (n : ℕ) (rests : Rests (split_target context walk room_depth) new was n) → rests.header.depth ≤ context.max_depth
  within_limit n rests =
      elim (cases_eq was.depth was.directory_depth) [
        | inl deep ↦ let is = rests.doubled deep in let most = splits.most in omega (arith, is, deep, deep_before, most)
        | inr shallow ↦ let is = rests.in_place shallow in omega (arith, is, shallow_before)
      ]

  -- **The split closes.**
  pub split_closes_walk : (n : ℕ) (split : Option SplitFields) → after ≡ record walk { phase = Phase.Adding value n room_depth false; split = split } → Rests (split_target context walk room_depth) new was n → steps_left was ≡ 1 → SplitCloses context new walk after value room_depth
  split_closes_walk n split after_is rests last =
      let here : IsAdding context (record walk { phase = Phase.Adding value n room_depth false; split = split }) (view_for context new) n room_depth false = record {
        header = rests.header;
        fields = rests.bucket;
        read = read_now;
        holds = holds_now;
        shallow = within_limit n rests;
        rest = rests.rest;
        most = splits.most;
        unsplit_is = λ first. absurd (false≢true first);
        later = splits.later;
        narrow = λ narrow. let before = narrow_before narrow in let enough = before.enough in
            let kept = rests.in_place (λ (same : was.depth ≡ was.directory_depth). omega (arith, deep_before, enough, same)) in
            let deeper = rests.deeper in record {
              enough = omega (arith, enough, kept);
              one_page = let one = before.one_page in omega (arith, one, kept, deeper);
              unwritten = header_kept narrow;
            };
        wide = wide_now;
      } in
      record {
        on = record { same = is_same _ _ after_is; stands = subst (λ (w : WalkFields). Stands w.phase context w (view_for context new)) (sym after_is) here };
        bucket = n;
        phase = ap (λ (w : WalkFields). w.phase) after_is;
        was = was;
        was_is = was_is;
        last = last;
        rests = rests;
      }

-- the page of a second half is not made, and nothing has changed
making_leaves : (phase : SplitPhase) (target : SplitTarget) (old new : LocalState) → IsMaking phase → IsLeft phase target old new → new ≡ old
making_leaves (SplitPhase.SecondHalf place) target old new making left = left
making_leaves other target old new making left = absurd making

module _ (context : WalkContext) (walk after : WalkFields) (old new : LocalState) (value room_depth : ℕ) (was : SplitFields) (was_is : walk.split ≡ Some was) where
  -- **A step of the split is refused.**
  pub split_is_refused : (target : SplitTarget) (is : SplitFields) (why : Refusal) → target ≡ split_target context walk room_depth → after ≡ record walk { split = Some is } → Tells target old new was is (SplitAnswer.Refused why) → Touches (SplitAnswer.Refused why) target old new was
      → TellsOfSplitting context (walk_step old new walk after) value room_depth (WalkAnswer.Refused why)
  split_is_refused target is Refusal.NoRoom same after_is tells left = ((was, was_is, tells.0), making_leaves was.phase target old new tells.0 left, tells.1)
  split_is_refused target is Refusal.OutOfMemory same after_is tells left = (refl, (was, was_is, subst (λ (a : SplitTarget). IsLeft was.phase a old new) same left))
  split_is_refused target is why same after_is tells left = (tells, (was, was_is, subst (λ (a : SplitTarget). IsLeft was.phase a old new) same left))

-- there is no room for a page just where the split's step makes one
pub no_room_in_split : {Full : Type 0} (walk : WalkFields) (was : SplitFields) (was_is : walk.split ≡ Some was) (told : SplitAnswer) → (told ≡ SplitAnswer.Refused Refusal.NoRoom) ↔ (IsMaking was.phase × Full) → (told ≡ SplitAnswer.Refused Refusal.NoRoom) ↔ (OfSplit walk (λ split. IsMaking split.phase) × Full)
no_room_in_split walk was was_is told exact = (
  λ refused. let both = exact.0 refused in ((was, was_is, both.0), both.1),
  λ both. exact.1 (subst (λ (s : SplitFields). IsMaking s.phase) (some_is_one both.0.0 was walk.split both.0.1 was_is) both.0.2, both.1),
)

-- a split and its walk tell the same refusal
pub refused_alike : (told : SplitAnswer) (why : Refusal) → told ≡ SplitAnswer.Refused why → (told ≡ SplitAnswer.Refused Refusal.NoRoom) ↔ (WalkAnswer.Refused why ≡ WalkAnswer.Refused Refusal.NoRoom)
refused_alike told why is = (
  λ room. ap WalkAnswer.Refused (reason_of why Refusal.NoRoom (sym is ∙ room)),
  λ room. is ∙ ap SplitAnswer.Refused (told_reason why Refusal.NoRoom room),
)
  where
    reason_of : (one other : Refusal) → SplitAnswer.Refused one ≡ SplitAnswer.Refused other → one ≡ other
    reason_of one other same = cc

    told_reason : (one other : Refusal) → WalkAnswer.Refused one ≡ WalkAnswer.Refused other → one ≡ other
    told_reason one other same = cc

-- a walk that has found its key takes no more steps to its bucket
pub none_left : (p : Phase) (found : Option ℕ) → HasFound p found → steps_to_bucket p ≡ 0
none_left (Phase.AtBucket bucket depth f) found is = refl
none_left other found is = absurd is

-- **Where a step finds the key, all that it did is to lock the bucket:** it is the last one to the bucket, and no other finds it.
pub locks_if_found : (old new : LocalState) (q : ℕ) (told : WalkAnswer) → LocksAtMost old new q → LocksIfFound old new q told
locks_if_found old new q (WalkAnswer.Found value) locks = locks
locks_if_found old new q other locks = tt

pub earlier_finds_none : (context : WalkContext) (old new : LocalState) (before after : WalkFields) (told : WalkAnswer) → 1 < steps_to_bucket before.phase → TellsOfPath context old new before after told → LocksIfFound old new (page_of after.phase) told
earlier_finds_none context old new before after (WalkAnswer.Found value) more tells =
    let fewer = tells.0.fewer in
    let none = none_left after.phase value tells.1 in
    absurd (omega (arith, more, fewer, none))
earlier_finds_none context old new before after other more tells = tt

pub adding_finds_none : (context : WalkContext) (step : WalkStep) (value bucket room_depth : ℕ) (told : WalkAnswer) → TellsOfAdding context step value bucket room_depth told → LocksIfFound step.old step.new (page_of step.after.phase) told
adding_finds_none context step value bucket room_depth (WalkAnswer.Found found) tells = absurd tells
adding_finds_none context step value bucket room_depth other tells = tt

pub splitting_finds_none : (context : WalkContext) (step : WalkStep) (value room_depth : ℕ) (told : WalkAnswer) → TellsOfSplitting context step value room_depth told → LocksIfFound step.old step.new (page_of step.after.phase) told
splitting_finds_none context step value room_depth (WalkAnswer.Found found) tells = absurd tells
splitting_finds_none context step value room_depth other tells = tt

-- a step to the bucket makes no page, and is refused none
pub path_has_room : (context : WalkContext) (old new : LocalState) (before after : WalkFields) (told : WalkAnswer) → TellsOfPath context old new before after told → told ≡ WalkAnswer.Refused Refusal.NoRoom → ⊥
path_has_room context old new before after told tells is = subst (λ (r : WalkAnswer). TellsOfPath context old new before after r) is tells
