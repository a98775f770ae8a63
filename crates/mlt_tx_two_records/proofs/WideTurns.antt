-- What a step of a walk is, or one that locks its bucket and a write of it, seen as one turn: over whatever was written before
use Rattle.std.proofs.Common.{ℕ, ◌<◌, arith}
use Rattle.mlt_tx_two_records.proofs.Names.{FilePages, Agrees, over, page_count, LocalState, Leaves, LocksAtMost, TouchesOnePage, TakesTurn, written_stays, lock_and_write_touch, step_turns, WalkContext, IsStanding, MayWalk, WalkFields, view_for, standing_holds_few}
use Rattle.mlt_hash_access.{specs.PageSteps.WritesAtMost, proofs.Since.agrees_over, proofs.AllEvents.step_adds_one_page}

-- the clean pages, with what was written before over them, agree with what is seen
abbrev pub clean_over : (context : WalkContext) (m : LocalState) (walk : WalkFields) → MayWalk context m walk → FilePages
clean_over context m walk may = over may.file.clean context.before.written

pub clean_agrees : (context : WalkContext) (m : LocalState) (walk : WalkFields) → (may : MayWalk context m walk) → Agrees (view_for context m).seen (clean_over context m walk may)
clean_agrees context m walk may = agrees_over context.before.written m may.file.clean may.may may.file.is_clean

-- and so they do after a step
pub agrees_after : (context : WalkContext) (old new : LocalState) (walk : WalkFields) → (may : MayWalk context old walk) → Leaves old new → Agrees (view_for context new).seen (clean_over context old walk may)
agrees_after context old new walk may leaves = agrees_over context.before.written new may.file.clean leaves.may (leaves.clean may.file.clean may.file.is_clean)

-- a walk that may go on holds fewer than 300 pages
pub few_held : (context : WalkContext) (m : LocalState) (walk : WalkFields) → MayWalk context m walk → page_count m.locks m.running.tx < 300
few_held context m walk may = standing_holds_few context walk (view_for context m) (clean_over context m walk may) may.stands (clean_agrees context m walk may) may.file.form

-- a touch of one page is a turn
touch_turns : (context : WalkContext) (old new : LocalState) (walk : WalkFields) → MayWalk context old walk → TouchesOnePage old new → TakesTurn old new
touch_turns context old new walk may touches = step_turns old new touches (omega (arith, few_held context old walk may, step_adds_one_page old new touches))

-- **A step of a walk is a turn.**
pub one_step_turns : (context : WalkContext) (old new : LocalState) (walk : WalkFields) → MayWalk context old walk → Leaves old new → TakesTurn old new
one_step_turns context old new walk may leaves = touch_turns context old new walk may leaves.touches

-- **So are the lock of the bucket and its write.**
pub lock_and_write_turn : (context : WalkContext) (old mid new : LocalState) (walk : WalkFields) (q : ℕ) → MayWalk context old walk → LocksAtMost old mid q → WritesAtMost mid new q → TakesTurn old new
lock_and_write_turn context old mid new walk q may locks writes = touch_turns context old new walk may (lock_and_write_touch old mid new q locks writes)

-- **It may go on after its step.**
pub walks_on : (context : WalkContext) (old new : LocalState) (walk after : WalkFields) → MayWalk context old walk → Leaves old new → IsStanding context after (view_for context new) → MayWalk context new after
walks_on context old new walk after may leaves stands = record {
  bounded = may.bounded;
  small = may.small;
  may = leaves.may;
  written = written_stays context.before.written old new may.may leaves.touches may.written;
  file = record { clean = may.file.clean; is_clean = leaves.clean may.file.clean may.file.is_clean; form = may.file.form };
  shallow = may.shallow;
  stands = stands;
}
