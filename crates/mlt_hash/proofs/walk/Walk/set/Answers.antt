use Rattle.std.proofs.Common.{ap, sym, subst, ◌∙◌}
use Rattle.mlt_hash.proofs.Names.{is_live_of, LocalState, slot_after, local, WalkContext, WalkFields, view_for, MayChange, TellsOfWrite, page_of}
use Rattle.mlt_hash.specs.Passes.{change_to}
use Rattle.mlt_hash.proofs.InPlace.{at_bucket_with, holds_bucket, reads_bucket, ReadsBucket, plan_is_written, record_has_plan, record_may_write, record_plans, set_tells}
use Rattle.mlt_hash.proofs.walk.Walk.set.Goals as goal

abbrev before : goal.After-write_change-arg-3-1 → LocalState
before c = local c.args.subtx.now c.args.pages.now

pub held_bucket-number-requires-clause-at : goal.held_bucket-number-requires-clause-at
held_bucket-number-requires-clause-at c = at_bucket_with c.args.self.now.phase c.requires.found

pub held_bucket-number-requires-clause-held : goal.held_bucket-number-requires-clause-held
held_bucket-number-requires-clause-held c = holds_bucket c.requires.ready.0 c.args.self.now (local c.args.subtx.now c.args.pages.now) c.requires.ready.2.walks (at_bucket_with c.args.self.now.phase c.requires.found)

pub unreachable-requires : goal.unreachable-requires
unreachable-requires c =
    record_has_plan c.requires.ready.0 c.args.self.now (view_for c.requires.ready.0 (local c.args.subtx.now c.args.pages.now)) c.self.inside.key c.held_bucket-number.result.1.now c.requires.found c.requires.ready.2.walks.stands (reads_bucket c.requires.ready.0 c.args.self.now (local c.args.subtx.now c.args.pages.now) c.held_bucket-number.result.0 c.self.inside.key c.held_bucket-number.result.1.now c.requires.ready.2.walks (at_bucket_with c.args.self.now.phase c.requires.found) c.held_bucket-number.ensures.bucket c.held_bucket-number.ensures.number (ap (λ (w : WalkFields). w.key) c.self.view_is)).sees (ap (λ (w : WalkFields). w.key) c.self.view_is) c.in_default.ensures.plan

reads : (c : goal.After-write_change-arg-3-1) (context : WalkContext) → MayChange context (before c) c.args.self.now → ReadsBucket context c.args.self.now (before c) c.held_bucket-number.result.0 c.self.inside.key c.held_bucket-number.result.1.now
reads c context may = reads_bucket context c.args.self.now (before c) c.held_bucket-number.result.0 c.self.inside.key c.held_bucket-number.result.1.now may.walks (at_bucket_with c.args.self.now.phase c.requires.found) c.held_bucket-number.ensures.bucket c.held_bucket-number.ensures.number (ap (λ (w : WalkFields). w.key) c.self.view_is)

pub write_change-requires-clause-held : goal.write_change-requires-clause-held
write_change-requires-clause-held c =
    record_may_write c.requires.ready.0 c.args.self.now (before c) c.held_bucket-number.result.0 c.held_bucket-number.result.1.now (is_live_of c.self.inside.key) (slot_after (change_to c.args.value) c.self.inside.key c.tx.result) c.in-Some.write c.requires.found c.requires.ready.2.walks.stands c.requires.ready.2.exclusive c.held_bucket-number.ensures.number c.in-Some.ensures.plan

pub write_change-requires-clause-planned : goal.write_change-requires-clause-planned
write_change-requires-clause-planned c =
    record_plans c.requires.ready.0 c.args.self.now (before c) c.held_bucket-number.result.0 c.self.inside.key c.held_bucket-number.result.1.now (is_live_of c.self.inside.key) (slot_after (change_to c.args.value) c.self.inside.key c.tx.result) c.in-Some.write c.requires.found (reads c c.requires.ready.0 c.requires.ready.2) c.in-Some.ensures.plan

pub returns-clause-writes : goal.returns-clause-writes
returns-clause-writes c =
    let after : LocalState = local c.write_change.new.subtx c.write_change.new.pages in
    plan_is_written (before c.before) after (page_of c.args.self.now.phase) c.held_bucket-number.result.0 c.held_bucket-number.result.1.now (is_live_of c.self.inside.key) (slot_after (change_to c.args.value) c.self.inside.key c.tx.result) c.in-Some.write c.write_change.result c.held_bucket-number.ensures.number c.in-Some.ensures.plan c.write_change.ensures.writes

pub returns-clause-tells : goal.returns-clause-tells
returns-clause-tells c = λ context own may.
    let after : LocalState = local c.write_change.new.subtx c.write_change.new.pages in
    set_tells context c.args.self.now c.write_change.new.walk (before c.before) after c.held_bucket-number.result.0 c.self.inside.key c.held_bucket-number.result.1.now c.in-Some.write c.write_change.result (reads c.before context may) c.args.value c.tx.result (c.tx.ensures ∙ sym own) c.requires.found c.in-Some.ensures.plan
    (subst (λ done. TellsOfWrite (before c.before) after c.args.self.now c.write_change.new.walk c.in-Some.write done c.write_change.result) c.done_to_set.ensures c.write_change.ensures.tells)
