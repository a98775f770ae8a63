use Rattle.std.proofs.Common.{ℕ, ◌≡◌, ap, subst, sym, ◌∙◌}
use Rattle.mlt_hash.proofs.Names.{is_ghost_of, Live, LocalState, local, view_of, view_over, WalkContext, Before, WalkFields, one_key, view_for, MayChange, RevivesFirst, SeesBucket, page_of}
use Rattle.mlt_hash.proofs.InPlace.{ReadsBucket, at_bucket_without, holds_bucket, plan_is_written, reads_bucket}
use Rattle.mlt_hash.proofs.Additions.{absent_from_bucket, absent_may_write, absent_plans, first_revival, ghost_has_plan, revive_tells}
use Rattle.mlt_hash.proofs.walk.Walk.revive.Goals as goal

abbrev before : goal.After-write_change-arg-3-1 → LocalState
before c = local c.args.subtx.now c.args.pages.now

pub held_bucket-number-requires-clause-at : goal.held_bucket-number-requires-clause-at
held_bucket-number-requires-clause-at c = at_bucket_without c.args.self.now.phase c.requires.found

pub held_bucket-number-requires-clause-held : goal.held_bucket-number-requires-clause-held
held_bucket-number-requires-clause-held c = holds_bucket c.requires.ready.0 c.args.self.now (local c.args.subtx.now c.args.pages.now) c.requires.ready.2.walks (at_bucket_without c.args.self.now.phase c.requires.found)

pub revive-requires : goal.revive-requires
revive-requires c =
    absent_from_bucket c.requires.ready.0 c.args.self.now (view_for c.requires.ready.0 (local c.args.subtx.now c.args.pages.now)) c.self.inside.key c.held_bucket-number.result.1.now c.requires.found c.requires.ready.2.walks.stands (reads_bucket c.requires.ready.0 c.args.self.now (local c.args.subtx.now c.args.pages.now) c.held_bucket-number.result.0 c.self.inside.key c.held_bucket-number.result.1.now c.requires.ready.2.walks (at_bucket_without c.args.self.now.phase c.requires.found) c.held_bucket-number.ensures.bucket c.held_bucket-number.ensures.number (ap (λ (w : WalkFields). w.key) c.self.view_is)).sees (ap (λ (w : WalkFields). w.key) c.self.view_is)

pub unreachable-requires : goal.unreachable-requires
unreachable-requires c =
    ghost_has_plan (record (one_key c.requires.ready.0) { tx = c.args.subtx.now.tx }) c.args.self.now (view_of (local c.args.subtx.now c.args.pages.now)) c.self.inside.key c.tx.result c.held_bucket-number.result.1.now c.requires.ghost_found (subst (λ (b : Before). SeesBucket c.args.self.now (view_over b.written (local c.args.subtx.now c.args.pages.now)) c.held_bucket-number.result.1.now) c.requires.ready.3 (reads_bucket c.requires.ready.0 c.args.self.now (local c.args.subtx.now c.args.pages.now) c.held_bucket-number.result.0 c.self.inside.key c.held_bucket-number.result.1.now c.requires.ready.2.walks (at_bucket_without c.args.self.now.phase c.requires.found) c.held_bucket-number.ensures.bucket c.held_bucket-number.ensures.number (ap (λ (w : WalkFields). w.key) c.self.view_is)).sees) (ap (λ (w : WalkFields). w.key) c.self.view_is) c.tx.ensures c.in_default.ensures.plan

reads : (c : goal.After-write_change-arg-3-1) (context : WalkContext) → MayChange context (before c) c.args.self.now → ReadsBucket context c.args.self.now (before c) c.held_bucket-number.result.0 c.self.inside.key c.held_bucket-number.result.1.now
reads c context may = reads_bucket context c.args.self.now (before c) c.held_bucket-number.result.0 c.self.inside.key c.held_bucket-number.result.1.now may.walks (at_bucket_without c.args.self.now.phase c.requires.found) c.held_bucket-number.ensures.bucket c.held_bucket-number.ensures.number (ap (λ (w : WalkFields). w.key) c.self.view_is)

pub write_change-requires-clause-held : goal.write_change-requires-clause-held
write_change-requires-clause-held c =
    absent_may_write c.requires.ready.0 c.args.self.now (before c) c.held_bucket-number.result.0 c.held_bucket-number.result.1.now (is_ghost_of c.self.inside.key c.tx.result) (Live c.self.inside.key c.args.value) c.in-Some.write c.requires.found c.requires.ready.2.walks.stands c.requires.ready.2.exclusive c.held_bucket-number.ensures.number c.in-Some.ensures.plan

pub write_change-requires-clause-planned : goal.write_change-requires-clause-planned
write_change-requires-clause-planned c =
    absent_plans c.requires.ready.0 c.args.self.now (before c) c.held_bucket-number.result.0 c.self.inside.key c.held_bucket-number.result.1.now (is_ghost_of c.self.inside.key c.tx.result) (Live c.self.inside.key c.args.value) c.in-Some.write c.requires.found (reads c c.requires.ready.0 c.requires.ready.2) c.in-Some.ensures.plan

pub returns-clause-writes : goal.returns-clause-writes
returns-clause-writes c =
    let after : LocalState = local c.write_change.new.subtx c.write_change.new.pages in
    plan_is_written (before c.before) after (page_of c.args.self.now.phase) c.held_bucket-number.result.0 c.held_bucket-number.result.1.now (is_ghost_of c.self.inside.key c.tx.result) (Live c.self.inside.key c.args.value) c.in-Some.write c.write_change.result c.held_bucket-number.ensures.number c.in-Some.ensures.plan c.write_change.ensures.writes

pub returns-clause-tells : goal.returns-clause-tells
returns-clause-tells c = λ context own may.
    let after : LocalState = local c.write_change.new.subtx c.write_change.new.pages in
    revive_tells context c.args.self.now c.write_change.new.walk (before c.before) after c.held_bucket-number.result.0 c.self.inside.key c.held_bucket-number.result.1.now c.in-Some.write c.write_change.result (reads c.before context may) c.requires.found c.args.value c.tx.result (c.tx.ensures ∙ sym own) c.in-Some.ensures.plan c.write_change.ensures.tells

pub returns-clause-slot : goal.returns-clause-slot
returns-clause-slot c =
    let context : WalkContext = c.requires.ready.0 in
    let own : context.tx ≡ c.args.subtx.now.tx = c.requires.ready.1 in
    let after : LocalState = local c.write_change.new.subtx c.write_change.new.pages in
    let takes = first_revival context c.args.self.now c.write_change.new.walk (before c.before) after c.held_bucket-number.result.0 c.self.inside.key c.held_bucket-number.result.1.now c.in-Some.write c.write_change.result (reads c.before context c.requires.ready.2) c.requires.found c.args.value c.tx.result (c.tx.ensures ∙ sym own) c.in-Some.ensures.plan c.requires.ready.3 c.write_change.ensures.tells in
    let by_tx = subst (λ (tx : ℕ). RevivesFirst tx (view_for context (before c.before)) (view_for context after) c.args.self.now (page_of c.args.self.now.phase) c.args.value) own takes in
    subst (λ (b : Before). RevivesFirst c.args.subtx.now.tx (view_over b.written (before c.before)) (view_over b.written after) c.args.self.now (page_of c.args.self.now.phase) c.args.value) c.requires.ready.3 by_tx
