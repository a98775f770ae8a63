use Rattle.std.proofs.Common.{◌≡◌, ℕ, List, ◌+◌, Some, is_some, sym, ap, ◌∙◌, arith}
use Rattle.mlt_hash.proofs.Names.{Page, LocalState, local, ReadsPage, view_of, rebased_reads_page, reads_held_after, reads_seen, over, directory_mode, IsHeaded, MayWalk, WalkFields, view_for, Phase}
use Rattle.mlt_hash.proofs.{Beside.few_before, Beside.few_beside, Paths.dir_there, Paths.placed, Readings.is_there, Readings.reads_clean, Standing.stands_at, path.read_directory.Given.Over, path.read_directory.Goals.Start}
use Rattle.mlt_hash.proofs.path.read_directory.Goals as goal

abbrev before : (g : Over) → Start g → LocalState
before g c = local c.args.subtx.now c.args.pages.now

abbrev ready : (g : Over) (c : Start g) → MayWalk g.context (before g c) c.args.walk.now
ready g c = c.requires.1.1.1.1.1

stands : (g : Over) (c : Start g) → IsHeaded g.context c.args.walk.now (view_for g.context (before g c)) c.args.number c.args.row c.args.depth
stands g c = stands_at g.context c.args.walk.now (view_for g.context (before g c)) (Phase.Headed c.args.number c.args.row c.args.depth) c.requires.1.1.1.1.0 (ready g c).stands

pub lock-requires-clause-few : goal.lock-requires-clause-few
lock-requires-clause-few g c =
    let s = (goal.at.lock-requires-clause-few g c).Start in
    few_beside (view_for g.context (before g s)) (stands g s).header (g.context.before.buckets + 1) (omega (arith, few_before s.args.walk.now.pass g.context.before (stands g s).goes_after)) (omega (arith, ((stands g s).shallow), ((ready g s).small))) (stands g s).among

-- the directory page is there
dir : (g : Over) (s : Start g) → (dir : List ℕ) × (over (ready g s).file.clean g.context.before.written s.args.number ≡ Some (Page.Dir dir))
dir g s = dir_there g.context s.args.walk.now (before g s) (ready g s).file.clean ((ready g s).bounded s.args.walk.now.key) (ready g s).may (ready g s).file.is_clean (ready g s).file.form s.args.number s.args.row s.args.depth (stands g s)

pub lock-requires-clause-there : goal.lock-requires-clause-there
lock-requires-clause-there g c =
    let s = (goal.at.lock-requires-clause-there g c).Start in
    is_there g.context.before.written (before g s) (ready g s).file.clean s.args.number s.args.number (ready g s).may (ready g s).written (ready g s).file.is_clean (λ _. s.args.number) (ap is_some (dir g s).1)

pub read_held_dir-dir-requires-clause-dir : goal.read_held_dir-dir-requires-clause-dir
read_held_dir-dir-requires-clause-dir g c =
    let s = (goal.at.read_held_dir-dir-requires-clause-dir g c).Start in
    let after = local c.args.subtx.now c.lock.new.pages in
    let sees = c.in_default.ensures.view in
    let reads = rebased_reads_page g.context.before.written (view_of (before g s)) (view_of after) (ready g s).written c.args.number c.directory_mode.result sees.0 sees.1 in
    let read = reads_clean g.context.before.written (before g s) after c.args.number c.directory_mode.result sees.0 (ready g s).file.clean c.lock.ensures.leaves.may (c.lock.ensures.leaves.clean (ready g s).file.clean (ready g s).file.is_clean) (stands g s).unwritten reads in
    ((dir g s).0, reads_held_after (view_of (before g s)) (view_of after) c.args.number c.directory_mode.result (Page.Dir (dir g s).0) sees (sym read ∙ (dir g s).1))

pub returns-clause-tells : goal.returns-clause-tells
returns-clause-tells g c =
    let s = (goal.at.returns-clause-tells g c).Start in
    let after = local c.args.subtx.now c.lock.new.pages in
    let walk : WalkFields = c.args.walk.now in
    let mode : c.directory_mode.result ≡ directory_mode walk.pass = c.directory_mode.ensures ∙ (λ i. directory_mode (c.walk.view_is i).pass) in
    let reads : ReadsPage (view_for g.context (before g s)) (view_for g.context after) c.args.number c.directory_mode.result (Some (Page.Dir c.read_held_dir-dir.result.now)) =
    rebased_reads_page g.context.before.written (view_of (before g s)) (view_of after) (ready g s).written c.args.number c.directory_mode.result (Some (Page.Dir c.read_held_dir-dir.result.now))
    (reads_seen (view_of (before g s)) (view_of after) c.args.number c.directory_mode.result (Page.Dir c.read_held_dir-dir.result.now) c.in_default.ensures.view c.read_held_dir-dir.ensures.reads) in (
      placed g.context walk _ (before g s) after c.directory_mode.result c.args.number c.args.depth c.args.row c.entry.result c.read_held_dir-dir.result.now ((ready g s).bounded walk.key) (ready g s).small (stands g s) mode reads c.entry.ensures c.requires.1.1.1.1.0 (ap (λ (w : WalkFields). record w { phase = Phase.Placed c.entry.result c.args.depth }) c.walk.view_is),
      omega arith,
    )
