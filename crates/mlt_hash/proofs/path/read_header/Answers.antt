use Rattle.std.proofs.Common.{◌≡◌, ℕ, ◌/◌, ◌%◌, slice_index, Some, refl, sym, ap, subst, ◌∙◌, arith}
use Rattle.mlt_hash.proofs.Names.{first_bits, HeadFields, Page, HasCleanFile, LocalState, local, no_writes, ReadsPage, view_of, unwritten_anew, reads_held_after, reads_seen, header_mode, Before, IsAtStart, MayWalk, WalkFields, context_after, nothing_before, one_key, view_for, Phase}
use Rattle.mlt_hash.proofs.{Paths.head_there, Paths.headed, Paths.header_there, Readings.few_held, Readings.is_there, Readings.none_held, Readings.reads_clean, Standing.stands_at, path.read_header.Given.Over, path.read_header.Goals.Start}
use Rattle.mlt_hash.proofs.path.read_header.Goals as goal

abbrev before : (g : Over) → Start g → LocalState
before g c = local c.args.subtx.now c.args.pages.now

-- the key is the walk's first, so nothing was done before
anew : (g : Over) (c : Start g) → g.context.before ≡ nothing_before
anew g c = (stands_at g.context c.args.walk.now (view_for g.context (before g c)) Phase.Start c.requires.1.1.1.1.0 c.requires.1.1.1.1.1.stands).1

ready : (g : Over) (c : Start g) → MayWalk (one_key g.context) (before g c) c.args.walk.now
ready g c = subst (λ (b : Before). MayWalk (context_after b g.context) (before g c) c.args.walk.now) (anew g c) c.requires.1.1.1.1.1

file : (g : Over) (c : Start g) → HasCleanFile g.context.bits g.context.root (before g c)
file g c = (ready g c).file

start : (g : Over) (c : Start g) → IsAtStart (view_of (before g c))
start g c = (stands_at (one_key g.context) c.args.walk.now (view_of (before g c)) Phase.Start c.requires.1.1.1.1.0 (ready g c).stands).0

pub lock-requires-clause-few : goal.lock-requires-clause-few
lock-requires-clause-few g c = let s = (goal.at.lock-requires-clause-few g c).Start in few_held (before g s) 0 (none_held _ (start g s).unheld) (omega arith)

pub lock-requires-clause-there : goal.lock-requires-clause-there
lock-requires-clause-there g c =
    let s = (goal.at.lock-requires-clause-there g c).Start in
    is_there no_writes (before g s) (file g s).clean c.args.root.now.page g.context.root (ready g s).may (ready g s).written (file g s).is_clean c.requires.1.1.0 (header_there g.context.bits (file g s).clean g.context.root (file g s).form)

pub read_held_head-header-requires-clause-head : goal.read_held_head-header-requires-clause-head
read_held_head-header-requires-clause-head g c =
    let s = (goal.at.read_held_head-header-requires-clause-head g c).Start in
    let after = local c.args.subtx.now c.lock.new.pages in
    let sees = c.in_default.ensures.view in
    let read = reads_clean no_writes (before g s) after c.args.root.now.page c.header_mode.result sees.0 (file g s).clean c.lock.ensures.leaves.may (c.lock.ensures.leaves.clean (file g s).clean (file g s).is_clean) (unwritten_anew (view_of (before g s)) (start g s).unwritten) sees.1 in
    let head = head_there g.context.bits (file g s).clean g.context.root (file g s).form in
    (head.0, reads_held_after (view_of (before g s)) (view_of after) c.args.root.now.page c.header_mode.result (Page.Head head.0) sees (sym read ∙ ap (file g s).clean s.requires.1.1.0 ∙ head.1))

pub returns-clause-tells : goal.returns-clause-tells
unfolding file ready
returns-clause-tells g c =
    let s = (goal.at.returns-clause-tells g c).Start in
    let after = local c.args.subtx.now c.lock.new.pages in
    let header : HeadFields = record { depth = c.header.inside.depth; dirs = c.header.inside.dirs } in
    let key : c.walk.inside.key ≡ c.args.walk.now.key = ap (λ (w : WalkFields). w.key) c.walk.view_is in
    let pass : c.walk.inside.pass ≡ c.args.walk.now.pass = ap (λ (w : WalkFields). w.pass) c.walk.view_is in
    let bits : c.bits.result ≡ g.context.bits c.args.walk.now.key = c.bits.ensures ∙ (λ i. c.requires.1.1.1.0 i (key i)) in
    let read : ReadsPage (view_of (before g s)) (view_of after) c.args.root.now.page c.header_mode.result (Some (Page.Head c.read_held_head-header.result.now)) = reads_seen (view_of (before g s)) (view_of after) c.args.root.now.page c.header_mode.result (Page.Head c.read_held_head-header.result.now) c.in_default.ensures.view c.read_held_head-header.ensures.reads in
    let reads : ReadsPage (view_of (before g s)) (view_of after) g.context.root c.header_mode.result (Some (Page.Head header)) =
    subst (λ (h : HeadFields). ReadsPage (view_of (before g s)) (view_of after) g.context.root c.header_mode.result (Some (Page.Head h))) (sym c.header.view_is)
    (subst (λ (q : ℕ). ReadsPage (view_of (before g s)) (view_of after) q c.header_mode.result (Some (Page.Head c.read_held_head-header.result.now))) c.requires.1.1.0 read) in (
      headed g.context c.args.walk.now _ (before g s) after c.header_mode.result header c.dir.result c.of-place.result.entry c.header.inside.depth (anew g s) (file g s) (ready g s).shallow c.lock.ensures.leaves.may c.lock.ensures.leaves.clean (start g s) (c.header_mode.ensures ∙ ap header_mode pass) reads
          (c.dir.ensures ∙ ap (λ (h : HeadFields). slice_index h.dirs c.of-place.result.dir) (sym c.header.view_is) ∙ ap (slice_index c.header.inside.dirs) c.of-place.ensures.dir ∙ ap (λ x. slice_index c.header.inside.dirs (first_bits c.header.inside.depth x / 256)) bits)
          (c.of-place.ensures.entry ∙ ap (λ x. first_bits c.header.inside.depth x % 256) bits) refl c.requires.1.1.1.1.0 (ap (λ (w : WalkFields). record w { phase = Phase.Headed c.dir.result c.of-place.result.entry c.header.inside.depth }) c.walk.view_is),
      omega arith,
    )
