use Rattle.std.proofs.Common.{◌≡◌, is_some, true, ap, refl, sym, ◌∙◌}
use Rattle.mlt_hash.proofs.Names.{false≢true, BucketFields, LocalState, local, WalkFields, context_in, view_for, IsFull, directory_depth_of, Pass, Phase}
use Rattle.mlt_hash.proofs.{InPlace.absent_at, InPlace.at_bucket_without, InPlace.holds_bucket, InPlace.reads_bucket, change.without_room.Given.Over, change.without_room.Goals.After-held_bucket-number, change.without_room.Goals.After-next_pass-next}
use Rattle.mlt_hash.proofs.Resting.{TellsNext, adding_tells, few_at_bucket, first_is_not_wide, first_tells, full_bucket, no_room_tells, narrow_is_not_wide, shallow, tells_next, tells_next_by, widen_tells, within_limit}
use Rattle.mlt_hash.proofs.change.without_room.Goals as goal

pub held_bucket-number-requires-clause-held : goal.held_bucket-number-requires-clause-held
held_bucket-number-requires-clause-held g c = holds_bucket g.context c.args.walk.now (local c.args.subtx.now c.args.pages.now) c.requires.1.1.0.walks (at_bucket_without c.args.walk.now.phase c.requires.1.1.1.0)

abbrev before : (g : Over) → After-held_bucket-number g → LocalState
before g c = local c.args.subtx.now c.args.pages.now

full : (g : Over) (c : After-held_bucket-number g) → IsFull g.context c.args.walk.now (view_for g.context (before g c)) c.held_bucket-number.result.1.now
full g c =
    let walk : WalkFields = c.args.walk.now in
    let bucket : BucketFields = c.held_bucket-number.result.1.now in
    full_bucket g.context walk (view_for g.context (before g c)) bucket c.requires.1.1.1.1
    (reads_bucket g.context walk (before g c) c.held_bucket-number.result.0 walk.key bucket c.requires.1.1.0.walks (at_bucket_without walk.phase c.requires.1.1.1.0) c.held_bucket-number.ensures.bucket c.held_bucket-number.ensures.number refl).sees

told : (g : Over) (c : After-next_pass-next g) → TellsNext g.context c.held_bucket-number.result.1.now c.args.walk.now.key (directory_depth_of c.args.walk.now.phase) c.next_pass-next.result.0 c.next_pass-next.result.1
told g c =
    let bucket : BucketFields = c.held_bucket-number.result.1.now in
    let next = c.next_pass-next.result in
    let depth : c.in-AtBucket.directory_depth ≡ directory_depth_of c.args.walk.now.phase = sym (ap directory_depth_of c.in-AtBucket.is) ∙ ap (λ (w : WalkFields). directory_depth_of w.phase) c.walk.view_is in
    tells_next g.context bucket c.walk.inside.key c.args.walk.now.key c.in-AtBucket.directory_depth (directory_depth_of c.args.walk.now.phase) next.0 next.1 (ap (λ (w : WalkFields). w.key) c.walk.view_is) depth
    (tells_next_by (context_in g.P.Pseudo.bits_of c.args.environment.now c.args.subtx.now.tx) g.context c.requires.1.0 bucket c.walk.inside.key c.in-AtBucket.directory_depth next.0 next.1 (record { follows = c.next_pass-next.ensures.pass; room = c.next_pass-next.ensures.depth; narrow = c.next_pass-next.ensures.narrow }))

own : (g : Over) (c : After-next_pass-next g) → c.walk.inside.pass ≡ c.args.walk.now.pass
own g c = ap (λ (w : WalkFields). w.pass) c.walk.view_is

pub next_pass-next-requires-clause-bucket : goal.next_pass-next-requires-clause-bucket
next_pass-next-requires-clause-bucket g c =
    let s = (goal.at.next_pass-next-requires-clause-bucket g c).After-held_bucket-number in
    shallow g.context c.args.walk.now (before g s) _ c.requires.1.1.0.walks.bounded c.requires.1.1.0.walks.may c.requires.1.1.0.walks.file (absent_at g.context c.args.walk.now (view_for g.context (before g s)) c.args.walk.now.phase c.requires.1.1.1.0 c.requires.1.1.0.walks.stands) (full g s)

pub returns-in-First-clause-tells : goal.returns-in-First-clause-tells
returns-in-First-clause-tells g c =
    let s = goal.at.returns-in-First-clause-tells g c in
    let m = before g s.After-held_bucket-number in
    let first = sym (own g s.After-next_pass-next) ∙ c.in-First.is in
    first_tells g.context c.args.walk.now _ m _ _ _ c.args.value (full g s.After-held_bucket-number) (told g s.After-next_pass-next) (few_at_bucket g.context c.args.walk.now (view_for g.context m) c.requires.1.1.1.0 c.requires.1.1.0.walks.stands (λ wide. first_is_not_wide (sym first ∙ wide))) first
    (ap (λ (w : WalkFields). record w { phase = Phase.Full c.next_pass-next.result.0 }) c.walk.view_is)

pub returns-then-must_widen-clause-tells : goal.returns-then-must_widen-clause-tells
returns-then-must_widen-clause-tells g c =
    let s = goal.at.returns-then-must_widen-clause-tells g c in
    let m = before g s.After-held_bucket-number in
    let both = c.if-must_widen.ensures.0 refl in
    let narrow = sym (own g s.After-next_pass-next) ∙ both.0 in
    widen_tells g.context c.args.walk.now _ m _ _ _ c.args.value (full g s.After-held_bucket-number) (told g s.After-next_pass-next) (few_at_bucket g.context c.args.walk.now (view_for g.context m) c.requires.1.1.1.0 c.requires.1.1.0.walks.stands (λ wide. narrow_is_not_wide (sym narrow ∙ wide))) narrow both.1
    (ap (λ (w : WalkFields). record w { phase = Phase.Full Pass.Wide }) c.walk.view_is)

pub returns-in_default-least-clause-tells : goal.returns-in_default-least-clause-tells
returns-in_default-least-clause-tells g c =
    let s = goal.at.returns-in_default-least-clause-tells g c in
    let m = before g s.After-held_bucket-number in
    let own = own g s.After-next_pass-next in
    let full = full g s.After-held_bucket-number in
    no_room_tells g.context c.args.walk.now _ m _ _ _ c.args.value full (told g s.After-next_pass-next)
    (λ first. c.in_default-pass.not-First (own ∙ first)) (λ narrow wide. false≢true (sym c.if-must_widen.false ∙ c.must_widen.ensures.1 (own ∙ narrow, wide)))
    (within_limit g.context c.args.walk.now m _ c.requires.1.1.0.walks.bounded c.requires.1.1.0.walks.may c.requires.1.1.0.walks.file (absent_at g.context c.args.walk.now (view_for g.context m) c.args.walk.now.phase c.requires.1.1.1.0 c.requires.1.1.0.walks.stands) full) (ap is_some c.in_default-least.is) refl

pub returns-clause-tells : goal.returns-clause-tells
returns-clause-tells g c =
    let s = goal.at.returns-clause-tells g c in
    let own = own g s.After-next_pass-next in
    let number = c.held_bucket-number.result.0 in
    adding_tells g.context c.args.walk.now _ (before g s.After-held_bucket-number) _ _ _ c.args.value (full g s.After-held_bucket-number) (told g s.After-next_pass-next)
    (λ first. c.in_default-pass.not-First (own ∙ first)) (λ narrow wide. false≢true (sym c.if-must_widen.false ∙ c.must_widen.ensures.1 (own ∙ narrow, wide)))
    number c.requires.1.1.0.walks.bounded c.requires.1.1.0.walks.may c.requires.1.1.0.walks.file c.requires.1.1.1.0 c.requires.1.1.0.walks.stands c.requires.1.1.0.exclusive c.requires.1.1.0.walks.small c.held_bucket-number.ensures.number c.in-Some.room_depth c.in-Some.is
    (ap (λ (w : WalkFields). record w { phase = Phase.Adding c.args.value number c.in-Some.room_depth true }) c.walk.view_is)
