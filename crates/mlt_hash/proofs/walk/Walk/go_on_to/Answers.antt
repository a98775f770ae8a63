use Rattle.std.proofs.Common.{ℕ, ◌/◌, ◌%◌, slice_index, None, refl, sym, ap, subst, ◌∙◌}
use Rattle.mlt_hash.proofs.Names.{Exclusive, first_bits, HeadFields, Page, local, ReadsHeldPage, view_of, MayWalk, WalkFields, context_after, before_of, Phase}
use Rattle.mlt_hash.proofs.Turning.{goes_on, header_read, slots_stood, small}
use Rattle.mlt_hash.proofs.walk.Walk.go_on_to.Goals as goal

pub read_held_head-header-requires-clause-head : goal.read_held_head-header-requires-clause-head
read_held_head-header-requires-clause-head g c =
    subst (λ (q : ℕ). (h : HeadFields) × ReadsHeldPage (view_of (local c.args.subtx.now c.args.pages.now)) q (Page.Head h)) (sym c.requires.1.0) (header_read g.context c.args.self.now (local c.args.subtx.now c.args.pages.now) c.requires.1.1.1.0 c.requires.1.1.1.1.0 c.requires.1.1.1.1.1.0 c.requires.1.1.1.1.1.1)

pub of-place-requires : goal.of-place-requires
of-place-requires g c =
    let h : HeadFields = record { depth = c.header.inside.depth; dirs = c.header.inside.dirs } in
    let reads = subst (λ (q : ℕ). ReadsHeldPage (view_of (local c.args.subtx.now c.args.pages.now)) q (Page.Head c.read_held_head-header.result.now)) c.requires.1.0 c.read_held_head-header.ensures.reads in
    let head = subst (λ (h : HeadFields). ReadsHeldPage (view_of (local c.args.subtx.now c.args.pages.now)) g.context.root (Page.Head h)) (sym c.header.view_is) reads in
    small g.context c.args.self.now (local c.args.subtx.now c.args.pages.now) c.requires.1.1.1.0 c.requires.1.1.1.1.0 c.requires.1.1.1.1.1.0 c.requires.1.1.1.1.1.1 h head

pub returns-clause-ready : goal.returns-clause-ready
returns-clause-ready g c =
    let h : HeadFields = record { depth = c.header.inside.depth; dirs = c.header.inside.dirs } in
    let reads = subst (λ (q : ℕ). ReadsHeldPage (view_of (local c.args.subtx.now c.args.pages.now)) q (Page.Head c.read_held_head-header.result.now)) c.requires.1.0 c.read_held_head-header.ensures.reads in
    let head = subst (λ (h : HeadFields). ReadsHeldPage (view_of (local c.args.subtx.now c.args.pages.now)) g.context.root (Page.Head h)) (sym c.header.view_is) reads in
    let bits = c.bits.ensures ∙ (λ i. c.requires.1.1.0 i c.args.key) in
    let on = goes_on g.context c.args.self.now (local c.args.subtx.now c.args.pages.now) c.requires.1.1.1.0 c.requires.1.1.1.1.0 c.requires.1.1.1.1.1.0 c.requires.1.1.1.1.1.1 h head c.args.key c.dir.result c.of-place.result.entry c.header.inside.depth
    (c.dir.ensures ∙ ap (λ (h : HeadFields). slice_index h.dirs c.of-place.result.dir) (sym c.header.view_is) ∙ ap (slice_index c.header.inside.dirs) c.of-place.ensures.dir ∙ ap (λ x. slice_index c.header.inside.dirs (first_bits c.header.inside.depth x / 256)) bits)
    (c.of-place.ensures.entry ∙ ap (λ x. first_bits c.header.inside.depth x % 256) bits) refl in
    subst (λ (w : WalkFields). MayWalk (context_after (before_of (view_of (local c.args.subtx.now c.args.pages.now))) g.context) (local c.args.subtx.now c.args.pages.now) w) (sym (ap (λ (w : WalkFields). record w { key = c.args.key; mode = Exclusive; phase = Phase.Headed c.dir.result c.of-place.result.entry c.header.inside.depth; split = None }) c.self.view_is)) on

pub returns-clause-stood : goal.returns-clause-stood
returns-clause-stood g c = slots_stood g.context c.args.self.now (local c.args.subtx.now c.args.pages.now) c.requires.1.1.1.0 c.requires.1.1.1.1.0 c.requires.1.1.1.1.1.0 c.requires.1.1.1.1.1.1
