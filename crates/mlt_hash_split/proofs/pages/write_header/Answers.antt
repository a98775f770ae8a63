use Rattle.std.proofs.Common.{◌≡◌, ℕ, true, sym, ap, subst, arith}
use Rattle.mlt_hash_split.proofs.Names.{HeadFields, Page, can_write, SplitFields, WritesPage, view_of, local, SplitPhase, rebased_writes_page, leaves_by_writing, leaves_it, same_local}
use Rattle.mlt_hash_split.proofs.{HeldPages.clean_now, Steps.done_at, Steps.header_is_written, Steps.left_at, Header.depth_of_header, Header.header_may_be_written, Header.rests_at_header}
use Rattle.mlt_hash_split.proofs.pages.write_header.Goals as goal

pub write_held_head-requires-clause-held : goal.write_held_head-requires-clause-held
write_held_head-requires-clause-held g c =
    subst (λ (q : ℕ). can_write c.args.pages.now.locks c.args.subtx.now.tx q ≡ true) (sym c.requires.1.0) (header_may_be_written g.target (local c.args.subtx.now c.args.pages.now) c.args.split.now c.requires.0 c.requires.1.1.may (clean_now g.target (local c.args.subtx.now c.args.pages.now) c.requires.1.1.may c.requires.1.1.file) c.requires.1.1.under_way)

pub key_bucket-requires : goal.key_bucket-requires
key_bucket-requires g c =
    let depth = depth_of_header g.target (local c.args.subtx.now c.args.pages.now) c.args.split.now c.requires.0 c.requires.1.1.may (clean_now g.target (local c.args.subtx.now c.args.pages.now) c.requires.1.1.may c.requires.1.1.file) c.requires.1.1.under_way in
    omega (arith, depth.0)

pub returns-in-Ok-clause-leaves : goal.returns-in-Ok-clause-leaves
returns-in-Ok-clause-leaves g c = leaves_by_writing (local c.args.subtx.now c.args.pages.now) (local c.write_held_head.new.subtx c.write_held_head.new.pages) c.args.root _ c.requires.1.1.may c.in-Ok.ensures.writes

pub returns-in-Ok-clause-steps : goal.returns-in-Ok-clause-steps
returns-in-Ok-clause-steps g c =
    done_at g.target (local c.args.subtx.now c.args.pages.now) (local c.write_held_head.new.subtx c.write_held_head.new.pages) c.args.split.now SplitPhase.Header c.requires.0 (header_is_written (local c.args.subtx.now c.args.pages.now) (local c.write_held_head.new.subtx c.write_held_head.new.pages) c.args.root g.target.root _ c.requires.1.0 c.in-Ok.ensures.writes)

pub returns-in-Ok-clause-tells : goal.returns-in-Ok-clause-tells
returns-in-Ok-clause-tells g c =
    let writes : WritesPage (view_of (local c.args.subtx.now c.args.pages.now)) (view_of (local c.write_held_head.new.subtx c.write_held_head.new.pages)) g.target.root (Page.Head c.args.split.now.made) =
    subst (λ (p : ℕ × HeadFields). WritesPage (view_of (local c.args.subtx.now c.args.pages.now)) (view_of (local c.write_held_head.new.subtx c.write_held_head.new.pages)) p.0 (Page.Head p.1)) (λ i. (c.requires.1.0 i, ap (λ (s : SplitFields). s.made) c.split.view_is i)) c.in-Ok.ensures.view in
    rests_at_header g.target (local c.args.subtx.now c.args.pages.now) (local c.write_held_head.new.subtx c.write_held_head.new.pages) c.args.split.now c.key_bucket.result c.requires.0 c.requires.1.1.may (clean_now g.target (local c.args.subtx.now c.args.pages.now) c.requires.1.1.may c.requires.1.1.file) c.requires.1.1.under_way (rebased_writes_page g.target.before (view_of (local c.args.subtx.now c.args.pages.now)) (view_of (local c.write_held_head.new.subtx c.write_held_head.new.pages)) g.target.root (Page.Head c.args.split.now.made) writes) c.key_bucket.ensures

pub returns-in-Err-clause-leaves : goal.returns-in-Err-clause-leaves
returns-in-Err-clause-leaves g c = leaves_it (local c.args.subtx.now c.args.pages.now) (local c.write_held_head.new.subtx c.write_held_head.new.pages) c.requires.1.1.may (same_local _ _ _ _ c.in-Err.ensures.err.0 c.in-Err.ensures.err.1)

pub returns-in-Err-clause-steps : goal.returns-in-Err-clause-steps
returns-in-Err-clause-steps g c =
    left_at g.target (local c.args.subtx.now c.args.pages.now) (local c.write_held_head.new.subtx c.write_held_head.new.pages) c.args.split.now SplitPhase.Header c.requires.0 (same_local _ _ _ _ c.in-Err.ensures.err.0 c.in-Err.ensures.err.1)
