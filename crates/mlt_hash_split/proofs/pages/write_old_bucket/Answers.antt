use Rattle.std.proofs.Common.{◌≡◌, sym, ◌∙◌, ap, subst}
use Rattle.mlt_hash_split.proofs.Names.{Page, rebased_writes_page, IsFirstPhase, local, WritesHeldPage, view_over, view_of, IsUnderWay, SplitFields, GoesOn, SplitPhase, leaves_by_writing, leaves_it, same_local}
use Rattle.mlt_hash_split.proofs.{HeldPages.clean_now, Later.begins_now, Steps.done_at, Steps.left_at, OldBucket.depths_are_small, OldBucket.old_bucket_step}
use Rattle.mlt_hash_split.proofs.pages.write_old_bucket.Goals as goal

pub first_directory_step-split-inside-requires : goal.first_directory_step-split-inside-requires
first_directory_step-split-inside-requires g c =
    depths_are_small g.target _ c.args.split.now _ (begins_now g.target (local c.args.subtx.now c.args.pages.now) c.args.split.now c.requires.1.may (clean_now g.target (local c.args.subtx.now c.args.pages.now) c.requires.1.may c.requires.1.file) c.requires.1.under_way)

pub returns-in-Err-clause-leaves : goal.returns-in-Err-clause-leaves
returns-in-Err-clause-leaves g c = leaves_it (local c.args.subtx.now c.args.pages.now) _ c.requires.1.may (same_local _ _ _ _ c.in-Err.ensures.err.0 c.in-Err.ensures.err.1)

pub returns-in-Err-clause-steps : goal.returns-in-Err-clause-steps
returns-in-Err-clause-steps g c = left_at g.target (local c.args.subtx.now c.args.pages.now) (local c.write_held.new.subtx c.write_held.new.pages) c.args.split.now SplitPhase.OldBucket c.requires.0 (same_local _ _ _ _ c.in-Err.ensures.err.0 c.in-Err.ensures.err.1)

pub returns-clause-steps : goal.returns-clause-steps
returns-clause-steps g c =
    done_at g.target (local c.args.subtx.now c.args.pages.now) (local c.write_held.new.subtx c.write_held.new.pages) c.args.split.now SplitPhase.OldBucket c.requires.0 (Page.Bucket c.split.inside.zeros, subst (λ (s : SplitFields). WritesHeldPage (local c.args.subtx.now c.args.pages.now) (local c.write_held.new.subtx c.write_held.new.pages) s.old_page (Page.Bucket c.split.inside.zeros)) c.split.view_is c.in_default.ensures.writes)

pub returns-clause-leaves : goal.returns-clause-leaves
returns-clause-leaves g c = leaves_by_writing _ _ c.split.inside.old_page (Page.Bucket c.split.inside.zeros) c.requires.1.may c.in_default.ensures.writes

pub returns-clause-tells : goal.returns-clause-tells
returns-clause-tells g c =
    let phase = c.first_directory_step-split-inside.result in
    let split : SplitFields = record { seed = c.split.inside.seed; old_page = c.split.inside.old_page; new_page = c.split.inside.new_page; depth = c.split.inside.depth; directory_depth = c.split.inside.directory_depth; zeros = c.split.inside.zeros; made = record { depth = c.split.inside.made.depth; dirs = c.split.inside.made.dirs }; second = c.split.inside.second; phase = c.split.inside.phase } in
    let is : split ≡ c.args.split.now = c.split.view_is in
    let way : IsUnderWay g.target (view_over g.target.before (local c.args.subtx.now c.args.pages.now)) split = subst (λ (s : SplitFields). IsUnderWay g.target (view_over g.target.before (local c.args.subtx.now c.args.pages.now)) s) (sym is) c.requires.1.under_way in
    let first : IsFirstPhase split phase = subst (λ (s : SplitFields). IsFirstPhase s phase) (sym is) c.first_directory_step-split-inside.ensures in
    let at_old : split.phase ≡ SplitPhase.OldBucket = ap (λ (s : SplitFields). s.phase) is ∙ c.requires.0 in
    subst (λ (s : SplitFields). GoesOn g.target (local c.write_held.new.subtx c.write_held.new.pages) s (record split { phase = phase })) is
    (old_bucket_step g.target (local c.args.subtx.now c.args.pages.now) (local c.write_held.new.subtx c.write_held.new.pages) split phase c.requires.1.may (clean_now g.target (local c.args.subtx.now c.args.pages.now) c.requires.1.may c.requires.1.file) way at_old (rebased_writes_page g.target.before (view_of (local c.args.subtx.now c.args.pages.now)) (view_of (local c.write_held.new.subtx c.write_held.new.pages)) split.old_page (Page.Bucket split.zeros) c.in_default.ensures.view) first)
