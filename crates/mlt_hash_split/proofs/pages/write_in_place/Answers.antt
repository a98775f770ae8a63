use Rattle.std.proofs.Common.{◌≡◌, ◌≤◌, ◌<◌, ◌+◌, ◌^◌, Some, refl, sym, ap, subst, arith}
use Rattle.mlt_hash_split.proofs.Names.{pow-le-pow_right, Exclusive, Page, LocalState, local, LocksPage, view_over, ReadsPage, view_of, SplitFields, GoesOn, SplitPhase, rebased_reads_page, rebased_writes_page, leaves_by_locking, leaves_by_rewriting, leaves_it, same_local, reads_held_after, reads_seen}
use Rattle.mlt_hash_split.proofs.HeldPages.{agrees_later, clean_later, clean_now, file_is_there, header_as_read, reads_held}
use Rattle.mlt_hash_split.proofs.{Closing.HasClean, Few.split_holds_few, Later.locked_may_be_written, Steps.done_at, Steps.left_at, Steps.next_page_at}
use Rattle.mlt_hash_split.proofs.InPlace.{AreNewPlaces, IsMadeInPlace, depths_here, end_is_small, in_place_goes_on, in_place_rests, next_is_dir, next_is_there, place_before_end, place_is_small}
use Rattle.mlt_hash_split.proofs.pages.write_in_place.Goals as goal

pub read_held_head-header-requires-clause-head : goal.read_held_head-header-requires-clause-head
read_held_head-header-requires-clause-head g c =
    let under = c.requires.1.1.under_way in
    (under.header, reads_held g.target.before (local c.args.subtx.now c.args.pages.now) c.args.root g.target.root (Page.Head under.header) c.requires.1.0 c.requires.1.1.written under.head_held under.head)

pub dir-number-requires : goal.dir-number-requires
dir-number-requires g c = place_is_small g.target (local c.args.subtx.now c.args.pages.now) c.args.split.now c.args.place c.args.end c.requires.1.1.may (clean_now g.target (local c.args.subtx.now c.args.pages.now) c.requires.1.1.may c.requires.1.1.file) c.requires.1.1.under_way c.requires.0

pub lock-requires-clause-few : goal.lock-requires-clause-few
lock-requires-clause-few g c = split_holds_few g.target (view_over g.target.before (local c.args.subtx.now c.args.pages.now)) c.args.split.now (clean_now g.target (local c.args.subtx.now c.args.pages.now) c.requires.1.1.may c.requires.1.1.file) c.requires.1.1.under_way

pub lock-requires-clause-there : goal.lock-requires-clause-there
lock-requires-clause-there g c =
    let head = header_as_read g.target.before (local c.args.subtx.now c.args.pages.now) c.args.root g.target.root c.read_held_head-header.result.now c.requires.1.0 c.requires.1.1.written c.read_held_head-header.ensures.reads in
    next_is_there g.target (local c.args.subtx.now c.args.pages.now) c.args.split.now c.args.place c.args.end c.requires.1.1.may (clean_now g.target (local c.args.subtx.now c.args.pages.now) c.requires.1.1.may c.requires.1.1.file) c.requires.1.1.under_way c.requires.0 c.read_held_head-header.result.now head c.dir-number.result c.dir-number.ensures (file_is_there g.target (local c.args.subtx.now c.args.pages.now) c.requires.1.1.may c.requires.1.1.written c.requires.1.1.file)

pub read_held_dir-dir-requires-clause-dir : goal.read_held_dir-dir-requires-clause-dir
read_held_dir-dir-requires-clause-dir g c =
    let head = header_as_read g.target.before (local c.args.subtx.now c.args.pages.now) c.args.root g.target.root c.read_held_head-header.result.now c.requires.1.0 c.requires.1.1.written c.read_held_head-header.ensures.reads in
    let sees = c.in_default.ensures.view in
    let agreed = agrees_later g.target (local c.args.subtx.now c.args.pages.now) (local c.args.subtx.now c.lock.new.pages) c.requires.1.1.may c.lock.ensures.leaves.may c.requires.1.1.file (c.lock.ensures.leaves.clean c.requires.1.1.file.clean c.requires.1.1.file.is_clean) in
    let next = next_is_dir g.target (local c.args.subtx.now c.args.pages.now) c.args.split.now c.args.place c.args.end c.requires.1.1.may (clean_now g.target (local c.args.subtx.now c.args.pages.now) c.requires.1.1.may c.requires.1.1.file) c.requires.1.1.under_way c.requires.0 c.read_held_head-header.result.now head c.dir-number.result c.dir-number.ensures (view_over g.target.before (local c.args.subtx.now c.lock.new.pages)) sees.0 (rebased_reads_page g.target.before (view_of (local c.args.subtx.now c.args.pages.now)) (view_of (local c.args.subtx.now c.lock.new.pages)) c.requires.1.1.written c.dir-number.result Exclusive sees.0 sees.1) agreed in
    (next.0, reads_held_after (view_of (local c.args.subtx.now c.args.pages.now)) (view_of (local c.args.subtx.now c.lock.new.pages)) c.dir-number.result Exclusive (Page.Dir next.0) sees next.1)

pub returns-in-Err-clause-leaves : goal.returns-in-Err-clause-leaves
returns-in-Err-clause-leaves g c = leaves_it (local c.args.subtx.now c.args.pages.now) _ c.requires.1.1.may (same_local _ _ _ _ refl c.in-Err.ensures.waits.1)

pub returns-in-Err-clause-steps : goal.returns-in-Err-clause-steps
returns-in-Err-clause-steps g c = same_local _ _ _ _ refl c.in-Err.ensures.waits.1

pub returns-in-Err-clause-tells : goal.returns-in-Err-clause-tells
returns-in-Err-clause-tells g c =
    let head = header_as_read g.target.before (local c.args.subtx.now c.args.pages.now) c.args.root g.target.root c.read_held_head-header.result.now c.requires.1.0 c.requires.1.1.written c.read_held_head-header.ensures.reads in
    (next_page_at g.target (local c.args.subtx.now c.args.pages.now) (local c.args.subtx.now c.args.pages.now) c.args.split.now (SplitPhase.InPlace c.args.place c.args.end) c.requires.0 c.dir-number.result (c.read_held_head-header.result.now, head, c.dir-number.ensures), c.in-Err.ensures.waits.0, same_local _ _ _ _ refl c.in-Err.ensures.waits.1, refl)

pub of-places-requires : goal.of-places-requires
of-places-requires g c =
    let same : c.split.inside.depth ≡ c.args.split.now.depth = ap (λ (s : SplitFields). s.depth) c.split.view_is in
    let same2 : c.split.inside.directory_depth ≡ c.args.split.now.directory_depth = ap (λ (s : SplitFields). s.directory_depth) c.split.view_is in
    let depths = depths_here g.target (local c.args.subtx.now c.args.pages.now) c.args.split.now c.args.place c.args.end c.requires.1.1.may (clean_now g.target (local c.args.subtx.now c.args.pages.now) c.requires.1.1.may c.requires.1.1.file) c.requires.1.1.under_way c.requires.0 in
    (omega (arith, same, same2, depths.0), omega (arith, same2, depths.1))

pub page_with_new_places-page-requires-clause-at : goal.page_with_new_places-page-requires-clause-at
page_with_new_places-page-requires-clause-at g c =
    place_is_small g.target (local c.args.subtx.now c.args.pages.now) c.args.split.now c.args.place c.args.end c.requires.1.1.may (clean_now g.target (local c.args.subtx.now c.args.pages.now) c.requires.1.1.may c.requires.1.1.file) c.requires.1.1.under_way c.requires.0

pub page_with_new_places-page-requires-clause-places : goal.page_with_new_places-page-requires-clause-places
page_with_new_places-page-requires-clause-places g c =
    let same : c.split.inside.depth ≡ c.args.split.now.depth = ap (λ (s : SplitFields). s.depth) c.split.view_is in
    let same2 : c.split.inside.directory_depth ≡ c.args.split.now.directory_depth = ap (λ (s : SplitFields). s.directory_depth) c.split.view_is in
    let depths = depths_here g.target (local c.args.subtx.now c.args.pages.now) c.args.split.now c.args.place c.args.end c.requires.1.1.may (clean_now g.target (local c.args.subtx.now c.args.pages.now) c.requires.1.1.may c.requires.1.1.file) c.requires.1.1.under_way c.requires.0 in
    let deep : c.split.inside.directory_depth ≤ 16 = omega (arith, same2, depths.1) in
    let most : 2 ^ c.split.inside.directory_depth ≤ 2 ^ 16 = pow-le-pow_right {n = 2} (omega arith) deep in
    omega (arith, most, c.of-places.ensures.within)

pub write_held_dir-requires-clause-held : goal.write_held_dir-requires-clause-held
write_held_dir-requires-clause-held g c = locked_may_be_written (local c.args.subtx.now c.args.pages.now) (local c.args.subtx.now c.lock.new.pages) c.dir-number.result _ c.in_default.ensures.view.1

pub returns-in-Err-write_held_dir-clause-leaves : goal.returns-in-Err-write_held_dir-clause-leaves
returns-in-Err-write_held_dir-clause-leaves g c =
    leaves_by_locking (local c.args.subtx.now c.args.pages.now) (local c.args.subtx.now c.lock.new.pages) _ c.dir-number.result Exclusive c.requires.1.1.may c.in_default.ensures.locks (same_local _ _ _ _ c.in-Err-write_held_dir.ensures.err.0 c.in-Err-write_held_dir.ensures.err.1)

pub returns-in-Err-write_held_dir-clause-steps : goal.returns-in-Err-write_held_dir-clause-steps
returns-in-Err-write_held_dir-clause-steps g c =
    let head = header_as_read g.target.before (local c.args.subtx.now c.args.pages.now) c.args.root g.target.root c.read_held_head-header.result.now c.requires.1.0 c.requires.1.1.written c.read_held_head-header.ensures.reads in
    let same : (local c.write_held_dir.new.subtx c.write_held_dir.new.pages) ≡ (local c.args.subtx.now c.lock.new.pages) = same_local _ _ _ _ c.in-Err-write_held_dir.ensures.err.0 c.in-Err-write_held_dir.ensures.err.1 in
    left_at g.target (local c.args.subtx.now c.args.pages.now) (local c.write_held_dir.new.subtx c.write_held_dir.new.pages) c.args.split.now (SplitPhase.InPlace c.args.place c.args.end) c.requires.0 (c.dir-number.result, (c.read_held_head-header.result.now, head, c.dir-number.ensures), subst (λ (n : LocalState). LocksPage (local c.args.subtx.now c.args.pages.now) n c.dir-number.result Exclusive) (sym same) c.in_default.ensures.locks)

pub overflow_add-place : goal.overflow_add-place
overflow_add-place g c =
    let small = end_is_small g.target (local c.args.subtx.now c.args.pages.now) c.args.split.now c.args.place c.args.end c.requires.1.1.may (clean_now g.target (local c.args.subtx.now c.args.pages.now) c.requires.1.1.may c.requires.1.1.file) c.requires.1.1.under_way c.requires.0 in
    let more = place_before_end g.target (local c.args.subtx.now c.args.pages.now) c.args.split.now c.args.place c.args.end c.requires.1.1.may (clean_now g.target (local c.args.subtx.now c.args.pages.now) c.requires.1.1.may c.requires.1.1.file) c.requires.1.1.under_way c.requires.0 in
    omega (arith, small, more)

pub key_bucket-requires : goal.key_bucket-requires
key_bucket-requires g c =
    let depths = depths_here g.target (local c.args.subtx.now c.args.pages.now) c.args.split.now c.args.place c.args.end c.requires.1.1.may (clean_now g.target (local c.args.subtx.now c.args.pages.now) c.requires.1.1.may c.requires.1.1.file) c.requires.1.1.under_way c.requires.0 in
    omega (arith, depths.0, depths.1)

pub returns-then-place-end-clause-leaves : goal.returns-then-place-end-clause-leaves
returns-then-place-end-clause-leaves g c = leaves_by_rewriting (local c.args.subtx.now c.args.pages.now) (local c.args.subtx.now c.lock.new.pages) _ c.dir-number.result Exclusive _ c.requires.1.1.may c.in_default.ensures.locks c.in_default-write_held_dir.ensures.writes

pub returns-then-place-end-clause-steps : goal.returns-then-place-end-clause-steps
returns-then-place-end-clause-steps g c =
    let head = header_as_read g.target.before (local c.args.subtx.now c.args.pages.now) c.args.root g.target.root c.read_held_head-header.result.now c.requires.1.0 c.requires.1.1.written c.read_held_head-header.ensures.reads in
    done_at g.target (local c.args.subtx.now c.args.pages.now) (local c.write_held_dir.new.subtx c.write_held_dir.new.pages) c.args.split.now (SplitPhase.InPlace c.args.place c.args.end) c.requires.0 (c.dir-number.result, (c.read_held_head-header.result.now, head, c.dir-number.ensures), ((local c.args.subtx.now c.lock.new.pages), c.in_default.ensures.locks, (_, c.in_default-write_held_dir.ensures.writes)))

pub returns-then-place-end-clause-tells : goal.returns-then-place-end-clause-tells
returns-then-place-end-clause-tells g c =
    let head = header_as_read g.target.before (local c.args.subtx.now c.args.pages.now) c.args.root g.target.root c.read_held_head-header.result.now c.requires.1.0 c.requires.1.1.written c.read_held_head-header.ensures.reads in
    let places : AreNewPlaces c.args.split.now c.of-places.result.first c.of-places.result.count = subst (λ (s : SplitFields). AreNewPlaces s c.of-places.result.first c.of-places.result.count) c.split.view_is (record { first_is = c.of-places.ensures.first; count_is = c.of-places.ensures.count }) in
    let has : IsMadeInPlace c.read_held_dir-dir.result.now c.page_with_new_places-page.result c.args.place c.of-places.result.first c.of-places.result.count c.args.split.now.new_page = subst (λ (s : SplitFields). IsMadeInPlace c.read_held_dir-dir.result.now c.page_with_new_places-page.result c.args.place c.of-places.result.first c.of-places.result.count s.new_page) c.split.view_is (record { size = c.page_with_new_places-page.ensures.size; entries = c.page_with_new_places-page.ensures.entries }) in
    let reads : ReadsPage (view_over g.target.before (local c.args.subtx.now c.args.pages.now)) (view_over g.target.before (local c.args.subtx.now c.lock.new.pages)) c.dir-number.result Exclusive (Some (Page.Dir c.read_held_dir-dir.result.now)) = rebased_reads_page g.target.before (view_of (local c.args.subtx.now c.args.pages.now)) (view_of (local c.args.subtx.now c.lock.new.pages)) c.requires.1.1.written c.dir-number.result Exclusive (Some (Page.Dir c.read_held_dir-dir.result.now)) (reads_seen (view_of (local c.args.subtx.now c.args.pages.now)) (view_of (local c.args.subtx.now c.lock.new.pages)) c.dir-number.result Exclusive (Page.Dir c.read_held_dir-dir.result.now) c.in_default.ensures.view c.read_held_dir-dir.ensures.reads) in
    let writes = rebased_writes_page g.target.before (view_of (local c.args.subtx.now c.lock.new.pages)) (view_of (local c.write_held_dir.new.subtx c.write_held_dir.new.pages)) c.dir-number.result (Page.Dir c.page_with_new_places-page.result) c.in_default-write_held_dir.ensures.view in
    let file = c.requires.1.1.file in
    let clean : HasClean g.target (view_over g.target.before (local c.write_held_dir.new.subtx c.write_held_dir.new.pages)) = clean_later g.target (local c.args.subtx.now c.args.pages.now) (local c.write_held_dir.new.subtx c.write_held_dir.new.pages) c.write_held_dir.ensures.leaves.may file (c.write_held_dir.ensures.leaves.clean file.clean (c.lock.ensures.leaves.clean file.clean file.is_clean)) in
    in_place_rests g.target (local c.args.subtx.now c.args.pages.now) c.args.split.now c.args.place c.args.end c.requires.1.1.may (clean_now g.target (local c.args.subtx.now c.args.pages.now) c.requires.1.1.may c.requires.1.1.file) c.requires.1.1.under_way c.requires.0 c.read_held_head-header.result.now head c.dir-number.result c.dir-number.ensures (local c.write_held_dir.new.subtx c.write_held_dir.new.pages) (view_over g.target.before (local c.args.subtx.now c.lock.new.pages)) c.read_held_dir-dir.result.now c.page_with_new_places-page.result c.of-places.result.first c.of-places.result.count places has reads writes c.key_bucket.result c.if-place-end.true clean c.key_bucket.ensures

pub overflow_add-split : goal.overflow_add-split
overflow_add-split g c =
    let small = end_is_small g.target (local c.args.subtx.now c.args.pages.now) c.args.split.now c.args.place c.args.end c.requires.1.1.may (clean_now g.target (local c.args.subtx.now c.args.pages.now) c.requires.1.1.may c.requires.1.1.file) c.requires.1.1.under_way c.requires.0 in
    let more = place_before_end g.target (local c.args.subtx.now c.args.pages.now) c.args.split.now c.args.place c.args.end c.requires.1.1.may (clean_now g.target (local c.args.subtx.now c.args.pages.now) c.requires.1.1.may c.requires.1.1.file) c.requires.1.1.under_way c.requires.0 in
    omega (arith, small, more)

pub returns-clause-leaves : goal.returns-clause-leaves
returns-clause-leaves g c = leaves_by_rewriting (local c.args.subtx.now c.args.pages.now) (local c.args.subtx.now c.lock.new.pages) _ c.dir-number.result Exclusive _ c.requires.1.1.may c.in_default.ensures.locks c.in_default-write_held_dir.ensures.writes

pub returns-clause-steps : goal.returns-clause-steps
returns-clause-steps g c =
    let head = header_as_read g.target.before (local c.args.subtx.now c.args.pages.now) c.args.root g.target.root c.read_held_head-header.result.now c.requires.1.0 c.requires.1.1.written c.read_held_head-header.ensures.reads in
    done_at g.target (local c.args.subtx.now c.args.pages.now) (local c.write_held_dir.new.subtx c.write_held_dir.new.pages) c.args.split.now (SplitPhase.InPlace c.args.place c.args.end) c.requires.0 (c.dir-number.result, (c.read_held_head-header.result.now, head, c.dir-number.ensures), ((local c.args.subtx.now c.lock.new.pages), c.in_default.ensures.locks, (_, c.in_default-write_held_dir.ensures.writes)))

pub returns-clause-tells : goal.returns-clause-tells
returns-clause-tells g c =
    let head = header_as_read g.target.before (local c.args.subtx.now c.args.pages.now) c.args.root g.target.root c.read_held_head-header.result.now c.requires.1.0 c.requires.1.1.written c.read_held_head-header.ensures.reads in
    let places : AreNewPlaces c.args.split.now c.of-places.result.first c.of-places.result.count = subst (λ (s : SplitFields). AreNewPlaces s c.of-places.result.first c.of-places.result.count) c.split.view_is (record { first_is = c.of-places.ensures.first; count_is = c.of-places.ensures.count }) in
    let has : IsMadeInPlace c.read_held_dir-dir.result.now c.page_with_new_places-page.result c.args.place c.of-places.result.first c.of-places.result.count c.args.split.now.new_page = subst (λ (s : SplitFields). IsMadeInPlace c.read_held_dir-dir.result.now c.page_with_new_places-page.result c.args.place c.of-places.result.first c.of-places.result.count s.new_page) c.split.view_is (record { size = c.page_with_new_places-page.ensures.size; entries = c.page_with_new_places-page.ensures.entries }) in
    let reads : ReadsPage (view_over g.target.before (local c.args.subtx.now c.args.pages.now)) (view_over g.target.before (local c.args.subtx.now c.lock.new.pages)) c.dir-number.result Exclusive (Some (Page.Dir c.read_held_dir-dir.result.now)) = rebased_reads_page g.target.before (view_of (local c.args.subtx.now c.args.pages.now)) (view_of (local c.args.subtx.now c.lock.new.pages)) c.requires.1.1.written c.dir-number.result Exclusive (Some (Page.Dir c.read_held_dir-dir.result.now)) (reads_seen (view_of (local c.args.subtx.now c.args.pages.now)) (view_of (local c.args.subtx.now c.lock.new.pages)) c.dir-number.result Exclusive (Page.Dir c.read_held_dir-dir.result.now) c.in_default.ensures.view c.read_held_dir-dir.ensures.reads) in
    let writes = rebased_writes_page g.target.before (view_of (local c.args.subtx.now c.lock.new.pages)) (view_of (local c.write_held_dir.new.subtx c.write_held_dir.new.pages)) c.dir-number.result (Page.Dir c.page_with_new_places-page.result) c.in_default-write_held_dir.ensures.view in
    let before = place_before_end g.target (local c.args.subtx.now c.args.pages.now) c.args.split.now c.args.place c.args.end c.requires.1.1.may (clean_now g.target (local c.args.subtx.now c.args.pages.now) c.requires.1.1.may c.requires.1.1.file) c.requires.1.1.under_way c.requires.0 in
    let more : c.args.place + 1 < c.args.end = omega (arith, before, c.if-place-end.false) in
    let goes = in_place_goes_on g.target (local c.args.subtx.now c.args.pages.now) c.args.split.now c.args.place c.args.end c.requires.1.1.may (clean_now g.target (local c.args.subtx.now c.args.pages.now) c.requires.1.1.may c.requires.1.1.file) c.requires.1.1.under_way c.requires.0 c.read_held_head-header.result.now head c.dir-number.result c.dir-number.ensures (local c.write_held_dir.new.subtx c.write_held_dir.new.pages) (view_over g.target.before (local c.args.subtx.now c.lock.new.pages)) c.read_held_dir-dir.result.now c.page_with_new_places-page.result c.of-places.result.first c.of-places.result.count places has reads writes more in
    subst (λ (s : SplitFields). GoesOn g.target (local c.write_held_dir.new.subtx c.write_held_dir.new.pages) c.args.split.now (record s { phase = SplitPhase.InPlace (c.args.place + 1) c.args.end })) (sym c.split.view_is) goes
