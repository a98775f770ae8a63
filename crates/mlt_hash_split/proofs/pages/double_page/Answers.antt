use Rattle.mlt_hash_split.proofs.Names.{pow-le-pow_right, Exclusive, Page, IsDoubled, LocalState, local, LocksPage, SplitPhase, SplitFields, view_of, view_over, first_bits, the_view, reads_held_after, reads_seen, rebased_reads_page, rebased_writes_page, leaves_by_locking, leaves_by_rewriting, leaves_it, same_local}
use Rattle.std.proofs.Common.{◌≡◌, ℕ, ◌+◌, ◌*◌, ◌≤◌, ◌^◌, Some, ap, sym, subst, refl, arith}
use Rattle.mlt_hash_split.proofs.HeldPages.{agrees_later, clean_now, file_is_there, header_as_read, reads_held}
use Rattle.mlt_hash_split.proofs.{Steps.done_at, Steps.left_at, Steps.next_page_at, Few.split_holds_few, Later.locked_may_be_written, pages.double_page.Given.Over, pages.double_page.Goals.After-first_bits, pages.double_page.Goals.Start, pages.double_page.Goals.then-split-lt8, pages.double_page.Goals.else-split-lt8}
use Rattle.mlt_hash_split.proofs.Doubling.{IsRewrite, depth_of_double, goes_on_to_the_only_header, goes_on_to_the_second_half, next_is_read, next_is_there}
use Rattle.mlt_hash_split.proofs.pages.double_page.Goals as goal

few : (g : Over) (c : After-first_bits g) → 2 ^ c.split.inside.directory_depth ≤ 2 ^ 16
few g c =
    let depth = depth_of_double g.target (local c.args.subtx.now c.args.pages.now) c.args.split.now c.args.place c.requires.0 c.requires.1.1.0.may (clean_now g.target (local c.args.subtx.now c.args.pages.now) c.requires.1.1.0.may c.requires.1.1.0.file) c.requires.1.1.0.under_way in
    let same = ap (λ (s : SplitFields). s.directory_depth) c.split.view_is in
    let deep : c.split.inside.directory_depth ≤ 16 = omega (arith, same, depth.0) in
    pow-le-pow_right {n = 2} (omega arith) deep

pub read_held_head-header-requires-clause-head : goal.read_held_head-header-requires-clause-head
read_held_head-header-requires-clause-head g c =
    let under = c.requires.1.1.0.under_way in
    (under.header, reads_held g.target.before (local c.args.subtx.now c.args.pages.now) c.args.root g.target.root (Page.Head under.header) c.requires.1.0 c.requires.1.1.0.written under.head_held under.head)

pub lock-requires-clause-few : goal.lock-requires-clause-few
lock-requires-clause-few g c = split_holds_few g.target (view_over g.target.before (local c.args.subtx.now c.args.pages.now)) c.args.split.now (clean_now g.target (local c.args.subtx.now c.args.pages.now) c.requires.1.1.0.may c.requires.1.1.0.file) c.requires.1.1.0.under_way

pub lock-requires-clause-there : goal.lock-requires-clause-there
lock-requires-clause-there g c =
    let read = header_as_read g.target.before (local c.args.subtx.now c.args.pages.now) c.args.root g.target.root c.read_held_head-header.result.now c.requires.1.0 c.requires.1.1.0.written c.read_held_head-header.ensures.reads in
    next_is_there g.target (local c.args.subtx.now c.args.pages.now) c.args.split.now c.args.place c.dir-number.result c.read_held_head-header.result.now c.requires.0 c.requires.1.1.0.may (clean_now g.target (local c.args.subtx.now c.args.pages.now) c.requires.1.1.0.may c.requires.1.1.0.file) c.requires.1.1.0.under_way read c.dir-number.ensures (file_is_there g.target (local c.args.subtx.now c.args.pages.now) c.requires.1.1.0.may c.requires.1.1.0.written c.requires.1.1.0.file)

pub read_held_dir-dir-requires-clause-dir : goal.read_held_dir-dir-requires-clause-dir
read_held_dir-dir-requires-clause-dir g c =
    let read = header_as_read g.target.before (local c.args.subtx.now c.args.pages.now) c.args.root g.target.root c.read_held_head-header.result.now c.requires.1.0 c.requires.1.1.0.written c.read_held_head-header.ensures.reads in
    let sees = c.in_default.ensures.view in
    let agreed = agrees_later g.target (local c.args.subtx.now c.args.pages.now) (local c.args.subtx.now c.lock.new.pages) c.requires.1.1.0.may c.lock.ensures.leaves.may c.requires.1.1.0.file (c.lock.ensures.leaves.clean c.requires.1.1.0.file.clean c.requires.1.1.0.file.is_clean) in
    let next = next_is_read g.target (local c.args.subtx.now c.args.pages.now) c.args.split.now c.args.place c.dir-number.result c.read_held_head-header.result.now c.requires.0 c.requires.1.1.0.may (clean_now g.target (local c.args.subtx.now c.args.pages.now) c.requires.1.1.0.may c.requires.1.1.0.file) c.requires.1.1.0.under_way read c.dir-number.ensures (local c.args.subtx.now c.lock.new.pages) sees.0 agreed (rebased_reads_page g.target.before (view_of (local c.args.subtx.now c.args.pages.now)) (view_of (local c.args.subtx.now c.lock.new.pages)) c.requires.1.1.0.written c.dir-number.result Exclusive sees.0 sees.1) in
    (next.0, reads_held_after (view_of (local c.args.subtx.now c.args.pages.now)) (view_of (local c.args.subtx.now c.lock.new.pages)) c.dir-number.result Exclusive (Page.Dir next.0) sees next.1)

pub returns-in-Err-clause-leaves : goal.returns-in-Err-clause-leaves
returns-in-Err-clause-leaves g c = leaves_it (local c.args.subtx.now c.args.pages.now) (local c.args.subtx.now c.lock.new.pages) c.requires.1.1.0.may (same_local _ _ _ _ refl c.in-Err.ensures.waits.1)

pub returns-in-Err-clause-steps : goal.returns-in-Err-clause-steps
returns-in-Err-clause-steps g c = same_local _ _ _ _ refl c.in-Err.ensures.waits.1

pub returns-in-Err-clause-tells : goal.returns-in-Err-clause-tells
returns-in-Err-clause-tells g c =
    let read = header_as_read g.target.before (local c.args.subtx.now c.args.pages.now) c.args.root g.target.root c.read_held_head-header.result.now c.requires.1.0 c.requires.1.1.0.written c.read_held_head-header.ensures.reads in
    (next_page_at g.target (local c.args.subtx.now c.args.pages.now) (local c.args.subtx.now c.args.pages.now) c.args.split.now (SplitPhase.Double c.args.place) c.requires.0 c.dir-number.result (c.read_held_head-header.result.now, read, c.dir-number.ensures), c.in-Err.ensures.waits.0, same_local _ _ _ _ refl c.in-Err.ensures.waits.1, refl)

pub first_bits-requires : goal.first_bits-requires
first_bits-requires g c =
    let depth = depth_of_double g.target (local c.args.subtx.now c.args.pages.now) c.args.split.now c.args.place c.requires.0 c.requires.1.1.0.may (clean_now g.target (local c.args.subtx.now c.args.pages.now) c.requires.1.1.0.may c.requires.1.1.0.file) c.requires.1.1.0.under_way in
    let same = ap (λ (s : SplitFields). s.directory_depth) c.split.view_is in
    omega (arith, same, depth.0)

pub overflow_mul-entry : goal.overflow_mul-entry
overflow_mul-entry g c = let few = few g (goal.at.overflow_mul-entry g c).After-first_bits in omega (arith, few, c.first_bits.ensures.below)

pub overflow_add-entry : goal.overflow_add-entry
overflow_add-entry g c = let few = few g (goal.at.overflow_add-entry g c).After-first_bits in omega (arith, few, c.first_bits.ensures.below)

pub write_held_dir-requires-clause-held : goal.write_held_dir-requires-clause-held
write_held_dir-requires-clause-held g c = locked_may_be_written (local c.args.subtx.now c.args.pages.now) (local c.args.subtx.now c.lock.new.pages) c.dir-number.result _ c.in_default.ensures.view.1

pub returns-in-Err-write_held_dir-clause-leaves : goal.returns-in-Err-write_held_dir-clause-leaves
returns-in-Err-write_held_dir-clause-leaves g c =
    leaves_by_locking (local c.args.subtx.now c.args.pages.now) (local c.args.subtx.now c.lock.new.pages) (local c.write_held_dir.new.subtx c.write_held_dir.new.pages) c.dir-number.result Exclusive c.requires.1.1.0.may c.in_default.ensures.locks (same_local _ _ _ _ c.in-Err-write_held_dir.ensures.err.0 c.in-Err-write_held_dir.ensures.err.1)

pub returns-in-Err-write_held_dir-clause-steps : goal.returns-in-Err-write_held_dir-clause-steps
returns-in-Err-write_held_dir-clause-steps g c =
    let read = header_as_read g.target.before (local c.args.subtx.now c.args.pages.now) c.args.root g.target.root c.read_held_head-header.result.now c.requires.1.0 c.requires.1.1.0.written c.read_held_head-header.ensures.reads in
    let same : (local c.write_held_dir.new.subtx c.write_held_dir.new.pages) ≡ (local c.args.subtx.now c.lock.new.pages) = same_local _ _ _ _ c.in-Err-write_held_dir.ensures.err.0 c.in-Err-write_held_dir.ensures.err.1 in
    left_at g.target (local c.args.subtx.now c.args.pages.now) (local c.write_held_dir.new.subtx c.write_held_dir.new.pages) c.args.split.now (SplitPhase.Double c.args.place) c.requires.0 (c.dir-number.result, (c.read_held_head-header.result.now, read, c.dir-number.ensures), subst (λ (n : LocalState). LocksPage (local c.args.subtx.now c.args.pages.now) n c.dir-number.result Exclusive) (sym same) c.in_default.ensures.locks)

pub returns-clause-steps : goal.returns-clause-steps
returns-clause-steps g c =
    let read = header_as_read g.target.before (local c.args.subtx.now c.args.pages.now) c.args.root g.target.root c.read_held_head-header.result.now c.requires.1.0 c.requires.1.1.0.written c.read_held_head-header.ensures.reads in
    done_at g.target (local c.args.subtx.now c.args.pages.now) (local c.write_held_dir.new.subtx c.write_held_dir.new.pages) c.args.split.now (SplitPhase.Double c.args.place) c.requires.0 (c.dir-number.result, (c.read_held_head-header.result.now, read, c.dir-number.ensures), ((local c.args.subtx.now c.lock.new.pages), c.in_default.ensures.locks, (_, c.in_default-write_held_dir.ensures.writes)))

pub returns-clause-leaves : goal.returns-clause-leaves
returns-clause-leaves g c =
    leaves_by_rewriting (local c.args.subtx.now c.args.pages.now) (local c.args.subtx.now c.lock.new.pages) (local c.write_held_dir.new.subtx c.write_held_dir.new.pages) c.dir-number.result Exclusive _ c.requires.1.1.0.may c.in_default.ensures.locks c.in_default-write_held_dir.ensures.writes

pub returns-clause-tells : goal.returns-clause-tells
returns-clause-tells g c =
    let split = the_view c.split.inside in
    let place : 2 * c.first_bits.result + 1 ≡ 2 * first_bits split.directory_depth split.seed + 1 = ap (λ n. 2 * n + 1) c.first_bits.ensures.value in
    let one = c.doubled_page-first.ensures in
    let two = c.doubled_page-second.ensures in
    let step : IsRewrite g.target (local c.args.subtx.now c.args.pages.now) (local c.args.subtx.now c.lock.new.pages) (local c.write_held_dir.new.subtx c.write_held_dir.new.pages) split c.args.place c.dir-number.result c.read_held_head-header.result.now c.read_held_dir-dir.result.now c.doubled_page-first.result c.doubled_page-second.result = record {
      read = header_as_read g.target.before (local c.args.subtx.now c.args.pages.now) c.args.root g.target.root c.read_held_head-header.result.now c.requires.1.0 c.requires.1.1.0.written c.read_held_head-header.ensures.reads;
      listed = c.dir-number.ensures;
      reads = rebased_reads_page g.target.before (view_of (local c.args.subtx.now c.args.pages.now)) (view_of (local c.args.subtx.now c.lock.new.pages)) c.requires.1.1.0.written c.dir-number.result Exclusive (Some (Page.Dir c.read_held_dir-dir.result.now)) (reads_seen (view_of (local c.args.subtx.now c.args.pages.now)) (view_of (local c.args.subtx.now c.lock.new.pages)) c.dir-number.result Exclusive (Page.Dir c.read_held_dir-dir.result.now) c.in_default.ensures.view c.read_held_dir-dir.ensures.reads);
      writes = rebased_writes_page g.target.before (view_of (local c.args.subtx.now c.lock.new.pages)) (view_of (local c.write_held_dir.new.subtx c.write_held_dir.new.pages)) c.dir-number.result (Page.Dir c.doubled_page-first.result) c.in_default-write_held_dir.ensures.view;
      one = record { size = one.size; entries = subst (λ (k : ℕ). IsDoubled c.read_held_dir-dir.result.now c.doubled_page-first.result (2 * c.args.place) k split.new_page) place one.entries };
      two = record { size = two.size; entries = subst (λ (k : ℕ). IsDoubled c.read_held_dir-dir.result.now c.doubled_page-second.result (2 * c.args.place + 1) k split.new_page) place two.entries };
      sized = c.name_page.ensures.places;
    } in
    elim c.if-split-lt8.branch [
      | then-split-lt8 w ↦
          goes_on_to_the_only_header g.target (local c.args.subtx.now c.args.pages.now) (local c.args.subtx.now c.lock.new.pages) (local c.write_held_dir.new.subtx c.write_held_dir.new.pages) split c.args.split.now c.args.place c.dir-number.result c.read_held_head-header.result.now c.name_page.new.made c.read_held_dir-dir.result.now c.doubled_page-first.result c.doubled_page-second.result c.if-split-lt8.split c.split.view_is c.requires.0 c.requires.1.1.0.may (clean_now g.target (local c.args.subtx.now c.args.pages.now) c.requires.1.1.0.may c.requires.1.1.0.file) c.requires.1.1.0.under_way
          step w.if-split-lt8.true c.name_page.ensures.named w.split-is
      | else-split-lt8 w ↦
          goes_on_to_the_second_half g.target (local c.args.subtx.now c.args.pages.now) (local c.args.subtx.now c.lock.new.pages) (local c.write_held_dir.new.subtx c.write_held_dir.new.pages) split c.args.split.now c.args.place c.dir-number.result c.read_held_head-header.result.now c.name_page.new.made c.read_held_dir-dir.result.now c.doubled_page-first.result c.doubled_page-second.result c.if-split-lt8.split c.split.view_is c.requires.0 c.requires.1.1.0.may (clean_now g.target (local c.args.subtx.now c.args.pages.now) c.requires.1.1.0.may c.requires.1.1.0.file) c.requires.1.1.0.under_way
          step w.if-split-lt8.false c.name_page.ensures.named w.split-is
    ]
