use Rattle.std.proofs.Common.{◌≡◌, ◌<◌, ◌≤◌, ◌-◌, ◌*◌, ◌%◌, ◌^◌, ap, arith}
use Rattle.std.proofs.lemmas.Nat.{one_shl}
use Rattle.mlt_hash_split.proofs.Names.{local, SplitFields, SplitPhase, the_view, Page, view_of, view_over, rebased_makes_page, leaves_it, same_local}
use Rattle.mlt_hash_split.proofs.{HeldPages.clean_now, Steps.done_at, Steps.left_at, Steps.makes_second_half, Few.split_holds_few, Later.refused_to_make, SecondHalf.depth_of_second_half, SecondHalf.place_of_second_half, SecondHalf.goes_on_to_another_page, SecondHalf.goes_on_to_the_header, pages.make_second_half.Given.Over, pages.make_second_half.Goals.Start, pages.make_second_half.Goals.then-place-split, pages.make_second_half.Goals.else-place-split}
use Rattle.mlt_hash_access.proofs.Leaving.{leaves_by_making}
use Rattle.mlt_hash_split.proofs.pages.make_second_half.Goals as goal

place : (g : Over) (c : Start g) → c.args.place < 128
place g c = place_of_second_half g.target (local c.args.subtx.now c.args.pages.now) c.args.split.now c.args.place c.requires.0 c.requires.1.may (clean_now g.target (local c.args.subtx.now c.args.pages.now) c.requires.1.may c.requires.1.file) c.requires.1.under_way

-- how deep the directory is
deep : (g : Over) (c : Start g) → (8 ≤ c.args.split.now.directory_depth) × (c.args.split.now.directory_depth < 16)
deep g c =
    let depth = depth_of_second_half g.target (local c.args.subtx.now c.args.pages.now) c.args.split.now c.args.place c.requires.0 c.requires.1.may (clean_now g.target (local c.args.subtx.now c.args.pages.now) c.requires.1.may c.requires.1.file) c.requires.1.under_way in
    (depth.0, depth.1)

pub make_dir_page-requires-clause-few : goal.make_dir_page-requires-clause-few
make_dir_page-requires-clause-few g c = split_holds_few g.target (view_over g.target.before (local c.args.subtx.now c.args.pages.now)) c.args.split.now (clean_now g.target (local c.args.subtx.now c.args.pages.now) c.requires.1.may c.requires.1.file) c.requires.1.under_way

pub returns-in-Err-clause-leaves : goal.returns-in-Err-clause-leaves
returns-in-Err-clause-leaves g c =
    let err = c.in-Err.ensures.err in
    leaves_it (local c.args.subtx.now c.args.pages.now) (local c.make_dir_page.new.subtx c.make_dir_page.new.pages) c.requires.1.may
    (same_local _ _ _ _ err.0 err.1)

pub returns-in-Err-clause-steps : goal.returns-in-Err-clause-steps
returns-in-Err-clause-steps g c = left_at g.target (local c.args.subtx.now c.args.pages.now) (local c.make_dir_page.new.subtx c.make_dir_page.new.pages) c.args.split.now (SplitPhase.SecondHalf c.args.place) c.requires.0 (same_local _ _ _ _ c.in-Err.ensures.err.0 c.in-Err.ensures.err.1)

pub returns-in-Err-clause-tells : goal.returns-in-Err-clause-tells
returns-in-Err-clause-tells g c =
    refused_to_make g.target (local c.args.subtx.now c.args.pages.now) (local c.make_dir_page.new.subtx c.make_dir_page.new.pages) c.args.split.now c.args.split.now c.make_dir_page.result c.in-Err.refusal (makes_second_half c.args.split.now.phase c.args.place c.requires.0) c.in-Err.is c.make_dir_page.ensures.no_room c.in-Err.ensures.refusal

pub name_page-requires : goal.name_page-requires
name_page-requires g c = let place = place g (goal.at.name_page-requires g c).Start in omega (arith, place)

pub overflow_mul-place : goal.overflow_mul-place
overflow_mul-place g c = let place = place g (goal.at.overflow_mul-place g c).Start in omega (arith, place)

pub overflow_add-place : goal.overflow_add-place
overflow_add-place g c = let place = place g (goal.at.overflow_add-place g c).Start in omega (arith, place)

pub overflow_add-place-2 : goal.overflow_add-place-2
overflow_add-place-2 g c = let place = place g (goal.at.overflow_add-place-2 g c).Start in omega (arith, place)

pub overflow_sub-split-inside : goal.overflow_sub-split-inside
overflow_sub-split-inside g c = omega (arith, ap (λ (s : SplitFields). s.directory_depth) c.split.view_is, (deep g (goal.at.overflow_sub-split-inside g c).Start).0)

pub overflow_shl-split-inside : goal.overflow_shl-split-inside
overflow_shl-split-inside g c = omega (arith, ap (λ (s : SplitFields). s.directory_depth) c.split.view_is, (deep g (goal.at.overflow_shl-split-inside g c).Start).1)

pub returns-clause-leaves : goal.returns-clause-leaves
returns-clause-leaves g c = leaves_by_making (local c.args.subtx.now c.args.pages.now) (local c.make_dir_page.new.subtx c.make_dir_page.new.pages) c.in-Ok.number _ c.requires.1.may c.in-Ok.ensures.makes

pub returns-clause-steps : goal.returns-clause-steps
returns-clause-steps g c = done_at g.target (local c.args.subtx.now c.args.pages.now) (local c.make_dir_page.new.subtx c.make_dir_page.new.pages) c.args.split.now (SplitPhase.SecondHalf c.args.place) c.requires.0 (c.in-Ok.number, _, c.in-Ok.ensures.makes)

pub returns-clause-tells : goal.returns-clause-tells
returns-clause-tells g c =
    let split = the_view c.split.inside in
    let sized = c.name_page.ensures.places in
    let depth = deep g (goal.at.returns-clause-tells g c).Start in
    let same = ap (λ (s : SplitFields). s.directory_depth) c.split.view_is in
    let pages : (1 * 2 ^ (c.split.inside.directory_depth - 8)) % 2 ^ 64 ≡ 2 ^ (c.split.inside.directory_depth - 8) = one_shl (c.split.inside.directory_depth - 8) 64 (omega (arith, same, depth.1)) in
    elim c.if-place-split.branch [
      | then-place-split w ↦
          goes_on_to_another_page g.target (local c.args.subtx.now c.args.pages.now) (local c.make_dir_page.new.subtx c.make_dir_page.new.pages) split c.args.split.now c.args.place c.in-Ok.number c.name_page.new.made c.if-place-split.split c.split.view_is c.requires.0 c.requires.1.may (clean_now g.target (local c.args.subtx.now c.args.pages.now) c.requires.1.may c.requires.1.file) c.requires.1.under_way
          (rebased_makes_page g.target.before (view_of (local c.args.subtx.now c.args.pages.now)) (view_of (local c.make_dir_page.new.subtx c.make_dir_page.new.pages)) c.requires.1.written c.in-Ok.number (Page.Dir c.split.inside.second) c.in-Ok.ensures.view) sized (omega (arith, pages, w.if-place-split.true)) c.name_page.ensures.named w.split-is
      | else-place-split w ↦
          goes_on_to_the_header g.target (local c.args.subtx.now c.args.pages.now) (local c.make_dir_page.new.subtx c.make_dir_page.new.pages) split c.args.split.now c.args.place c.in-Ok.number c.name_page.new.made c.if-place-split.split c.split.view_is c.requires.0 c.requires.1.may (clean_now g.target (local c.args.subtx.now c.args.pages.now) c.requires.1.may c.requires.1.file) c.requires.1.under_way
          (rebased_makes_page g.target.before (view_of (local c.args.subtx.now c.args.pages.now)) (view_of (local c.make_dir_page.new.subtx c.make_dir_page.new.pages)) c.requires.1.written c.in-Ok.number (Page.Dir c.split.inside.second) c.in-Ok.ensures.view) sized (omega (arith, pages, w.if-place-split.false)) c.name_page.ensures.named w.split-is
    ]
