use Rattle.std.proofs.Common.{◌≡◌, is_some, sym, ap, ◌∙◌, arith}
use Rattle.std.specs.FinMap as map
use Rattle.mlt_page_subtx.proofs.Names.{PageStore, Running, page_at, put_back}
use Rattle.mlt_page_subtx.proofs.ImageLaws.{not_there, put_back-write, with_image-absent, with_image-present}
use Rattle.mlt_page_subtx.proofs.subtx.Subtx.write.Goals as goal

pub returns-then-has_image-clause-kept : goal.returns-then-has_image-clause-kept
returns-then-has_image-clause-kept c =
    let images = c.args.self.now.images in
    let pages = c.args.store.now.pages in
    let first = page_at pages c.args.number in
    let written : c.write.new.self.pages ≡ map.insert pages c.args.number c.args.page = ap (λ (s : PageStore). s.pages) (c.write.ensures.pages (grind (arith, c.write.ensures.written.1, c.requires))) in
    let same = sym (with_image-present images c.args.number first (sym c.has_image.ensures ∙ c.if-has_image.true)) in
    (λ i. put_back (same i) (written i)) ∙ put_back-write images pages c.args.number c.args.page

pub returns-then-has_near_room-clause-kept : goal.returns-then-has_near_room-clause-kept
returns-then-has_near_room-clause-kept c =
    let images = c.args.self.now.images in
    let pages = c.args.store.now.pages in
    let first = page_at pages c.args.number in
    let none = not_there _ (sym c.has_image.ensures ∙ c.if-has_image.false) in
    let written : c.replace-first.new.self.pages ≡ map.insert pages c.args.number c.args.page = ap (λ (s : PageStore). s.pages) (c.replace-first.ensures.pages (ap is_some c.replace-first.ensures.old ∙ c.requires)) in
    let kept = ap (λ (r : Running). r.images) c.keep_near.ensures ∙ ap (map.insert images c.args.number) c.replace-first.ensures.old ∙ sym (with_image-absent images c.args.number first none) in
    (λ i. put_back (kept i) (written i)) ∙ put_back-write images pages c.args.number c.args.page

pub returns-in_ok-keep_far-clause-kept : goal.returns-in_ok-keep_far-clause-kept
returns-in_ok-keep_far-clause-kept c =
    let images = c.args.self.now.images in
    let pages = c.args.store.now.pages in
    let first = page_at pages c.args.number in
    let none = not_there _ (sym c.has_image.ensures ∙ c.if-has_image.false) in
    let written : c.write-else-has_near_room.new.self.pages ≡ map.insert pages c.args.number c.args.page =
    ap (λ (s : PageStore). s.pages) (c.write-else-has_near_room.ensures.pages (grind (arith, c.write-else-has_near_room.ensures.written.1, c.requires))) in
    let kept = ap (λ (r : Running). r.images) c.in_ok-keep_far.ensures.ok ∙ ap (map.insert images c.args.number) c.in_ok-first.ensures.copy ∙ sym (with_image-absent images c.args.number first none) in
    (λ i. put_back (kept i) (written i)) ∙ put_back-write images pages c.args.number c.args.page
