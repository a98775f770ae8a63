use Rattle.std.proofs.Common.{refl, ap, ◌∙◌}
use Rattle.std.specs.FinMap as map
use Rattle.mlt_page_subtx.proofs.Names.{PageStore, put_back}
use Rattle.mlt_page_subtx.proofs.ImageLaws.{fresh_has_no_image, put_back-made, dropped_again}
use Rattle.mlt_page_subtx.proofs.subtx.Subtx.grow.Goals as goal

pub returns-in-Err-clause-err : goal.returns-in-Err-clause-err
returns-in-Err-clause-err c = (
  c.in-Err.ensures.err,
  c.drop_page.ensures.pages ∙ ap (λ (s : PageStore). record { pages = map.remove s.pages c.in_ok-number.number; max_pages = s.max_pages }) c.in_ok-number.ensures.made
      ∙ ap (λ pages. record { pages = pages; max_pages = c.args.store.now.max_pages }) (dropped_again c.args.store.now.pages c.in_ok-number.number c.args.page c.in_ok-number.ensures.fresh),
  refl,
)

pub returns-clause-kept : goal.returns-clause-kept
returns-clause-kept c =
    (λ i. put_back (c.in_default.ensures.ok i).images (c.in_ok-number.ensures.made i).pages)
    ∙ put_back-made c.args.self.now.images c.args.store.now.pages c.in_ok-number.number c.args.page c.in_ok-number.ensures.fresh
    (fresh_has_no_image c.args.self.now.images c.args.store.now.pages c.in_ok-number.number c.requires.there c.in_ok-number.ensures.fresh)
