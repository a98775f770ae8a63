use Rattle.std.proofs.Common.{◌≡◌, None, Some, sym, ap, ◌∙◌, option_copied, find}
use Rattle.mlt_page_subtx.proofs.Names.{Running, image_of, images_in}
use Rattle.mlt_page_subtx.proofs.Lists.{is_of, image_of-far, image_of-near}
use Rattle.mlt_page_subtx.proofs.subtx.Subtx.first_image.Goals as goal

pub returns-in-Some : goal.returns-in-Some
returns-in-Some c =
    let found : find (is_of c.args.page) c.self.inside.near ≡ Some c.in-Some.image.now =
    ap (find (is_of c.args.page)) (sym c.as_slice.ensures) ∙ sym c.find_image.ensures ∙ ap option_copied c.in-Some.is in
    sym (image_of-near c.self.inside.near (images_in c.self.inside.far.entries) c.args.page c.in-Some.image.now found)
    ∙ ap (λ (r : Running). image_of r.images c.args.page) c.self.view_is

pub returns-in-None : goal.returns-in-None
returns-in-None c =
    let none : find (is_of c.args.page) c.self.inside.near ≡ None =
    ap (find (is_of c.args.page)) (sym c.as_slice.ensures) ∙ sym c.find_image.ensures ∙ ap option_copied c.in-None.is in
    c.get.ensures.value ∙ sym (image_of-far c.self.inside.near c.self.inside.far.entries c.args.page none)
    ∙ ap (λ (r : Running). image_of r.images c.args.page) c.self.view_is
