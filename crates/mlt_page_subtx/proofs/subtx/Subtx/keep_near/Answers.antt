use Rattle.std.proofs.Common.{◌≡◌, ap, ◌∙◌, ◌++◌, arith}
use Rattle.mlt_page_subtx.proofs.Names.{Images, Running, image_of, images_in, images_of}
use Rattle.std.specs.FinMap as map
use Rattle.mlt_page_subtx.proofs.Lists.{KeptOneMore, kept_near}
use Rattle.mlt_page_subtx.proofs.subtx.Subtx.keep_near.Goals.{After-push}
use Rattle.mlt_page_subtx.proofs.subtx.Subtx.keep_near.Goals as goal

one_more : (c : After-push)
    → KeptOneMore c.self.inside.near (images_in c.self.inside.far.entries) c.push.new.self (images_in c.self.inside.far.entries) (record { page = c.args.page; first = c.args.first })
one_more c =
    let near = c.self.inside.near in
    let far = images_in c.self.inside.far.entries in
    let same : images_of (near ++ far) ≡ c.args.self.now.images = ap (λ (r : Running). r.images) c.self.view_is in
    kept_near near far c.push.new.self (record { page = c.args.page; first = c.args.first }) c.self.invariant (ap (λ images. image_of images c.args.page) same ∙ c.requires.anew)
    (omega (arith, c.self.invariant.once, ap map.len same, c.requires.room)) c.push.ensures

pub invariant_of-self : goal.invariant_of-self
invariant_of-self c = (one_more c).kept

pub returns : goal.returns
returns c =
    ap (λ (images : Images). record { tx = c.self.inside.tx; images = images }) (one_more c).images
    ∙ ap (λ (r : Running). record { tx = r.tx; images = map.insert r.images c.args.page c.args.first }) c.self.view_is
