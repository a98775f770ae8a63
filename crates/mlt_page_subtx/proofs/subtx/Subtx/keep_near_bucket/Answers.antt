use Rattle.std.proofs.Common.{◌≡◌, Some, ap, ◌∙◌, ◌++◌, arith}
use Rattle.mlt_page_subtx.proofs.Names.{Images, Page, Running, image_of, images_in, images_of}
use Rattle.std.specs.FinMap as map
use Rattle.mlt_page_subtx.proofs.Lists.{KeptOneMore, kept_near}
use Rattle.mlt_page_subtx.proofs.subtx.Subtx.keep_near_bucket.Goals.{After-push_bucket}
use Rattle.mlt_page_subtx.proofs.subtx.Subtx.keep_near_bucket.Goals as goal

one_more : (c : After-push_bucket)
    → KeptOneMore c.self.inside.near (images_in c.self.inside.far.entries) c.push_bucket.new.self (images_in c.self.inside.far.entries) (record { page = c.args.number; first = Some (Page.Bucket c.args.bucket.now) })
one_more c =
    let near = c.self.inside.near in
    let far = images_in c.self.inside.far.entries in
    let same : images_of (near ++ far) ≡ c.args.self.now.images = ap (λ (r : Running). r.images) c.self.view_is in
    kept_near near far c.push_bucket.new.self (record { page = c.args.number; first = Some (Page.Bucket c.args.bucket.now) }) c.self.invariant (ap (λ images. image_of images c.args.number) same ∙ c.requires.anew)
    (omega (arith, c.self.invariant.once, ap map.len same, c.requires.room)) c.push_bucket.ensures

pub invariant_of-self : goal.invariant_of-self
invariant_of-self c = (one_more c).kept

pub returns : goal.returns
returns c =
    ap (λ (images : Images). record { tx = c.self.inside.tx; images = images }) (one_more c).images
    ∙ ap (λ (r : Running). record { tx = r.tx; images = map.insert r.images c.args.number (Some (Page.Bucket c.args.bucket.now)) }) c.self.view_is
