use Rattle.std.proofs.Common.{◌∙◌}
use Rattle.mlt_page.specs.Pages.{page_with_slot}
use Rattle.mlt_page_subtx.proofs.Names.{put_back}
use Rattle.mlt_page_subtx.proofs.ImageLaws.{put_back-write}
use Rattle.mlt_page_subtx.proofs.subtx.Subtx.write_slot.Goals as goal

pub returns-clause-kept : goal.returns-clause-kept
returns-clause-kept c =
    let bucket = c.requires.bucket in
    (λ i. put_back (c.in_ok-keep_bucket.ensures.images i).images (c.set_slot.ensures.set bucket.0 bucket.1 i).pages)
    ∙ put_back-write c.args.self.now.images c.args.store.now.pages c.args.number (page_with_slot bucket.0 c.args.at c.args.slot)
