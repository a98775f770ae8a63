use Rattle.std.proofs.Common.{◌≡◌, Some, sym, ap, ◌∙◌, option_copied}
use Rattle.mlt_manager.proofs.Names.{Page, fields_of}
use Rattle.mlt_manager.proofs.ListedSlots.{bucket_read, bucket_there}
use Rattle.mlt_manager.proofs.parts.Parts.bucket_in.Goals as goal

pub unreachable-requires : goal.unreachable-requires
unreachable-requires g c =
    let is = bucket_there _ _ c.requires.sound c.args.place _ c.requires.within.1 c.requires.within.2 _ c.requires.directory _ c.entry.ensures _ c.clean_page.ensures.clean in
    cc (is.1, ap option_copied c.in_default.is)

pub unreachable-requires-in_default-page : goal.unreachable-requires-in_default-page
unreachable-requires-in_default-page g c =
    let is = bucket_there _ _ c.requires.sound c.args.place _ c.requires.within.1 c.requires.within.2 _ c.requires.directory _ c.entry.ensures _ c.clean_page.ensures.clean in
    let there : Some c.in-Some.page.now ≡ Some (Page.Bucket is.0) = sym (ap option_copied c.in-Some.is) ∙ is.1 in
    c.in_default-page.not-Bucket is.0 (cc there)

pub returns : goal.returns
returns g c =
    record {
      bucket = bucket_read g.P.Pseudo.bits_of (fields_of c.args.self.now) c.requires.sound c.args.place c.args.directory.now c.requires.directory
          c.entry.result c.entry.ensures c.in-Bucket.bucket (option_copied c.clean_page.result) c.clean_page.ensures.clean (ap option_copied c.in-Some.is ∙ ap Some c.in-Bucket.is);
    }
