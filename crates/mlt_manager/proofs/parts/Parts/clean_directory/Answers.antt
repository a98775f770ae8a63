use Rattle.std.proofs.Common.{◌≡◌, Some, sym, ap, ◌∙◌, option_copied}
use Rattle.mlt_manager.proofs.Names.{Page, fields_of}
use Rattle.mlt_manager.proofs.ListedSlots.{directory_read, directory_there, few_places}
use Rattle.mlt_manager.proofs.parts.Parts.clean_directory.Goals as goal

pub dir-requires : goal.dir-requires
dir-requires g c = let within = c.requires.within in few_places g.P.Pseudo.bits_of (fields_of c.args.self.now) c.requires.sound c.args.place within.0 within.1 within.2

pub unreachable-requires : goal.unreachable-requires
unreachable-requires g c =
    let is = directory_there _ _ c.requires.sound c.args.place _ c.requires.within.1 c.requires.within.2 _ c.clean_head-head.ensures.head _ c.dir.ensures _ c.clean_page.ensures.clean in
    cc (is.1, ap option_copied c.in_default.is)

pub unreachable-requires-in_default-page : goal.unreachable-requires-in_default-page
unreachable-requires-in_default-page g c =
    let is = directory_there _ _ c.requires.sound c.args.place _ c.requires.within.1 c.requires.within.2 _ c.clean_head-head.ensures.head _ c.dir.ensures _ c.clean_page.ensures.clean in
    let there : Some c.in-Some.page.now ≡ Some (Page.Dir is.0) = sym (ap option_copied c.in-Some.is) ∙ is.1 in
    c.in_default-page.not-Dir is.0 (cc there)

pub returns : goal.returns
returns g c =
    record {
      directory = directory_read g.P.Pseudo.bits_of (fields_of c.args.self.now) c.requires.sound c.args.place c.clean_head-head.result.now c.clean_head-head.ensures.head
          c.dir.result c.dir.ensures c.get.result.now (option_copied c.clean_page.result) c.clean_page.ensures.clean (ap option_copied c.in-Some.is ∙ ap Some c.in-Dir.is ∙ ap (λ directory. Some (Page.Dir directory)) (sym c.get.ensures));
    }
