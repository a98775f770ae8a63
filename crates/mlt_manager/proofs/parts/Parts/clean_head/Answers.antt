use Rattle.std.proofs.Common.{◌≡◌, Some, sym, ap, ◌∙◌, option_copied}
use Rattle.mlt_manager.proofs.Names.{Page, header_of, fields_of}
use Rattle.mlt_manager.proofs.{ListedSlots.head_read, Depths.clean_header}
use Rattle.mlt_manager.proofs.parts.Parts.clean_head.Goals as goal

pub unreachable-requires : goal.unreachable-requires
unreachable-requires g c = cc (clean_header _ _ c.requires.sound _ c.clean_page.ensures.clean, ap option_copied c.in_default.is)

pub unreachable-requires-in_default-page : goal.unreachable-requires-in_default-page
unreachable-requires-in_default-page g c =
    let header = header_of (option_copied c.clean_page.result) in
    let there : Some c.in-Some.page.now ≡ Some (Page.Head header) = sym (ap option_copied c.in-Some.is) ∙ clean_header _ _ c.requires.sound _ c.clean_page.ensures.clean in
    c.in_default-page.not-Head header (cc there)

pub returns : goal.returns
returns g c =
    record { head = head_read g.P.Pseudo.bits_of (fields_of c.args.self.now) c.requires.sound c.get.result.now (option_copied c.clean_page.result) c.clean_page.ensures.clean (ap option_copied c.in-Some.is ∙ ap Some c.in-Head.is ∙ ap (λ head. Some (Page.Head head)) (sym c.get.ensures)) }
