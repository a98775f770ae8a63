use Rattle.std.proofs.Common.{sym, subst}
use Rattle.mlt_manager.proofs.Names.{HasCleanPage, fields_of}
use Rattle.mlt_manager.proofs.Depths.{clean_as_stored, clean_by_image}
use Rattle.mlt_manager.proofs.parts.Parts.clean_page.Goals as goal

pub returns-in-Some : goal.returns-in-Some
returns-in-Some g c =
    let m = fields_of c.args.self.now in
    record { clean = subst (HasCleanPage m c.args.number) (sym c.as_ref.ensures.value) (clean_by_image g.P.Pseudo.bits_of m c.requires.sound c.args.number c.in-Some.first.now c.in-Some.ensures.kept) }

pub returns-in-None : goal.returns-in-None
returns-in-None g c =
    let m = fields_of c.args.self.now in
    record { clean = subst (HasCleanPage m c.args.number) (sym c.read.ensures) (clean_as_stored g.P.Pseudo.bits_of m c.requires.sound c.args.number c.in-None.ensures.none) }
