use Rattle.std.proofs.Common.{refl}
use Rattle.mlt_manager.proofs.Names.{fields_of}
use Rattle.mlt_manager.proofs.LeftBases.{image_of_committed}
use Rattle.mlt_manager.proofs.parts.Parts.image.Goals as goal

pub returns-clause-image : goal.returns-clause-image
returns-clause-image g c =
    image_of_committed g.P.Pseudo.bits_of (fields_of c.args.self.now) c.requires.sound
    (record { slots = c.in_ok-slots.slots.items; standing = c.in_ok-standing.standing.items; commits = c.args.self.now.commits })
    c.in_ok-slots.ensures.slots c.in_ok-standing.ensures.leads refl
