use Rattle.std.proofs.Common.{sym}
use Rattle.std.proofs.lemmas.List.Quantifiers.{position-Some}
use Rattle.mlt_page.specs.declared.slot.Slot.TheVariants.{Free, Live}
use Rattle.mlt_hash_form.{specs.Plans.has_room, proofs.Places.nowhere, proofs.Places.first_found, proofs.Changes.put_sets_pair}
use Rattle.mlt_hash_form.proofs.change.insert.Goals as goal

pub returns-in_err-at-clause-plan : goal.returns-in_err-at-clause-plan
returns-in_err-at-clause-plan c = rw c.from_residual.ensures (nowhere (has_room c.args.active.now) c.args.bucket.now.slots (sym c.in_err-at.ensures.place))

pub returns-clause-plan : goal.returns-clause-plan
returns-clause-plan c = first_found (has_room c.args.active.now) c.args.number c.args.bucket.now (Live c.args.key c.args.value) c.in_ok-at.at c.in_ok-at.ensures.within (sym c.in_ok-at.ensures.place)

pub returns-clause-pairs : goal.returns-clause-pairs
returns-clause-pairs c =
    let at = position-Some (has_room c.args.active.now) c.args.bucket.now.slots c.in_ok-at.at Free (sym c.in_ok-at.ensures.place) in
    put_sets_pair c.args.active.now c.args.bucket.now.slots c.args.key c.args.value c.in_ok-at.at c.requires at.0 at.1
