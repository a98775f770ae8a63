use Rattle.std.proofs.Common.{sym}
use Rattle.std.proofs.lemmas.List.Quantifiers.{position-Some}
use Rattle.mlt_page.specs.{Slots.is_live_of, declared.slot.Slot.TheVariants.Free, declared.slot.Slot.TheVariants.Ghost}
use Rattle.mlt_hash_form.proofs.{Places.nowhere, Places.first_found, Changes.remove_sets_pair}
use Rattle.mlt_hash_form.proofs.change.remove.Goals as goal

pub returns-in_err-at-clause-plan : goal.returns-in_err-at-clause-plan
returns-in_err-at-clause-plan c = rw c.from_residual.ensures (nowhere (is_live_of c.args.key) c.args.bucket.now.slots (sym c.in_err-at.ensures.place))

pub returns-clause-plan : goal.returns-clause-plan
returns-clause-plan c = first_found (is_live_of c.args.key) c.args.number c.args.bucket.now (Ghost c.args.key 0 c.args.owner) c.in_ok-at.at c.in_ok-at.ensures.within (sym c.in_ok-at.ensures.place)

pub returns-clause-pairs : goal.returns-clause-pairs
returns-clause-pairs c =
    let at = position-Some (is_live_of c.args.key) c.args.bucket.now.slots c.in_ok-at.at Free (sym c.in_ok-at.ensures.place) in
    remove_sets_pair c.args.bucket.now.slots c.args.key c.args.owner c.in_ok-at.at at.0 at.1
