use Rattle.std.proofs.Common.{◌≡◌, List, sym, ap, subst, ◌∙◌}
use Rattle.mlt_manager.proofs.Names.{Slot, AreSlotsOf, ObjOp, ObjReply}
use Rattle.mlt_object_kinds.specs.Bases.{Base as ObjectBase, TranscriptLeads}
use Rattle.mlt_manager_invariant.{specs.Copies.IsPartOf, proofs.Nothing.empty_part}
use Rattle.mlt_manager.{specs.Images.ImageFields, specs.Images.ShowBase, proofs.Images.made_of_slots}
use Rattle.mlt_manager.proofs.image.BaseImage.base.Goals as goal

pub copy_slots-requires : goal.copy_slots-requires
copy_slots-requires c =
    let of = c.self.invariant in
    record {
      slots = (
        of.0,
        subst (λ (base : ObjectBase). IsPartOf base of.0) (sym c.new-base.ensures) (empty_part of.0),
        subst (λ (slots : List Slot). AreSlotsOf slots of.0) (sym c.deref.ensures.value) of.1,
      );
    }

pub returns-clause-base : goal.returns-clause-base
returns-clause-base c = λ committed image.
    let slots = c.deref.result.now in
    let shown = subst (λ (slots : List Slot). ShowBase slots image.state) (sym (c.deref.ensures.value ∙ ap (λ (i : ImageFields). i.slots) c.self.view_is)) image.shown in
    let part = subst (λ (base : ObjectBase). IsPartOf base image.state) (sym c.new-base.ensures) (empty_part image.state) in
    let made = made_of_slots slots image.state c.new-base.result c.copy_slots.new.base shown (c.in_ok-copy_slots.ensures.copies image.state part shown.of_base) in
    let standing : c.deref-2.result.now ≡ c.args.self.now.standing = c.deref-2.ensures.value ∙ ap (λ (i : ImageFields). i.standing) c.self.view_is in
    let leads = subst (λ (done : List (ObjOp × ObjReply)). TranscriptLeads committed done image.state) (sym standing) image.leads in
    c.in_ok-take_back.ensures.ok committed (subst (TranscriptLeads committed c.deref-2.result.now) (sym made) leads)
