use Rattle.std.proofs.Common.{◌≡◌, ◌⊎◌, None, Some, refl, sym, ap, subst, inl, inr}
use Rattle.mlt_tx_two_records.proofs.Names.{LocalState, local, view_of, HasChanged, IsFinding, WalkContext, context_in}
use Rattle.mlt_hash_pair.specs.Pairs.{FileRoot}
use Rattle.mlt_tx_two_records.proofs.FirstBuckets.{asked_fits_both, both_or_none, full_stays, told_changed, told_full, told_nothing, told_one_left}
use Rattle.mlt_tx_two_records.proofs.{RollingBack.rolls_back, first.act_on_both.Goals.in_default-via-in-Some+in_default, first.act_on_both.Goals.in_default-via-in_default}
use Rattle.mlt_tx_two_records.proofs.first.act_on_both.Goals as goal

pub returns-in_default : goal.returns-in_default
returns-in_default g c =
    let decided = c.decide-reply.result in
    let alike = both_or_none _ _ c.args.request.now c.args.pair.now c.args.own c.args.size c.requires.1.1 decided c.decide-reply.ensures.told c.resize-resize.result c.resize-resize.ensures.change c.resize-resize.ensures.both in
    let none : (decided.1 ≡ None) ⊎ (c.resize-resize.result ≡ None) = elim c.in_default.branch [
      | in_default-via-in-Some+in_default w ↦ inr w.in_default.is-1
      | in_default-via-in_default w ↦ inl w.in_default.is-0
    ] in
    record { tells = told_nothing _ _ c.args.request.now c.args.pair.now c.args.own c.args.size c.requires.1.1 decided c.decide-reply.ensures.told c.resize-resize.result c.resize-resize.ensures.change alike none }

pub change-requires : goal.change-requires
change-requires g c =
    let old : LocalState = local c.args.subtx.now c.args.pages.now in (
      c.requires.1.1.may,
      (
        subst (λ (r : FileRoot). IsFinding r.bits r.root c.args.pair.now (view_of old)) (sym c.requires.1.0) c.requires.1.1.finding,
        (
          c.requires.1.1.found,
          (
            inl refl,
            asked_fits_both _ old c.args.request.now c.args.pair.now c.args.own c.args.size c.requires.1.1 c.decide-reply.result c.decide-reply.ensures.told c.resize-resize.result c.resize-resize.ensures.change
                c.in-Some-Some.change c.in-Some-Some.is-0 c.in-Some-Some.resize c.in-Some-Some.is-1 c.decide-reply.ensures.fits
                (record { left = Some c.asked_for.result; right = Some c.asked_for-2.result }) (ap Some c.asked_for.ensures) (ap Some c.asked_for-2.ensures),
          ),
        ),
      ),
    )

pub returns-in-Changed : goal.returns-in-Changed
returns-in-Changed g c =
    let context : WalkContext = context_in g.P.Pseudo.bits_of c.args.environment.now c.args.subtx.now.tx in
    let new : LocalState = local c.change.new.subtx c.change.new.pages in
    let changed : HasChanged context.bits context.root context.active context.tx c.change.new.self (view_of new) = subst (λ (r : FileRoot). HasChanged r.bits r.root context.active context.tx c.change.new.self (view_of new)) c.requires.1.0 c.in-Changed.ensures.stands in
    record {
      tells = (
        record { leaves = c.in-Changed.ensures.leaves; writes = c.in-Changed.ensures.writes },
        told_changed context _ c.args.request.now c.args.pair.now c.args.own c.args.size c.requires.1.1 c.decide-reply.result c.decide-reply.ensures.told c.resize-resize.result c.resize-resize.ensures.change
            c.in-Some-Some.change c.in-Some-Some.is-0 c.in-Some-Some.resize c.in-Some-Some.is-1 c.decide-reply.ensures.fits new c.change.new.self
            (record { left = Some c.asked_for.result; right = Some c.asked_for-2.result }) (ap Some c.asked_for.ensures) (ap Some c.asked_for-2.ensures)
            c.in-Changed.ensures.tells refl changed,
      );
    }

pub returns-in-OneLeft : goal.returns-in-OneLeft
returns-in-OneLeft g c =
    let context : WalkContext = context_in g.P.Pseudo.bits_of c.args.environment.now c.args.subtx.now.tx in
    let new : LocalState = local c.change.new.subtx c.change.new.pages in
    let changed : HasChanged context.bits context.root context.active context.tx c.change.new.self (view_of new) = subst (λ (r : FileRoot). HasChanged r.bits r.root context.active context.tx c.change.new.self (view_of new)) c.requires.1.0 c.in-OneLeft.ensures.stands in
    record {
      tells = (
        record { leaves = c.in-OneLeft.ensures.leaves; writes = c.in-OneLeft.ensures.writes },
        told_one_left context _ c.args.request.now c.args.pair.now c.args.own c.args.size c.requires.1.1 c.decide-reply.result c.decide-reply.ensures.told c.resize-resize.result c.resize-resize.ensures.change
            c.in-Some-Some.change c.in-Some-Some.is-0 c.in-Some-Some.resize c.in-Some-Some.is-1 c.decide-reply.ensures.fits new c.change.new.self
            (record { left = Some c.asked_for.result; right = Some c.asked_for-2.result }) (ap Some c.asked_for.ensures) (ap Some c.asked_for-2.ensures)
            c.in-OneLeft.ensures.tells refl changed,
      );
    }

pub returns-in-Full : goal.returns-in-Full
returns-in-Full g c =
    let old : LocalState = local c.args.subtx.now c.args.pages.now in
    let mid : LocalState = local c.change.new.subtx c.change.new.pages in
    let stays : mid ≡ old = full_stays _ old c.args.request.now c.args.pair.now c.args.own c.args.size c.requires.1.1 c.decide-reply.result c.decide-reply.ensures.told c.resize-resize.result c.resize-resize.ensures.change
    c.in-Some-Some.change c.in-Some-Some.is-0 c.in-Some-Some.resize c.in-Some-Some.is-1 c.decide-reply.ensures.fits mid c.change.new.self
    (record { left = Some c.asked_for.result; right = Some c.asked_for-2.result }) (ap Some c.asked_for.ensures) (ap Some c.asked_for-2.ensures)
    c.in-Full.field-0 c.in-Full.ensures.tells
    in
    let back = rolls_back old mid _ stays c.roll_back.ensures.store c.roll_back.ensures.locks c.roll_back.ensures.images in
    record {
      tells = told_full _ old c.args.request.now c.args.pair.now c.args.own c.args.size c.requires.1.1 c.decide-reply.result c.decide-reply.ensures.told c.resize-resize.result c.resize-resize.ensures.change
          c.in-Some-Some.change c.in-Some-Some.is-0 c.in-Some-Some.resize c.in-Some-Some.is-1 c.decide-reply.ensures.fits mid c.change.new.self
          (record { left = Some c.asked_for.result; right = Some c.asked_for-2.result }) (ap Some c.asked_for.ensures) (ap Some c.asked_for-2.ensures)
          c.in-Full.field-0 c.in-Full.ensures.tells refl _ back;
    }
