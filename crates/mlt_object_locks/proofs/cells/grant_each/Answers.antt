use Rattle.std.proofs.Common.{[], take, ap, sym, subst, ◌∙◌, arith, unwrap_or}
use Rattle.mlt_object_locks.proofs.Names.{take_more, Contains-get_or, bit_of_item, IsHere, holder_of, GrantsAt, NotesEach, noted_of}
use Rattle.mlt_object_locks.proofs.{Changes.bits_noted_more, Changes.granted_more, Membership.none_in_empty, Notes.notes_more}
use Rattle.mlt_object_locks.proofs.cells.grant_each.Goals as goal

pub unreachable-requires : goal.unreachable-requires
unreachable-requires c =
    let here = c.loop-place.invariant.grants.stays _ c.args.tx (c.requires.here _ (Contains-get_or c.args.places.now c.loop-place.place-index 0 c.loop-place-test.true)) in
    let nobody = subst (λ holders. IsHere holders c.args.tx) (ap (λ o. unwrap_or o []) c.in_default.ensures.none) here in
    none_in_empty (holder_of c.args.tx nobody.0) nobody.1

pub grant-requires-clause-here : goal.grant-requires-clause-here
grant-requires-clause-here c =
    c.loop-place.invariant.grants.stays _ c.args.tx (c.requires.here _ (Contains-get_or c.args.places.now c.loop-place.place-index 0 c.loop-place-test.true))

pub grant-requires-clause-noted : goal.grant-requires-clause-noted
grant-requires-clause-noted c =
    let so_far = c.loop-place.invariant in
    bits_noted_more c.args.cells.now c.loop-place.cells c.args.noted.now c.loop-place.noted (take c.loop-place.place-index c.args.places.now) c.args.tx (bit_of_item c.args.done.now) c.requires.noted so_far.grants so_far.others so_far.notes

pub loop-place-preserved : goal.loop-place-preserved
loop-place-preserved c =
    let at = c.loop-place.place-index in
    let places = c.args.places.now in
    let tx = c.args.tx in
    let bit = bit_of_item c.args.done.now in
    let so_far = c.loop-place.invariant in
    let more = sym (take_more places at 0 c.loop-place-test.true) in
    let start = noted_of c.args.noted.now tx in
    let mid = noted_of c.loop-place.noted tx in
    let now = noted_of c.grant.new.noted tx in
    record {
      grants = subst (λ ks. GrantsAt c.args.cells.now c.grant.new.cells ks tx bit) more
          (granted_more c.args.cells.now c.loop-place.cells c.grant.new.cells (take at places) _ tx c.grant.ensures.cells bit so_far.grants c.grant.ensures.grants);
      others = λ other ne. c.grant.ensures.others other ne ∙ so_far.others other ne;
      notes = subst (λ ks. NotesEach start.keys now.keys ks) more (notes_more start.keys mid.keys now.keys (take at places) _ so_far.notes c.grant.ensures.notes);
      room = let before = so_far.room in let after = c.grant.ensures.room in omega arith;
    }
