use Rattle.std.proofs.Common.{sym, ap, ◌∙◌, position}
use Rattle.mlt_hash_form.proofs.Names.{is_live_of, BucketFields}
use Rattle.mlt_hash_form.proofs.Slots.{finds_record}
use Rattle.mlt_hash_form.proofs.look_up.value_in.Goals as goal

pub unreachable-requires : goal.unreachable-requires
unreachable-requires c =
    let found = ap (λ (bucket : BucketFields). position (is_live_of c.args.key) bucket.slots) c.bucket.view_is ∙ sym c.in_ok-at.ensures.place in
    finds_record c.args.key c.bucket.inside.slots c.in_ok-at.at _ found c.in_default.not-Live
