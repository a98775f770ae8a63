use Rattle.std.proofs.Common.{◌-◌, Some, rules, ap, get_or, sym, ◌∙◌, arith}
use Rattle.mlt_trace_audit.proofs.Names.{slice_get-get_or, slice_get_within}
use Rattle.mlt_trace_audit.proofs.ordered.outcome_at.Goals as goal

pub overflow_sub-result : goal.overflow_sub-result
overflow_sub-result c = let n = c.requires.places c.args.number c.requires.within in omega (arith, n.1)

pub bounds-outcomes-places : goal.bounds-outcomes-places
bounds-outcomes-places c =
    let n = c.requires.places c.args.number c.requires.within in
    slice_get_within c.args.outcomes.now (get_or c.args.places.now c.args.number 0 - 1) n.0 n.2

pub returns : goal.returns
returns c =
    let n = c.requires.places c.args.number c.requires.within in
    let within = slice_get_within c.args.outcomes.now (get_or c.args.places.now c.args.number 0 - 1) n.0 n.2 in
    slice_get-get_or c.args.outcomes.now (get_or c.args.places.now c.args.number 0 - 1) c.index-outcomes-places.result within ∙ ap Some (sym c.index-outcomes-places.is)

pub offset_bounds-outcomes-places : goal.offset_bounds-outcomes-places
offset_bounds-outcomes-places c =
    let n = c.requires.places c.args.number c.requires.within in
    let within = slice_get_within c.args.outcomes.now (get_or c.args.places.now c.args.number 0 - 1) n.0 n.2 in
    search (rules, within)
