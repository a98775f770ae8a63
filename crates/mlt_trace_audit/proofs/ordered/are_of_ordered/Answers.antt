use Rattle.std.proofs.Common.{◌≡◌, ◌++◌, drop, length, subst, sym, take, ◌∙◌, arith}
use Rattle.std.proofs.lemmas.{Grind.common_steps, List.take_at}
use Rattle.mlt_trace_audit.specs.Telling.{ArePlacesOf}
use Rattle.mlt_trace_audit.proofs.ordered.are_of_ordered.Goals as goal

pub are_told-requires-clause-places : goal.are_told-requires-clause-places
are_told-requires-clause-places c =
    let new = c.numbers_agree.new.places in
    let long : length new ≡ c.in-Ok.places.len = grind (arith, common_steps, c.numbers_agree.ensures.size, c.deref_mut.ensures.len, c.deref_mut.ensures.value, c.in-Ok.ensures.len, c.in-Ok.ensures.items) in
    let same : take c.in-Ok.places.len (new ++ drop (length new) c.in-Ok.places.items) ≡ new = take_at new (drop (length new) c.in-Ok.places.items) c.in-Ok.places.len long in
    subst (λ places. ArePlacesOf places c.args.outcomes.now) (sym (c.deref.ensures.value ∙ same)) (c.numbers_agree.ensures.places c.if-numbers_agree.true)
