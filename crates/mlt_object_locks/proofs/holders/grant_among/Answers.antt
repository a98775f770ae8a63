use Rattle.std.proofs.Common.{get_or, sym, ◌∙◌, true≢false}
use Rattle.mlt_object_locks.proofs.Names.{bit_of_item}
use Rattle.mlt_object_locks.proofs.{Bits.some_bit, Covering.covers_granted, Holding.found, Holding.granted_once, Holding.grants, Holding.had_bit}
use Rattle.mlt_object_locks.proofs.holders.grant_among.Goals as goal

pub unreachable-requires : goal.unreachable-requires
unreachable-requires c = found c.args.holders.now c.args.tx c.requires (sym c.place_of.ensures ∙ c.in_default.is)

pub returns-clause-grants : goal.returns-clause-grants
returns-clause-grants c =
    grants c.args.holders.now c.args.tx c.in-Some.at c.with_class_of-classes.result (bit_of_item c.args.done.now) c.index-holders-at.result
    (sym c.place_of.ensures ∙ c.in-Some.is) c.with_class_of-classes.ensures

pub returns-clause-idle : goal.returns-clause-idle
returns-clause-idle c = λ busy.
    let holders = c.args.holders.now in
    let d = c.index-holders-at.result in
    let bit = some_bit (get_or holders c.in-Some.at d).classes (λ none. absurd (true≢false (sym (c.is_empty.ensures.1 none) ∙ busy))) in
    (bit.0, had_bit holders c.args.tx c.in-Some.at c.with_class_of-classes.result (bit_of_item c.args.done.now) d (sym c.place_of.ensures ∙ c.in-Some.is) c.with_class_of-classes.ensures bit.0 bit.1)

pub returns-clause-within : goal.returns-clause-within
returns-clause-within c = λ within.
    let at = sym c.place_of.ensures ∙ c.in-Some.is in
    let adds = c.with_class_of-classes.ensures in
    let bit = bit_of_item c.args.done.now in
    let classes = c.with_class_of-classes.result in record {
      once = granted_once c.args.holders.now c.args.tx c.in-Some.at classes bit c.index-holders-at.result at adds within.once;
      covers = covers_granted c.args.all.now c.joined.result classes _ c.args.holders.now _ c.args.tx bit (grants c.args.holders.now c.args.tx c.in-Some.at classes bit c.index-holders-at.result at adds) adds
          c.joined.ensures within.covers;
    }
