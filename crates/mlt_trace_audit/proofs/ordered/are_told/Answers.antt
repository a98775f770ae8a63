use Rattle.std.proofs.Common.{◌≡◌, ◌<◌, ◌+◌, ◌-◌, ◌∷◌, ◌++◌, [], All, false, length, get_or, slice_set, take, drop, sym, ap, subst, ◌∙◌, rules, take_all, ◌≤◌, List, arith}
use Rattle.std.proofs.lemmas.List.{length-set, Elements.All-get_or}
use Rattle.mlt_trace_audit.proofs.Names.{IsOfHistory, is_told, slice_get-get_or, slice_get_within, same_Some, tx_of}
use Rattle.mlt_trace_audit.specs.{Outcomes.IsClosedSo, Telling.HasTold, declared.progress.Progress.Progress}
use Rattle.mlt_trace_audit.proofs.{Telling.parted, Telling.taken, Told.HaveTold, Told.all_whole, Told.at_most, Told.begun_at, Told.have_item, Told.have_untold, Told.number_of}
use Rattle.mlt_trace_audit.proofs.ordered.are_told.Goals.{then-is_told+else-not-goes_on, else-is_told}
use Rattle.mlt_trace_audit.proofs.ordered.are_told.Goals as goal

pub overflow_sub-number : goal.overflow_sub-number
overflow_sub-number c =
    let begun = begun_at c.args.history.now c.requires.ordered c.loop-item.item-index c.item-item.result c.get-item.result c.loop-item-test.true c.item-item.is c.get-item.ensures (sym c.is_told.ensures ∙ c.if-is_told.true) in
    omega (arith, begun.0, c.tx_of.ensures)

pub outcome_at-outcome-requires-clause-within : goal.outcome_at-outcome-requires-clause-within
outcome_at-outcome-requires-clause-within c =
    let begun = begun_at c.args.history.now c.requires.ordered c.loop-item.item-index c.item-item.result c.get-item.result c.loop-item-test.true c.item-item.is c.get-item.ensures (sym c.is_told.ensures ∙ c.if-is_told.true) in
    omega (arith, begun.0, begun.1, c.tx_of.ensures, c.requires.size)

pub bounds-told-number : goal.bounds-told-number
bounds-told-number c =
    let begun = begun_at c.args.history.now c.requires.ordered c.loop-item.item-index c.item-item.result c.get-item.result c.loop-item-test.true c.item-item.is c.get-item.ensures (sym c.is_told.ensures ∙ c.if-is_told.true) in
    omega (arith, begun.0, begun.1, c.tx_of.ensures, c.requires.size, c.loop-item.invariant.size)

pub goes_on-requires : goal.goes_on-requires
goes_on-requires c =
    let begun = begun_at c.args.history.now c.requires.ordered c.loop-item.item-index c.item-item.result c.get-item.result c.loop-item-test.true c.item-item.is c.get-item.ensures (sym c.is_told.ensures ∙ c.if-is_told.true) in
    let number = number_of c.args.outcomes.now c.args.places.now c.requires.places (c.tx_of.result - 1) (omega (arith, begun.0, begun.1, c.tx_of.ensures, c.requires.size)) c.outcome_at-outcome.result.now c.outcome_at-outcome.ensures in
    record { own = omega (arith, begun.0, number, c.tx_of.ensures) }

pub returns-then-not-goes_on : goal.returns-then-not-goes_on
returns-then-not-goes_on c =
    let l = c.loop-item in
    let history = c.args.history.now in
    let outcomes = c.args.outcomes.now in
    let item = c.item-item.result in
    let o = c.outcome_at-outcome.result.now in
    let begun = begun_at c.args.history.now c.requires.ordered c.loop-item.item-index c.item-item.result c.get-item.result c.loop-item-test.true c.item-item.is c.get-item.ensures (sym c.is_told.ensures ∙ c.if-is_told.true) in
    let k = c.tx_of.result - 1 in
    let few : k < length c.args.places.now = omega (arith, begun.0, begun.1, c.tx_of.ensures, c.requires.size) in
    let number = number_of outcomes c.args.places.now c.requires.places k few o c.outcome_at-outcome.ensures in
    let told = l.invariant.told k few o c.outcome_at-outcome.ensures in (
      λ no. absurd (cc no),
      λ all.
          let at = get_or c.args.places.now k 0 - 1 in
          let there = slice_get_within outcomes at o c.outcome_at-outcome.ensures in
          let here : get_or outcomes at o ≡ o = same_Some _ _ (sym (slice_get-get_or outcomes at o there) ∙ c.outcome_at-outcome.ensures) in
          let closed = subst (IsOfHistory history) here (All-get_or (IsOfHistory history) outcomes at o there all) (omega (arith, number)) in
          let whole = subst (λ items. IsClosedSo o.tx o.done o.end items) (sym (parted history l.item-index item c.loop-item-test.true c.item-item.is)) closed in
          let whole' = subst (λ item. IsClosedSo o.tx o.done o.end (take l.item-index history ++ item ∷ drop (l.item-index + 1) history)) (sym c.get-item.ensures) whole in
          absurd (c.goes_on.ensures.other c.if-not-goes_on.true (take l.item-index history) (drop (l.item-index + 1) history) told whole'),
    )

pub loop-item-preserved : goal.loop-item-preserved
loop-item-preserved c =
    let l = c.loop-item in
    let history = c.args.history.now in
    let outcomes = c.args.outcomes.now in
    let places = c.args.places.now in
    let item = c.item-item.result in
    let front = taken history l.item-index item c.loop-item-test.true c.item-item.is in
    let more = λ (told : List Progress) (have : HaveTold outcomes places told (take l.item-index history ++ item ∷ [])).
    subst (HaveTold outcomes places told) (sym front) have in
    elim c.if-is_told.branch [
      | then-is_told+else-not-goes_on w ↦
          let begun = begun_at history c.requires.ordered l.item-index item c.get-item.result c.loop-item-test.true c.item-item.is c.get-item.ensures (sym c.is_told.ensures ∙ w.if-is_told.true) in
          let n = w.tx_of.result - 1 in
          let few : n < length places = omega (arith, begun.0, begun.1, w.tx_of.ensures, c.requires.size) in
          let of_n : tx_of item ≡ n + 1 = omega (arith, begun.0, w.tx_of.ensures, ap tx_of c.get-item.ensures) in
          let p = w.goes_on.new.self in
          let told = have_item outcomes places c.requires.places l.told l.invariant.size (take l.item-index history) l.invariant.told item n p few of_n (λ o found.
          let is : w.outcome_at-outcome.result.now ≡ o = same_Some _ _ (sym w.outcome_at-outcome.ensures ∙ found) in
          let had = l.invariant.told n few w.outcome_at-outcome.result.now w.outcome_at-outcome.ensures in
          let next = w.goes_on.ensures.told w.if-not-goes_on.false (take l.item-index history) had in
          subst (λ o. HasTold o (take l.item-index history ++ item ∷ []) p) is (subst (λ item. HasTold w.outcome_at-outcome.result.now (take l.item-index history ++ item ∷ []) p) c.get-item.ensures next)) in
          rw w.told-is (record { size = length-set l.told n p ∙ l.invariant.size; told = more (slice_set l.told n p) told })
      | else-is_told w ↦
          let none : is_told item ≡ false = sym (c.is_told.ensures ∙ ap is_told c.get-item.ensures) ∙ w.if-is_told.false in
          let told = have_untold outcomes places c.requires.places l.told l.invariant.size (take l.item-index history) l.invariant.told item none in
          rw w.told-is (record { size = l.invariant.size; told = more l.told told })
    ]

pub are_whole-requires : goal.are_whole-requires
are_whole-requires c =
    subst (λ n. All (λ o. o.tx ≤ n) c.args.outcomes.now) (sym c.loop-item.invariant.size) (at_most c.args.outcomes.now c.args.history.now c.requires.ordered c.requires.numbers c.args.places.now c.requires.places c.requires.size)

pub returns : goal.returns
returns c =
    let l = c.loop-item in
    let whole = subst (HaveTold c.args.outcomes.now c.args.places.now l.told) (take_all l.item-index c.args.history.now (omega (arith, c.loop-item-test.false))) l.invariant.told in
    let all = all_whole c.args.outcomes.now c.args.history.now c.requires.ordered c.requires.numbers c.args.places.now c.requires.places c.requires.size l.told whole in
    (λ yes. all.0 (c.are_whole.ensures.0 yes), λ closed. c.are_whole.ensures.1 (all.1 closed))

pub offset_bounds-told-number : goal.offset_bounds-told-number
offset_bounds-told-number c =
    let begun = begun_at c.args.history.now c.requires.ordered c.loop-item.item-index c.item-item.result c.get-item.result c.loop-item-test.true c.item-item.is c.get-item.ensures (sym c.is_told.ensures ∙ c.if-is_told.true) in
    let within : c.tx_of.result - 1 < length c.loop-item.told = omega (arith, begun.0, begun.1, c.tx_of.ensures, c.requires.size, c.loop-item.invariant.size) in
    search (rules, within)
