use Rattle.std.proofs.Common.{◌≤◌, ℕ, List, Option, length, rules, sym, ap, subst, ◌∙◌, arith}
use Rattle.mlt_object_locks.proofs.Names.{cell_of, HoldsClash, IsLowestOf, Locks, reservation_of, bit_of_item, NotesEach, noted_of, looked_at, places_if_any, places_of, GrantsAt, IsHereAt, IsSound}
use Rattle.mlt_object_locks.proofs.{Clashing.lowest_of_all, Sound.few_places, Sound.sound_granted}
use Rattle.mlt_object_locks.proofs.locks.ObjectLocks.ask_anywhere.Goals as goal

pub returns-in-Some : goal.returns-in-Some
returns-in-Some c =
    let s = c.self.inside in
    let looked = c.as_slice.ensures.value ∙ c.looked_at-looked.ensures ∙ ap looked_at c.op.ensures in
    let all = lowest_of_all s.cells s.reserved.items s.noted s.held.items c.self.invariant c.args.tx c.args.done.now c.requires.range _ c.args.self.now.held looked (ap (λ (l : Locks). l.held) c.self.view_is) c.lowest_clash.result c.lowest_clash.ensures in
    record {
      free = search rules;
      granted = search rules;
      used = search rules;
      others = search rules;
      lowest = subst (IsLowestOf (HoldsClash c.args.self.now.held c.args.tx c.args.done.now)) c.in-Some.is all;
      err = search rules;
    }

pub grant_each-requires-clause-here : goal.grant_each-requires-clause-here
grant_each-requires-clause-here c =
    let s = c.self.inside in
    let tx = c.args.tx in
    let had = ap (λ (l : Locks). reservation_of l.reserved tx) c.self.view_is ∙ c.requires.reserved in
    let here = subst (λ ks. IsHereAt s.cells ks tx) (ap places_if_any had) (c.self.invariant.opened tx) in
    subst (λ ks. IsHereAt s.cells ks tx) (sym (c.as_slice-2.ensures.value ∙ c.places_of-places.ensures ∙ ap places_of c.cell.ensures)) here

pub grant_each-requires-clause-room : goal.grant_each-requires-clause-room
grant_each-requires-clause-room c =
    let s = c.self.inside in
    let tx = c.args.tx in
    let cell = cell_of c.args.done.now.0 in
    let had = ap (λ (l : Locks). reservation_of l.reserved tx) c.self.view_is ∙ c.requires.reserved in
    let room = c.self.invariant.room tx cell had in
    let few = few_places cell in
    let places = c.as_slice-2.ensures.value ∙ c.places_of-places.ensures ∙ ap places_of c.cell.ensures in
    subst (λ (ks : List ℕ). length ks ≤ (noted_of s.noted tx).room) (sym places) (omega arith)

pub invariant_of-self : goal.invariant_of-self
invariant_of-self c =
    let s = c.self.inside in
    let tx = c.args.tx in
    let done = c.args.done.now in
    let now = c.grant_each.new.cells in
    let noted = c.grant_each.new.noted in
    let after = c.take.new.self.items in
    let bit : Option ℕ = bit_of_item done in
    let had = ap (λ (l : Locks). reservation_of l.reserved tx) c.self.view_is ∙ c.requires.reserved in
    let places = c.as_slice-2.ensures.value ∙ c.places_of-places.ensures ∙ ap places_of c.cell.ensures in
    let grants = subst (λ ks. GrantsAt s.cells now ks tx bit) places c.grant_each.ensures.grants in
    let notes = subst (NotesEach (noted_of s.noted tx).keys (noted_of noted tx).keys) places c.grant_each.ensures.notes in
    subst (IsSound now after noted) (sym c.of-self-inside.ensures)
    (sound_granted s.cells now s.reserved.items after s.noted noted s.held.items tx done c.self.invariant had c.requires.range grants c.take.ensures.taken c.take.ensures.others c.grant_each.ensures.others notes)

pub returns : goal.returns
returns c =
    let s = c.self.inside in
    let looked = c.as_slice.ensures.value ∙ c.looked_at-looked.ensures ∙ ap looked_at c.op.ensures in
    let all = lowest_of_all s.cells s.reserved.items s.noted s.held.items c.self.invariant c.args.tx c.args.done.now c.requires.range _ c.args.self.now.held looked (ap (λ (l : Locks). l.held) c.self.view_is) c.lowest_clash.result c.lowest_clash.ensures in
    record {
      free = subst (IsLowestOf (HoldsClash c.args.self.now.held c.args.tx c.args.done.now)) c.in_default.is all;
      granted = search rules;
      used = search rules;
      others = λ other ne. c.take.ensures.others other ne ∙ ap (λ (l : Locks). reservation_of l.reserved other) c.self.view_is;
      lowest = search rules;
      err = search rules;
    }
