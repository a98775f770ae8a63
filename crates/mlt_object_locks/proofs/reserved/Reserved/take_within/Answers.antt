use Rattle.std.proofs.Common.{◌≡◌, None, Some, position, ap, sym, subst, ◌∙◌}
use Rattle.mlt_object_locks.proofs.Names.{reservation_of, CellsWithRoom, HasEachOnce, is_entry_of}
use Rattle.mlt_object_locks.proofs.Entries.{found_value, nothing_found, taken_once, taken_other, taken_own}
use Rattle.mlt_object_locks.proofs.Reservations.{reservation_found}
use Rattle.mlt_object_locks.proofs.reserved.Reserved.take_within.Goals as goal

found : (c : goal.After-swap_remove) → position (is_entry_of c.args.tx) c.self.inside.entries.items ≡ Some c.in-Some.at
found c = ap (position (is_entry_of c.args.tx)) (sym c.deref.ensures.value) ∙ sym c.place_of.ensures ∙ c.in-Some.is

nothing : (c : goal.In-None) → None ≡ reservation_of c.args.self.now.items c.args.tx
nothing c =
    let none = nothing_found c.self.inside.entries.items c.args.tx (ap (position (is_entry_of c.args.tx)) (sym c.deref.ensures.value) ∙ sym c.place_of.ensures ∙ c.in-None.is) in
    sym (ap (λ (r : CellsWithRoom). reservation_of r.items c.args.tx) (sym c.self.view_is) ∙ reservation_found c.self.inside.entries.items c.args.tx ∙ none)

pub invariant_of-self : goal.invariant_of-self
invariant_of-self c = subst HasEachOnce (sym c.swap_remove.ensures.items) (taken_once c.self.inside.entries.items c.args.tx c.in-Some.at c.swap_remove.result (found c) c.self.invariant)

pub returns-in-Some-clause-cell : goal.returns-in-Some-clause-cell
returns-in-Some-clause-cell c =
    let had = found_value c.self.inside.entries.items c.args.tx c.in-Some.at c.swap_remove.result (found c) in
    ap (λ e. Some e.1) c.swap_remove.ensures.value ∙ sym had ∙ sym (reservation_found c.self.inside.entries.items c.args.tx)
    ∙ ap (λ (r : CellsWithRoom). reservation_of r.items c.args.tx) c.self.view_is

pub returns-in-Some-clause-taken : goal.returns-in-Some-clause-taken
returns-in-Some-clause-taken c =
    ap (λ l. reservation_of l c.args.tx) c.swap_remove.ensures.items ∙ reservation_found _ c.args.tx
    ∙ taken_own c.self.inside.entries.items c.args.tx c.in-Some.at c.swap_remove.result (found c) c.self.invariant

pub returns-in-Some-clause-others : goal.returns-in-Some-clause-others
returns-in-Some-clause-others c = λ other ne.
    ap (λ l. reservation_of l other) c.swap_remove.ensures.items ∙ reservation_found _ other
    ∙ taken_other c.self.inside.entries.items c.args.tx c.in-Some.at c.swap_remove.result (found c) c.self.invariant other ne
    ∙ sym (reservation_found c.self.inside.entries.items other)
    ∙ ap (λ (r : CellsWithRoom). reservation_of r.items other) c.self.view_is

pub returns-in-None-clause-cell : goal.returns-in-None-clause-cell
returns-in-None-clause-cell c = nothing c

pub returns-in-None-clause-taken : goal.returns-in-None-clause-taken
returns-in-None-clause-taken c = sym (nothing c)
