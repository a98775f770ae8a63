use Rattle.std.proofs.Common.{◌≡◌, None, Some, position, refl, ap, sym, subst, ◌∙◌}
use Rattle.mlt_object_locks.proofs.Names.{reservation_of, CellsWithRoom, HasEachOnce, is_entry_of, value_of}
use Rattle.mlt_object_locks.proofs.Entries.{changed_once, changed_other, changed_own, found_value, nothing_found, pushed_once, pushed_other, pushed_own}
use Rattle.mlt_object_locks.proofs.Reservations.{reservation_found}
use Rattle.mlt_object_locks.proofs.reserved.Reserved.put.Goals as goal

found : (c : goal.After-self-1) → position (is_entry_of c.args.tx) c.self.inside.entries.items ≡ Some c.in-Some.at
found c = ap (position (is_entry_of c.args.tx)) (sym c.deref.ensures.value) ∙ sym c.place_of.ensures ∙ c.in-Some.is

none : (c : goal.After-push_reserved) → value_of c.self.inside.entries.items c.args.tx ≡ None
none c =
    nothing_found c.self.inside.entries.items c.args.tx (ap (position (is_entry_of c.args.tx)) (sym c.deref.ensures.value) ∙ sym c.place_of.ensures ∙ c.in-None.is)

pub invariant_of-self : goal.invariant_of-self
invariant_of-self c = changed_once c.self.inside.entries.items c.args.tx c.in-Some.at c.index.result.now (found c) (c.args.tx, c.args.cell) refl c.self.invariant

pub invariant_of-self-in-None : goal.invariant_of-self-in-None
invariant_of-self-in-None c = subst HasEachOnce (sym c.push_reserved.ensures.items) (pushed_once c.self.inside.entries.items c.args.tx c.args.cell (none c) c.self.invariant)

pub returns-in-Some-clause-before : goal.returns-in-Some-clause-before
returns-in-Some-clause-before c =
    let had = found_value c.self.inside.entries.items c.args.tx c.in-Some.at c.index.result.now (found c) in
    ap (λ e. Some e.1) c.index.ensures ∙ sym had ∙ sym (reservation_found c.self.inside.entries.items c.args.tx)
    ∙ ap (λ (r : CellsWithRoom). reservation_of r.items c.args.tx) c.self.view_is

pub returns-in-Some-clause-reserved : goal.returns-in-Some-clause-reserved
returns-in-Some-clause-reserved c =
    reservation_found _ c.args.tx ∙ changed_own c.self.inside.entries.items c.args.tx c.in-Some.at c.index.result.now (found c) (c.args.tx, c.args.cell) refl

pub returns-in-Some-clause-others : goal.returns-in-Some-clause-others
returns-in-Some-clause-others c = λ other ne.
    reservation_found _ other
    ∙ changed_other c.self.inside.entries.items c.args.tx c.in-Some.at c.index.result.now (found c) (c.args.tx, c.args.cell) refl other ne
    ∙ sym (reservation_found c.self.inside.entries.items other)
    ∙ ap (λ (r : CellsWithRoom). reservation_of r.items other) c.self.view_is

pub returns-in-None-clause-before : goal.returns-in-None-clause-before
returns-in-None-clause-before c =
    sym (none c) ∙ sym (reservation_found c.self.inside.entries.items c.args.tx)
    ∙ ap (λ (r : CellsWithRoom). reservation_of r.items c.args.tx) c.self.view_is

pub returns-in-None-clause-reserved : goal.returns-in-None-clause-reserved
returns-in-None-clause-reserved c =
    ap (λ l. reservation_of l c.args.tx) c.push_reserved.ensures.items ∙ reservation_found _ c.args.tx
    ∙ pushed_own c.self.inside.entries.items c.args.tx c.args.cell (none c)

pub returns-in-None-clause-others : goal.returns-in-None-clause-others
returns-in-None-clause-others c = λ other ne.
    ap (λ l. reservation_of l other) c.push_reserved.ensures.items ∙ reservation_found _ other
    ∙ pushed_other c.self.inside.entries.items c.args.tx c.args.cell other ne
    ∙ sym (reservation_found c.self.inside.entries.items other)
    ∙ ap (λ (r : CellsWithRoom). reservation_of r.items other) c.self.view_is
