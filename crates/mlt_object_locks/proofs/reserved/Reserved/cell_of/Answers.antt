use Rattle.std.proofs.Common.{◌≡◌, None, Some, position, ap, sym, ◌∙◌}
use Rattle.mlt_object_locks.proofs.Names.{reservation_of, CellsWithRoom, is_entry_of}
use Rattle.mlt_object_locks.proofs.{Entries.found_value, Entries.nothing_found, Reservations.reservation_found}
use Rattle.mlt_object_locks.proofs.reserved.Reserved.cell_of.Goals as goal

nothing : (c : goal.In-None) → None ≡ reservation_of c.args.self.now.items c.args.tx
nothing c =
    let none = nothing_found c.self.inside.entries.items c.args.tx (ap (position (is_entry_of c.args.tx)) (sym c.deref.ensures.value) ∙ sym c.place_of.ensures ∙ c.in-None.is) in
    sym (ap (λ (r : CellsWithRoom). reservation_of r.items c.args.tx) (sym c.self.view_is) ∙ reservation_found c.self.inside.entries.items c.args.tx ∙ none)

pub returns-in-Some : goal.returns-in-Some
returns-in-Some c =
    let found = ap (position (is_entry_of c.args.tx)) (sym c.deref.ensures.value) ∙ sym c.place_of.ensures ∙ c.in-Some.is in
    let had = found_value c.self.inside.entries.items c.args.tx c.in-Some.at c.index.result.now found in
    ap (λ e. Some e.1) c.index.ensures ∙ sym had ∙ sym (reservation_found c.self.inside.entries.items c.args.tx)
    ∙ ap (λ (r : CellsWithRoom). reservation_of r.items c.args.tx) c.self.view_is

pub returns-in-None : goal.returns-in-None
returns-in-None c = nothing c
