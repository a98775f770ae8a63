use Rattle.std.proofs.Common.{◌≡◌, ◌≤◌, Some, OnOk, position, ap, sym, subst, ◌∙◌, unwrap_or}
use Rattle.mlt_object_locks.proofs.Names.{is_entry_of, KeysWithRoom, noted_of, nothing_noted}
use Rattle.mlt_object_locks.proofs.Entries.{changed_once, changed_other, changed_own, found_own, found_value}
use Rattle.mlt_object_locks.proofs.noted.Noted.make_room.Goals as goal

found : (c : goal.After-self-1) → position (is_entry_of c.args.tx) c.self.inside.entries.items ≡ Some c.in-Some.at
found c = ap (position (is_entry_of c.args.tx)) (sym c.deref.ensures.value) ∙ sym c.place_of.ensures ∙ c.in-Some.is

same : (c : goal.After-self-1) → c.index_mut.result.now.0 ≡ c.args.tx
same c = ap (λ e. e.0) c.index_mut.ensures.value ∙ found_own c.self.inside.entries.items c.args.tx c.in-Some.at c.index_mut.result.now (found c)

-- what it had
had : (c : goal.After-self-1) → noted_of c.args.self.now c.args.tx ≡ c.index_mut.result.now.1
had c =
    ap (λ l. noted_of l c.args.tx) (sym c.self.view_is)
    ∙ ap (λ o. unwrap_or o nothing_noted) (found_value c.self.inside.entries.items c.args.tx c.in-Some.at c.index_mut.result.now (found c))
    ∙ ap (λ e. e.1) (sym c.index_mut.ensures.value)

pub invariant_of-self : goal.invariant_of-self
invariant_of-self c = changed_once c.self.inside.entries.items c.args.tx c.in-Some.at c.index_mut.result.now (found c) _ (same c) c.self.invariant

pub returns-in-Some-clause-others : goal.returns-in-Some-clause-others
returns-in-Some-clause-others c = λ other ne.
    ap (λ o. unwrap_or o nothing_noted) (changed_other c.self.inside.entries.items c.args.tx c.in-Some.at c.index_mut.result.now (found c) _ (same c) other ne)
    ∙ ap (λ l. noted_of l other) c.self.view_is

pub returns-in-Some-clause-keys : goal.returns-in-Some-clause-keys
returns-in-Some-clause-keys c =
    let now = changed_own c.self.inside.entries.items c.args.tx c.in-Some.at c.index_mut.result.now (found c) (c.index_mut.result.now.0, c.reserve.new.self) (same c) in
    ap (λ o. (unwrap_or o nothing_noted).keys) now ∙ c.reserve.ensures.keys ∙ ap (λ (n : KeysWithRoom). n.keys) (sym (had c))

pub returns-in-Some-clause-room : goal.returns-in-Some-clause-room
returns-in-Some-clause-room c =
    let now = changed_own c.self.inside.entries.items c.args.tx c.in-Some.at c.index_mut.result.now (found c) (c.index_mut.result.now.0, c.reserve.new.self) (same c) in
    subst (λ o. OnOk c.reserve.result (2 ≤ (unwrap_or o nothing_noted).room)) (sym now) c.reserve.ensures.room
