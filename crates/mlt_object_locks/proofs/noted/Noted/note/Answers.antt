use Rattle.std.proofs.Common.{◌≡◌, ◌≤◌, ◌<◌, ◌+◌, ◌++◌, ◌∷◌, [], Some, position, arith, ap, sym, subst, ◌∙◌, unwrap_or}
use Rattle.mlt_object_locks.proofs.Names.{is_entry_of, KeysWithRoom, noted_of, nothing_noted}
use Rattle.mlt_object_locks.proofs.Entries.{changed_once, changed_other, changed_own, found_own, found_value, nothing_found}
use Rattle.mlt_object_locks.proofs.noted.Noted.note.Goals as goal

found : (c : goal.After-self-1) → position (is_entry_of c.args.tx) c.self.inside.entries.items ≡ Some c.in-Some.at
found c = ap (position (is_entry_of c.args.tx)) (sym c.deref.ensures.value) ∙ sym c.place_of.ensures ∙ c.in-Some.is

same : (c : goal.After-self-1) → c.index_mut.result.now.0 ≡ c.args.tx
same c = ap (λ e. e.0) c.index_mut.ensures.value ∙ found_own c.self.inside.entries.items c.args.tx c.in-Some.at c.index_mut.result.now (found c)

-- what it had
had : (c : goal.After-self-1) → noted_of c.args.self.now c.args.tx ≡ c.index_mut.result.now.1
had c =
    ap (λ l. noted_of l c.args.tx) (sym c.self.view_is)
    ∙ ap (λ o. unwrap_or o nothing_noted) (found_value c.self.inside.entries.items c.args.tx c.in-Some.at c.index_mut.result.now (found c))
    ∙ ap (λ e. e.1) (sym c.index_mut.ensures.value)

pub add-requires : goal.add-requires
add-requires c =
    let entries = c.self.inside.entries.items in
    let there = ap (position (is_entry_of c.args.tx)) (sym c.deref.ensures.value) ∙ sym c.place_of.ensures ∙ c.in-Some.is in
    let value = ap (λ o. unwrap_or o nothing_noted) (found_value entries c.args.tx c.in-Some.at c.index_mut.result.now there) in
    let has : noted_of c.args.self.now c.args.tx ≡ c.index_mut.result.now.1 = ap (λ l. noted_of l c.args.tx) (sym c.self.view_is) ∙ value ∙ ap (λ e. e.1) (sym c.index_mut.ensures.value) in
    subst (λ (n : KeysWithRoom). 0 < n.room) has c.requires

pub invariant_of-self : goal.invariant_of-self
invariant_of-self c = changed_once c.self.inside.entries.items c.args.tx c.in-Some.at c.index_mut.result.now (found c) _ (same c) c.self.invariant

pub unreachable-requires : goal.unreachable-requires
unreachable-requires c =
    let none = nothing_found c.self.inside.entries.items c.args.tx (ap (position (is_entry_of c.args.tx)) (sym c.deref.ensures.value) ∙ sym c.place_of.ensures ∙ c.in-None.is) in
    let room : (noted_of c.args.self.now c.args.tx).room ≡ 0 = ap (λ l. (noted_of l c.args.tx).room) (sym c.self.view_is) ∙ ap (λ o. (unwrap_or o nothing_noted).room) none in
    let some = c.requires in
    absurd (omega arith)

pub returns-clause-others : goal.returns-clause-others
returns-clause-others c = λ other ne.
    ap (λ o. unwrap_or o nothing_noted) (changed_other c.self.inside.entries.items c.args.tx c.in-Some.at c.index_mut.result.now (found c) _ (same c) other ne)
    ∙ ap (λ l. noted_of l other) c.self.view_is

pub returns-clause-added : goal.returns-clause-added
returns-clause-added c =
    let now = changed_own c.self.inside.entries.items c.args.tx c.in-Some.at c.index_mut.result.now (found c) (c.index_mut.result.now.0, c.add.new.self) (same c) in
    ap (λ o. (unwrap_or o nothing_noted).keys) now ∙ c.add.ensures.keys ∙ ap (λ (n : KeysWithRoom). n.keys ++ c.args.key ∷ []) (sym (had c))

pub returns-clause-room : goal.returns-clause-room
returns-clause-room c =
    let now = changed_own c.self.inside.entries.items c.args.tx c.in-Some.at c.index_mut.result.now (found c) (c.index_mut.result.now.0, c.add.new.self) (same c) in
    subst (λ o. (noted_of c.args.self.now c.args.tx).room ≤ (unwrap_or o nothing_noted).room + 1) (sym now)
    (subst (λ (n : KeysWithRoom). n.room ≤ c.add.new.self.room + 1) (sym (had c)) c.add.ensures.room)
