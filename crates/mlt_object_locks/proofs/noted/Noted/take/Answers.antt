use Rattle.std.proofs.Common.{◌≡◌, Some, position, ap, sym, subst, ◌∙◌, unwrap_or}
use Rattle.mlt_object_locks.proofs.Names.{HasEachOnce, is_entry_of, noted_of, nothing_noted}
use Rattle.mlt_object_locks.proofs.Entries.{found_value, nothing_found, taken_once, taken_other, taken_own}
use Rattle.mlt_object_locks.proofs.noted.Noted.take.Goals as goal

found : (c : goal.After-note_moved) → position (is_entry_of c.args.tx) c.self.inside.entries.items ≡ Some c.in-Some.at
found c = ap (position (is_entry_of c.args.tx)) (sym c.deref.ensures.value) ∙ sym c.place_of.ensures ∙ c.in-Some.is

nothing : (c : goal.In-None) → noted_of c.args.self.now c.args.tx ≡ nothing_noted
nothing c =
    let entries = c.self.inside.entries.items in
    let none = nothing_found entries c.args.tx (ap (position (is_entry_of c.args.tx)) (sym c.deref.ensures.value) ∙ sym c.place_of.ensures ∙ c.in-None.is) in
    ap (λ l. noted_of l c.args.tx) (sym c.self.view_is) ∙ ap (λ o. unwrap_or o nothing_noted) none

pub invariant_of-self : goal.invariant_of-self
invariant_of-self c = subst HasEachOnce (sym c.swap_remove-taken.ensures.items) (taken_once c.self.inside.entries.items c.args.tx c.in-Some.at c.swap_remove-taken.result (found c) c.self.invariant)

pub returns-in-Some-clause-keys : goal.returns-in-Some-clause-keys
returns-in-Some-clause-keys c =
    let had = found_value c.self.inside.entries.items c.args.tx c.in-Some.at c.swap_remove-taken.result (found c) in
    ap (λ e. e.1.keys) c.swap_remove-taken.ensures.value ∙ ap (λ o. (unwrap_or o nothing_noted).keys) (sym had) ∙ ap (λ l. (noted_of l c.args.tx).keys) c.self.view_is

pub returns-in-Some-clause-others : goal.returns-in-Some-clause-others
returns-in-Some-clause-others c = λ other ne.
    ap (λ l. noted_of l other) c.swap_remove-taken.ensures.items
    ∙ ap (λ o. unwrap_or o nothing_noted) (taken_other c.self.inside.entries.items c.args.tx c.in-Some.at c.swap_remove-taken.result (found c) c.self.invariant other ne)
    ∙ ap (λ l. noted_of l other) c.self.view_is

pub returns-in-Some-clause-none : goal.returns-in-Some-clause-none
returns-in-Some-clause-none c =
    ap (λ l. (noted_of l c.args.tx).keys) c.swap_remove-taken.ensures.items
    ∙ ap (λ o. (unwrap_or o nothing_noted).keys) (taken_own c.self.inside.entries.items c.args.tx c.in-Some.at c.swap_remove-taken.result (found c) c.self.invariant)

pub returns-in-None-clause-keys : goal.returns-in-None-clause-keys
returns-in-None-clause-keys c = ap (λ n. n.keys) (sym (nothing c))

pub returns-in-None-clause-none : goal.returns-in-None-clause-none
returns-in-None-clause-none c = ap (λ n. n.keys) (nothing c)
