use Rattle.std.proofs.Common.{None, position, ap, sym, subst, ◌≡◌, ◌≤◌, ◌∙◌, unwrap_or}
use Rattle.mlt_object_locks.proofs.Names.{HasEachOnce, is_entry_of, value_of, noted_of, nothing_noted}
use Rattle.mlt_object_locks.proofs.Entries.{nothing_found, pushed_once, pushed_other, pushed_own}
use Rattle.mlt_object_locks.proofs.noted.Noted.begin.Goals as goal

-- it had nothing
none : (c : goal.In_ok-push) → value_of c.self.inside.entries.items c.args.tx ≡ None
none c = nothing_found c.self.inside.entries.items c.args.tx (ap (position (is_entry_of c.args.tx)) c.self.view_is ∙ c.requires)

own : (c : goal.In_ok-push) → noted_of c.push.new.self.items c.args.tx ≡ c.reserve.new.self
own c =
    ap (λ entries. noted_of entries c.args.tx) c.in_ok-push.ensures.items
    ∙ ap (λ o. unwrap_or o nothing_noted) (pushed_own c.self.inside.entries.items c.args.tx c.reserve.new.self (none c))

pub invariant_of-self-2 : goal.invariant_of-self-2
invariant_of-self-2 c = subst HasEachOnce (sym c.in_ok-push.ensures.items) (pushed_once c.self.inside.entries.items c.args.tx _ (none c) c.self.invariant)

pub returns-clause-others : goal.returns-clause-others
returns-clause-others c = λ other ne.
    ap (λ entries. noted_of entries other) c.in_ok-push.ensures.items
    ∙ ap (λ o. unwrap_or o nothing_noted) (pushed_other c.self.inside.entries.items c.args.tx _ other ne)
    ∙ ap (λ entries. noted_of entries other) c.self.view_is

pub returns-clause-keys : goal.returns-clause-keys
returns-clause-keys c =
    ap (λ n. n.keys) (own c) ∙ c.reserve.ensures.keys ∙ c.new-keys.ensures
    ∙ ap (λ o. (unwrap_or o nothing_noted).keys) (sym (none c)) ∙ ap (λ entries. (noted_of entries c.args.tx).keys) c.self.view_is

pub returns-clause-room : goal.returns-clause-room
returns-clause-room c = subst (λ n. 2 ≤ n.room) (sym (own c)) c.in_ok-reserve.ensures.room
