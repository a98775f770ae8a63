use Rattle.std.proofs.Common.{◌≡◌, ◌-◌, ◌++◌, ◌∷◌, [], true, nat_eq, length, slice_get, ap, sym, ◌∙◌, arith, option_to_list}
use Rattle.mlt_object_locks.proofs.Names.{nat_tests, reservation_of, CellsWithRoom}
use Rattle.mlt_object_locks.proofs.Entries.{last_is, popped_once, popped_other, popped_own, popped_value}
use Rattle.mlt_object_locks.proofs.Reservations.{reservation_found}
use Rattle.mlt_object_locks.proofs.reserved.Reserved.take.Goals as goal

-- the last goes
goes : (c : goal.After-unwrap) → c.self.inside.entries.items ≡ c.pop.new.self.items ++ c.unwrap.result ∷ []
goes c = c.pop.ensures.items ∙ ap (λ o. c.pop.new.self.items ++ option_to_list o) c.unwrap.ensures

-- and is of the transaction
own : (c : goal.After-unwrap) → c.unwrap.result.0 ≡ c.args.tx
own c =
    let seen = ap (λ l. slice_get l (length l - 1)) (sym c.deref.ensures.value) ∙ sym c.in-Some.ensures.value in
    let same = last_is c.self.inside.entries.items c.pop.new.self.items c.unwrap.result (goes c) c.in-Some.entry.now seen in
    let test : true ≡ nat_eq c.in-Some.entry.now.0 c.args.tx = c.if-eq.ensures in
    let is : c.in-Some.entry.now.0 ≡ c.args.tx = grind (arith, nat_tests) in
    ap (λ e. e.0) (sym same) ∙ is

pub invariant_of-self : goal.invariant_of-self
invariant_of-self c = popped_once c.self.inside.entries.items c.pop.new.self.items c.unwrap.result (goes c) c.args.tx (own c) c.self.invariant

pub returns-in-Some-clause-cell : goal.returns-in-Some-clause-cell
returns-in-Some-clause-cell c =
    sym (popped_value c.self.inside.entries.items c.pop.new.self.items c.unwrap.result (goes c) c.args.tx (own c) c.self.invariant)
    ∙ sym (reservation_found c.self.inside.entries.items c.args.tx)
    ∙ ap (λ (r : CellsWithRoom). reservation_of r.items c.args.tx) c.self.view_is

pub returns-in-Some-clause-taken : goal.returns-in-Some-clause-taken
returns-in-Some-clause-taken c =
    reservation_found c.pop.new.self.items c.args.tx
    ∙ popped_own c.self.inside.entries.items c.pop.new.self.items c.unwrap.result (goes c) c.args.tx (own c) c.self.invariant

pub returns-in-Some-clause-others : goal.returns-in-Some-clause-others
returns-in-Some-clause-others c = λ other ne.
    reservation_found c.pop.new.self.items other
    ∙ popped_other c.self.inside.entries.items c.pop.new.self.items c.unwrap.result (goes c) c.args.tx (own c) c.self.invariant other ne
    ∙ sym (reservation_found c.self.inside.entries.items other)
    ∙ ap (λ (r : CellsWithRoom). reservation_of r.items other) c.self.view_is
