use Rattle.std.proofs.Common.{◌≡◌, ◌≢◌, length, refl, sym, ◌∙◌, arith, rules}
use Rattle.std.proofs.lemmas.List.{nil_from_length}
use Rattle.mlt_trace_check.proofs.Knowing.{knows_abort, no_ops, ops_of}
use Rattle.mlt_trace_check.proofs.checker.Checker.abort.Goals as goal

pub returns-then-not-is_empty : goal.returns-then-not-is_empty
returns-then-not-is_empty c = rw c.misplaced-then-not-is_empty.ensures (λ items h at. (
  λ place.
      let own = ops_of c.args.self.now items c.args.tx c.in-Some.one (sym c.remove.ensures.value ∙ c.in-Some.is) h in
      let some : length c.in-Some.one.ops.items ≢ 0 = search rules in
      some (no_ops c.in-Some.one.ops.items (own ∙ place.1)),
  at,
))

pub returns : goal.returns
returns c = λ items h at.
    let none : length c.in-Some.one.ops.items ≡ 0 = search rules in
    knows_abort c.args.self.now _ items c.args.tx c.in-Some.one (sym c.remove.ensures.value ∙ c.in-Some.is) (nil_from_length _ none)
    c.remove.ensures.updates.1 (λ other apart. c.remove.ensures.updates.2 other (grind arith)) refl refl refl h
