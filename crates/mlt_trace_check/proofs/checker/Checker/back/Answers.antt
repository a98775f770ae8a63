use Rattle.std.proofs.Common.{◌≡◌, ◌∙◌, Some, IsSome, true, refl, sym, ap, subst, arith, nat_cmp}
use Rattle.std.specs.{BTreeMap.get_by, Option.option_copied_mut}
use Rattle.mlt_trace_check.proofs.Names.{OpenTx}
use Rattle.mlt_trace_check.proofs.Knowing.{knows_back, one_popped}
use Rattle.mlt_trace_check.proofs.checker.Checker.back.Goals as goal

pub returns : goal.returns
returns c = λ items h at.
    let before : OpenTx = c.in-Some.one.now in
    let after : OpenTx = record { ops = c.pop.new.self; undoing = true } in
    let there : Some before ≡ get_by (nat_cmp c.args.tx) c.args.self.now.running = sym (ap option_copied_mut c.in-Some.is) ∙ c.get_mut.ensures.value in
    let updates = (c.get_mut.follows.holds after).3 (subst IsSome there refl) in
    let last = one_popped before.ops.items c.pop.new.self.items c.pop.result (c.if-is_none.ensures) c.pop.ensures.items in
    knows_back c.args.self.now _ items c.args.tx before after last.0 (sym there) last.1 refl updates.1
    (λ other apart. updates.2 other (grind arith)) refl refl refl h
