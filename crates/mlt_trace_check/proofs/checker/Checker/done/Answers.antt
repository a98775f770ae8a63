use Rattle.std.proofs.Common.{◌≡◌, ◌∙◌, Some, IsSome, refl, sym, ap, subst, arith, nat_cmp}
use Rattle.std.specs.{BTreeMap.get_by, Option.option_copied_mut}
use Rattle.mlt_trace_check.proofs.Names.{OpenTx}
use Rattle.mlt_trace_check.proofs.Knowing.{knows_done}
use Rattle.mlt_trace_check.proofs.checker.Checker.done.Goals as goal

pub returns : goal.returns
returns c = λ items h at.
    let before : OpenTx = c.in-Some.one.now in
    let after : OpenTx = record { ops = c.push.new.self; undoing = before.undoing } in
    let there : Some before ≡ get_by (nat_cmp c.args.tx) c.args.self.now.running = sym (ap option_copied_mut c.in-Some.is) ∙ c.get_mut.ensures.value in
    let updates = (c.get_mut.follows.holds after).3 (subst IsSome there refl) in
    knows_done c.args.self.now _ items c.args.tx c.args.line c.args.done.now before after (sym there) c.if-one.false
    c.in_ok-push.ensures.items refl updates.1 (λ other apart. updates.2 other (grind arith)) refl refl refl h at
