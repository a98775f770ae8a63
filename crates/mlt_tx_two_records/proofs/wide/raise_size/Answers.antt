use Rattle.std.proofs.Common.{◌≡◌, ℕ, None, Option, Some, refl, sym, subst, ◌∙◌}
use Rattle.mlt_tx_two_records.proofs.Names.{RecChange, Add, record_after, LocalState, local, WalkContext, context_after, context_in, Raises, TellsOfRaise}
use Rattle.mlt_tx_two_records.proofs.Performing.{leaves}
use Rattle.mlt_tx_two_records.proofs.WideRaise.{addition_raises, can_raise, is_added, leaves_record, update_raises}
use Rattle.mlt_tx_two_records.proofs.wide.raise_size.Goals as goal

pub unreachable-requires : goal.unreachable-requires
unreachable-requires g c = leaves_record c.args.found c.args.raise c.requires.1.1.1.1 (sym c.value_after.ensures ∙ c.in_default.is)

pub returns-in-None-clause-tells : goal.returns-in-None-clause-tells
returns-in-None-clause-tells g c =
    let context : WalkContext = context_after g.since (context_in g.P.Pseudo.bits_of c.args.environment.now c.args.subtx.now.tx) in
    let new : LocalState = local c.insert.new.subtx c.insert.new.pages in
    let raise : RecChange = c.args.raise in
    let raises : Raises None raise = subst (λ (f : Option ℕ). Raises f raise) c.in-None.is c.requires.1.1.1.1 in
    let after : record_after (Some raise) None ≡ Some c.in-Some.value = subst (λ (f : Option ℕ). record_after (Some raise) f ≡ Some c.in-Some.value) c.in-None.is (sym c.value_after.ensures ∙ c.in-Some.is) in
    subst (λ (r : RecChange). TellsOfRaise context new c.args.walk.now c.insert.new.self r c.args.found c.insert.result) (sym (is_added raise c.in-Some.value raises after))
    (addition_raises context new c.args.walk.now c.insert.new.self c.in-Some.value c.args.found c.insert.result c.requires.1.1.0 c.insert.ensures.tells)

pub returns-in-Some-found-clause-tells : goal.returns-in-Some-found-clause-tells
returns-in-Some-found-clause-tells g c =
    update_raises _ (local c.update.new.subtx c.update.new.pages) c.args.walk.now c.update.new.self c.args.raise c.args.found c.in-Some.value c.update.result
    (leaves c.args.raise c.args.found (Some c.in-Some.value) _ c.in-Some-found.is (can_raise c.args.found c.args.raise c.requires.1.1.1.1) (sym c.value_after.ensures ∙ c.in-Some.is))
    (c.update.ensures.tells _ refl c.requires.1.0)
