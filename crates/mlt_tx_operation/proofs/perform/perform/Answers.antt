use Rattle.std.proofs.Common.{None, Some, refl, sym, subst, ◌∙◌}
use Rattle.mlt_tx_operation.proofs.Names.{RecChange, Revive, LocalState, local, WalkContext, context_in, Change, TellsOfDecision, leaves}
use Rattle.mlt_tx_operation.proofs.Performing.{addition_tells, at_record, change_tells, is_found}
use Rattle.mlt_tx_operation.proofs.perform.perform.Goals as goal

pub returns-in-Add-default-clause-tells : goal.returns-in-Add-default-clause-tells
returns-in-Add-default-clause-tells g c =
    let context : WalkContext = context_in g.P.Pseudo.bits_of c.args.environment.now c.args.subtx.now.tx in
    let new : LocalState = local c.insert.new.subtx c.insert.new.pages in
    subst (λ (d : RecChange). TellsOfDecision context new c.args.walk.now c.insert.new.self d c.args.found c.insert.result) (sym c.in-Add-default.is-0)
    (addition_tells context new c.args.walk.now c.insert.new.self c.in-Add-default.value c.args.found c.insert.result c.insert.ensures.tells)

pub returns-in-Revive-default-clause-tells : goal.returns-in-Revive-default-clause-tells
returns-in-Revive-default-clause-tells g c =
    let context : WalkContext = context_in g.P.Pseudo.bits_of c.args.environment.now c.args.subtx.now.tx in
    let new : LocalState = local c.revive.new.subtx c.revive.new.pages in
    subst (λ (d : RecChange). TellsOfDecision context new c.args.walk.now c.revive.new.self d c.args.found c.revive.result) (sym c.in-Revive-default.is-0)
    (change_tells context new c.args.walk.now c.revive.new.self Revive c.args.found (Change.Revive 0) c.revive.result refl (c.revive.ensures.tells context refl c.requires.ready))

pub update-requires-clause-found : goal.update-requires-clause-found
update-requires-clause-found g c =
    let at = is_found c.args.decided c.args.found c.requires.fits c.in_default-Some.not-Add-0 c.in_default-Some.not-Revive-0 in
    at_record c.args.walk.now.phase c.args.found at.0 c.requires.found at.1

pub remove-requires-clause-found : goal.remove-requires-clause-found
remove-requires-clause-found g c =
    let at = is_found c.args.decided c.args.found c.requires.fits c.in_default-None.not-Add-0 c.in_default-None.not-Revive-0 in
    at_record c.args.walk.now.phase c.args.found at.0 c.requires.found at.1

pub returns-in_default-Some-clause-tells : goal.returns-in_default-Some-clause-tells
returns-in_default-Some-clause-tells g c =
    let context : WalkContext = context_in g.P.Pseudo.bits_of c.args.environment.now c.args.subtx.now.tx in
    let at = is_found c.args.decided c.args.found c.requires.fits c.in_default-Some.not-Add-0 c.in_default-Some.not-Revive-0 in
    change_tells context (local c.update.new.subtx c.update.new.pages) c.args.walk.now c.update.new.self c.args.decided c.args.found (Change.Set c.in_default-Some.value) c.update.result
    (leaves c.args.decided c.args.found (Some c.in_default-Some.value) at.0 at.1 c.requires.fits (sym c.value_after.ensures ∙ c.in_default-Some.is-1)) (c.update.ensures.tells context refl c.requires.ready)

pub returns-in_default-None-clause-tells : goal.returns-in_default-None-clause-tells
returns-in_default-None-clause-tells g c =
    let context : WalkContext = context_in g.P.Pseudo.bits_of c.args.environment.now c.args.subtx.now.tx in
    let at = is_found c.args.decided c.args.found c.requires.fits c.in_default-None.not-Add-0 c.in_default-None.not-Revive-0 in
    change_tells context (local c.remove.new.subtx c.remove.new.pages) c.args.walk.now c.remove.new.self c.args.decided c.args.found (Change.Remove) c.remove.result
    (leaves c.args.decided c.args.found None at.0 at.1 c.requires.fits (sym c.value_after.ensures ∙ c.in_default-None.is-1)) (c.remove.ensures.tells context refl c.requires.ready)
