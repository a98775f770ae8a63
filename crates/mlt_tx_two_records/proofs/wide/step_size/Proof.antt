-- The step to the size's key, which walks by what the pass did before. No argument tells what that was: it is in what the step
-- asks. So this proof is by hand. For each thing that the pass may have done the call of the walk is a call with that ghost, and
-- what the step asks says which of these it is.
use mathlib.Core.List.{[], ◌∷◌}
use mathlib.Core.Path.{◌≡◌, refl, subst}
use seplogic.Ra.Ura.{Ura}
use base.Logic.{SProp, sep, snd∗, via, mono_r}
use mir.MapTy.{inst_fn}
use mir.Syntax.{Dict, a_type, dcons, dnil}
use prog.Wp.{WpFn, Tables}
use types.Logic.{Logic}
use contract.Monad.{fact, fact_use, fact_mono}
use contract.Running.{tables_of}
use denote.Param.{bounded}
use denote.Param.Laws.{Laws}
use denote.RattleType.{RattleType}
use denote.Triple.Entry.{on_entry}
use denote.Triple.Statement.{Triple}
use borrow.Fn.ByParts.{wanted}
use borrow.Fn.Function.{S, plain_of}
use borrow.Fn.Run.{Over}
use borrow.Fn.World.{World}
use borrow.Fn.Written as written
use Rattle.mlt_types.specs.declared.pseudo.Pseudo as pseudo
use Rattle.mlt_tx_two_records.proofs.Names.{LocalState, local, WalkContext, Before, context_in, MayStepToSize}
use Rattle.mlt_tx_two_records.proofs.{WideSizeSteps.may_step, wide.step_size.Statement.statement}
use Rattle.mlt_tx_two_records.proofs.wide.step_size.Lts as lts
use Rattle.mlt_tx_two_records.proofs.wide.step_size.Kinds as kinds
use Rattle.mlt_tx_two_records.proofs.wide.step_size.Reads as reads
use Rattle.mlt_tx_two_records.proofs.wide.step_size.Code as code
use Rattle.mlt_tx_two_records.specs.contracts.wide.step_size.Key as key
use Rattle.mlt_tx_two_records.proofs.wide.walk_to_size.Reads as walk
use Rattle.mlt_tx_two_records.proofs.wide.walk_to_size.Met as walk_met
use Rattle.mlt_tx_two_records.proofs.wide.walk_to_size.Symbol as walk_symbol

module _ (P : RattleType) (L : Laws P) (bits : pseudo.Ghosts P.Denot) (dict : Dict) where
  module _ (since : Before) where
    -- the call, with this ghost
    abbrev claims : lts.Claims P L dict
    claims = (
      λ κs a. walk.Asked-at (lts.arg-0-0 P L dict κs) (lts.laws-0-0 P L dict κs) bits dict since κs a,
      λ κs a x e. walk.Learnt-at (lts.arg-0-0 P L dict κs) (lts.laws-0-0 P L dict κs) bits dict since κs a x e,
    )

    -- what the step asks, where this is what the pass did
    abbrev pre : lts.Pre-type P L dict
    pre κs a = (p : reads.Pre P L bits dict κs a) × (p.1.stands.since ≡ since)

    walk_to_size-requires : lts.Need-walk_to_size-requires P L dict claims pre (reads.Post P L bits dict)
    walk_to_size-requires c κs within =
        let context : WalkContext = context_in bits.bits_of c.args.environment.now c.args.subtx.now.tx in
        let m : LocalState = local c.args.subtx.now c.args.pages.now in
        (within, subst (λ (s : Before). MayStepToSize context m c.args.request.now c.args.walk.now s) c.requires.1 (may_step context m c.args.request.now c.args.walk.now c.requires.0.1))

    returns : lts.Need-returns P L dict claims pre (reads.Post P L bits dict)
    returns c = c.walk_to_size.ensures

  module _ {M : Type 1} (𝓤 : Ura M) (𝓛 : Logic 𝓤) (𝓣 : Tables 𝓤 𝓛.H) where
    abbrev runs : lts.Pre-type P L dict → Type 1
    runs asked = Triple 𝓤 (WpFn 𝓤 𝓛.H 𝓣.C 𝓣.Λ (lts.function P L dict)) (plain_of 𝓛 7 (lts.ps P L dict) (lts.r P L dict) asked (reads.Post P L bits dict))

    -- **What holds whatever the pass did holds of what the step asks.**
    whichever : ((since : Before) → runs (pre since)) → runs (reads.Pre P L bits dict)
    whichever each y =
        let x = y.0 in
        let On : SProp 𝓤 = on_entry 𝓛 (S 7 (lts.ps P L dict) (lts.r P L dict) [] 0) x.0 x.1 x.3 x.4 in
        let Asked : Type 0 = reads.Pre P L bits dict x.0 x.3 in
        fact_use 𝓤 Asked (snd∗ 𝓤 On (fact 𝓤 Asked)) (λ p.
        let since = p.1.stands.since in
        via 𝓤 (sep 𝓤 On (fact 𝓤 (pre since x.0 x.3))) (mono_r 𝓤 On (fact_mono 𝓤 Asked (pre since x.0 x.3) (λ q. (p, refl)))) (each since y))

pub step_size_spec : {M : Type 1} → statement M
unfolding tables_of
step_size_spec {M} 𝓤 𝓛 𝓜 𝓡 w P L bits dict bound =
    let world : World = record { M = M; 𝓤 = 𝓤; 𝓛 = 𝓛; 𝓜 = 𝓜; 𝓡 = 𝓡 } in
    let at = bounded (a_type ∷ []) (P, tt) (dcons dict dnil) in
    let function = inst_fn at code.function in
    written.close 7 (kinds.ps P L) (kinds.r P L) (reads.Ghost P L bits dict) (reads.requires P L bits dict) (reads.ensures P L bits dict) (reads.pre_read P L bits dict)
    (reads.Pinned P L bits dict) (reads.Owned P L bits dict) (reads.post_read P L bits dict)
    world 𝓡.env (key.name at) function (code.unfolded 𝓤 𝓛.H 𝓜 𝓡 w (P, tt) dict) (λ κs a g. tt) (λ κs. reads.owns P L bits dict κs world) (reads.passes P L bits dict world) (λ g.
    written.at_code 𝓤 𝓛.H (Over 𝓛 𝓜 𝓡 𝓡.env).C (Over 𝓛 𝓜 𝓡 𝓡.env).Λ (lts.function P L dict) function refl refl
    (plain_of 𝓛 7 (lts.ps P L dict) (lts.r P L dict) (reads.Pre P L bits dict) (reads.Post P L bits dict))
    (whichever P L bits dict 𝓤 𝓛 (Over 𝓛 𝓜 𝓡 𝓡.env) (λ since.
    lts.spec P L dict (claims P L bits dict since) (pre P L bits dict since) (reads.Post P L bits dict) (walk_to_size-requires P L bits dict since) (returns P L bits dict since)
    (λ κs a asked. (asked.0.0, tt)) 𝓤 𝓛 (Over 𝓛 𝓜 𝓡 𝓡.env) (λ y.
    walk.by_parts-at (lts.arg-0-0 P L dict y.0.0) (lts.laws-0-0 P L dict y.0.0) bits dict since M 𝓤 𝓛 (Over 𝓛 𝓜 𝓡 𝓡.env) (walk_symbol.name (lts.passed-0 P L dict))
    (walk.known-at (lts.arg-0-0 P L dict y.0.0) (lts.laws-0-0 P L dict y.0.0) bits dict since world 𝓡.env (walk_symbol.name (lts.passed-0 P L dict)) (𝓡.env (walk_symbol.name (lts.passed-0 P L dict))) refl
    (walk_met.met 𝓤 𝓛 𝓜 𝓡 (code.calls-mlt_tx_two_records::wide::walk_to_size 𝓡.env w) (lts.arg-0-0 P L dict y.0.0) (lts.laws-0-0 P L dict y.0.0) bits dict (record { bits = bound.bits; has_64_bits = bound.has_64_bits })))
    y (wanted 7 (lts.ps-0 P L dict) (lts.r-0 P L dict) (claims P L bits dict since).0 (claims P L bits dict since).1 y.0.0 y.0.3 y.0.4) refl))))
