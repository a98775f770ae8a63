use Rattle.std.proofs.Common.{◌<◌, ◌++◌, ◌∷◌, [], List, sym, ap, ◌∙◌, append_assoc, arith, append-nil}
use Rattle.mlt_script.{specs.Scripts.ScriptForm, proofs.Parting.filled_none, proofs.Parting.pushed}
use Rattle.mlt_script.proofs.clients.fill.Goals as goal

pub loop-script-init : goal.loop-script-init
loop-script-init c = ([], append-nil c.args.scripts.items, filled_none _ c.requires)

pub loop-script-preserved : goal.loop-script-preserved
loop-script-preserved c =
    let s = c.in-Some.script in
    let h = c.loop-script.invariant in
    let same = c.from-client.ensures ∙ c.client.ensures.client in
    let small : s.client < 1000 = let l = c.client.ensures.limit in let e = c.client.ensures.client in omega (arith, l, e) in (
      s ∷ h.0,
      sym (append_assoc c.pop.new.self.items (s ∷ []) h.0) ∙ ap (λ (xs : List ScriptForm). xs ++ h.0) (sym c.in-Some.ensures.items) ∙ h.1,
      pushed c.loop-script.table.items c.from-client.result c.index_mut.result.now c.push.new.self s h.0 same small c.index_mut.ensures.value c.in_ok-push.ensures.items h.2,
    )
