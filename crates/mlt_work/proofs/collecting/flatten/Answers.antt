use Rattle.std.proofs.Common.{◌≡◌, ◌+◌, ◌∷◌, ◌++◌, [], List, ℕ, map, take, get_or, sym, ◌∙◌, subst, arith, Vec, Global, Some, None, Option, IfSome, IsSome, length-set, get_or-set_other}
use Rattle.std.proofs.lemmas.List.{length-map, take_more}
use Rattle.mlt_script.specs.{declared.script.Script.Script, Scripts.ScriptForm}
use Rattle.mlt_work.{specs.declared.forms.ClientRun.ClientRun, specs.Places.IsClientRun, specs.Runs.AreRunWith, proofs.Placing.all_push, proofs.Placing.get_any}
use Rattle.mlt_work.proofs.collecting.flatten.Goals as goal

pub loop-i-preserved : goal.loop-i-preserved
loop-i-preserved g c =
    let are_outcomes = AreRunWith g.P.Pseudo.bits_of g.L.MadeWith.tries in
    let l = c.loop-i in
    let items = λ (client : Vec Script Global). client.items in
    let lists : List (List ScriptForm) = map items c.args.clients.now in
    let r = c.in-Some.run' in
    let left = c.take.new.self in
    let at : get_or l.slots.items l.i None ≡ Some r = get_any l.slots.items l.i None c.index_mut.result.now (omega arith) ∙ sym c.index_mut.ensures.value ∙ sym c.take.ensures.value ∙ c.in-Some.is in
    let fact = subst (λ (s : Option ClientRun). IfSome s (λ x. (x.place ≡ l.i) × IsClientRun are_outcomes lists x)) at (l.invariant.placed l.i (omega arith) (omega arith)) in
    let outcomes : are_outcomes (get_or lists l.i []) r.outcomes.items = subst (λ (k : ℕ). are_outcomes (get_or lists k []) r.outcomes.items) fact.0 fact.1.1 in
    let more : take (l.i + 1) lists ≡ take l.i lists ++ get_or lists l.i [] ∷ [] = take_more lists l.i [] (omega (arith, length-map c.args.clients.now items)) in
    record {
      len = length-set l.slots.items l.i left ∙ l.invariant.len;
      full = λ j from below. subst (λ (s : Option ClientRun). IsSome s) (sym (get_or-set_other l.slots.items l.i j left None (omega arith))) (l.invariant.full j (omega arith) below);
      placed = λ j from below. subst (λ (s : Option ClientRun). IfSome s (λ x. (x.place ≡ j) × IsClientRun are_outcomes lists x)) (sym (get_or-set_other l.slots.items l.i j left None (omega arith))) (l.invariant.placed j (omega arith) below);
      done = rw (more, c.in_ok-append.ensures.items) (all_push are_outcomes (take l.i lists) l.outcomes.items (get_or lists l.i []) r.outcomes.items l.invariant.done outcomes);
    }
