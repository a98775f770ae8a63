use Rattle.std.proofs.Common.{◌≡◌, ◌<◌, ◌+◌, ◌++◌, List, ℕ, length, map, sym, ap, ◌∙◌, subst, arith, Vec, Global, inr, Some, false}
use Rattle.std.proofs.lemmas.List.{length-map, Elements.All-pop}
use Rattle.mlt_work.{specs.declared.claim_handles.ClaimView.ClaimView, specs.Claims.times, specs.ClaimHandles.view_of, specs.Workers.HasWorked, specs.Places.HaveRuns, specs.Places.place_of, specs.Runs.AreRunWith, proofs.Placing.filled_join, proofs.Placing.past_join}
use Rattle.mlt_script.specs.{declared.script.Script.Script, Scripts.ScriptForm}
use Rattle.mlt_work.proofs.collecting.gather.Goals as goal

pub loop-worked-preserved : goal.loop-worked-preserved
loop-worked-preserved g c =
    let l = c.loop-worked in
    let items = λ (client : Vec Script Global). client.items in
    let clients = c.args.clients.now in
    let lists : List (List ScriptForm) = map items clients in
    let long : length lists ≡ length clients = length-map clients items in
    let w = c.in-Some.worked in
    let popped = All-pop (λ (w : _). HasWorked (AreRunWith g.P.Pseudo.bits_of g.L.MadeWith.tries) c.args.counter.now lists w.claim_handle w.runs.items w.failed) l.rest.items c.pop.new.self.items (Some w) c.in-Some.ensures.items l.invariant.each in
    let mine = popped.1 in
    let both = c.join.ensures.both in
    let first = view_of l.first in
    let parts : (view_of c.join.new.first).parts ≡ first.parts + 1 = ap (λ (v : ClaimView). v.parts) both ∙ ap (λ (k : ℕ). first.parts + k) mine.parts in
    let drawn : (view_of c.join.new.first).drawn ≡ first.drawn ++ (view_of w.claim_handle).drawn = ap (λ (v : ClaimView). v.drawn) both in
    let placed = c.place_all.ensures in
    let still = λ (f : c.either-failed.result ≡ false). c.either-failed.ensures f in
    record {
      seat = c.join.ensures.beside ∙ l.invariant.seat;
      some = omega arith;
      parts = omega (arith, c.in-Some.ensures.len);
      share = omega (arith, c.in-Some.ensures.len);
      events = omega (arith, c.saturating_add-events.ensures, c.merge.ensures.amount, l.invariant.events, w.counted);
      each = popped.0;
      len = placed.len;
      placed = placed.placed;
      filled = λ f.
          let d = mine.drew (still f).1 in
          subst (λ (ns : List ℕ). HaveRuns ns c.place_all.new.slots.items) (sym drawn)
          (filled_join (length clients) d.0 l.slots.items c.place_all.new.slots.items first.drawn (view_of w.claim_handle).drawn (map place_of w.runs.items) l.invariant.len placed.len d.2 (omega (arith, d.1)) placed.kept (l.invariant.filled (still f).0) placed.filled);
      past = λ f.
          let d = mine.drew (still f).1 in
          inr (d.0, omega (arith, d.1), subst (λ (ns : List ℕ). 0 < times d.0 ns) (sym drawn) (past_join d.0 first.drawn (view_of w.claim_handle).drawn (map place_of w.runs.items) d.2));
    }
