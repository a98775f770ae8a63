use Rattle.std.proofs.Common.{◌≡◌, ℕ, ◌<◌, ◌∷◌, [], List, length, map, get_or, sym, ap, ◌∙◌, subst, arith, Vec, Global, rules}
use Rattle.std.proofs.lemmas.List.{map-append, get_or-map, length-map, Elements.All-push}
use Rattle.mlt_work.specs.{ClaimHandles.view_of, Claims.view, Places.IsClientRun, Places.place_of, Places.scripts_of_clients, Runs.AreRunWith, declared.forms.ClientRun.ClientRun}
use Rattle.mlt_script.specs.{declared.script.Script.Script, Scripts.ScriptForm}
use Rattle.mlt_work_desk.specs.{Holds.Answers, Views.desk_view}
use Rattle.mlt_work.proofs.{GivenTries.runs_keep, Placing.draws_client, Refusals.runs_end, Viewing.are_runs}
use Rattle.mlt_work.proofs.worker.run_claimed.Goals as goal

pub claims-preserved : goal.claims-preserved
claims-preserved g c =
    let l = c.claims in
    let clients = c.args.clients.now in
    let items = λ (client : Vec Script Global). client.items in
    let lists : List (List ScriptForm) = scripts_of_clients clients in
    let number = c.draw-number.result in
    let small : number < length clients = omega arith in
    let client = c.index-clients-place.result in
    let run : ClientRun = record { place = number; outcomes = c.in-Ok.outcomes } in
    let here : get_or lists number [] ≡ c.as_slice-scripts.result.now = get_or-map items clients number client [] small ∙ ap items (sym c.index-clients-place.is) ∙ sym c.as_slice-scripts.ensures.value in
    let long : length lists ≡ length clients = length-map clients items in
    let bits_of = g.P.Pseudo.bits_of in
    let runs = are_runs (λ d. desk_view d.snapshot d.tries d.share.amount) (Answers bits_of) _ _ _ _ c.in-Ok.ensures.runs in
    let with : AreRunWith bits_of c.args.desk.now.tries.given (c.as_slice-scripts.result.now) c.in-Ok.outcomes.items = record {
      outcomes_are = c.in-Ok.ensures.outcomes;
      ends = runs_end bits_of _ _ _ _ runs;
      before = _;
      after = _;
      given = search rules;
      runs = runs;
    } in
    let one : IsClientRun (AreRunWith bits_of c.args.desk.now.tries.given) lists run = (omega arith, subst (λ (ss : List ScriptForm). AreRunWith bits_of c.args.desk.now.tries.given ss c.in-Ok.outcomes.items) (sym here) with) in
    rw (c.push_reserved.ensures.items, c.reserve.ensures.items) record {
      seat = c.draw-number.ensures.beside ∙ l.invariant.seat;
      view = draws_client (view_of l.claim_handle) (view_of c.draw-number.new.claim_handle) (length clients) number (map place_of l.runs.items) l.invariant.view c.draw-number.ensures.drawn small
          ∙ ap (λ (ns : List ℕ). view 1 1 (length clients) ns) (sym (map-append place_of l.runs.items (run ∷ [])));
      given = runs_keep bits_of _ _ _ _ runs ∙ search rules;
      each = All-push (IsClientRun (AreRunWith bits_of c.args.desk.now.tries.given) lists) l.runs.items run l.invariant.each one;
    }
