use Rattle.std.proofs.Common.{◌≡◌, ◌++◌, List, length, map}
use Rattle.mlt_script.specs.{Clients.AreFilled, Scripts.ScriptForm}
use Rattle.mlt_script.proofs.clients.fill.Given as goal

abbrev pub invariant-loop-script : goal.invariant-loop-script
invariant-loop-script l = (done : List ScriptForm) × (l.rest.items ++ done ≡ l.fn.scripts.items) × AreFilled done (map (λ list. list.items) l.table.items)

abbrev pub decreases-loop-script : goal.decreases-loop-script
decreases-loop-script l = length l.rest.items
