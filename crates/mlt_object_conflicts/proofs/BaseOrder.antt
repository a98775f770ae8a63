-- The laws of commit order at the steps of bases.
use Rattle.std.proofs.Common.{◌≡◌, ◌≢◌, ◌↔◌, ℕ, [], ◌∷◌, false, Contains}
use Rattle.mlt_object_conflicts.proofs.Names.{Base, Step, base_one_answer, ObjOp, ObjReply, clashes}
use Rattle.mlt_object_kinds.{specs.Bases.Transcript, specs.Bases.TranscriptLeads, proofs.BaseLaws.base_one_start}
use Rattle.mlt_order.specs.{Histories.Lists, Histories.MayCome, Histories.Entry.Did, Histories.Stage.Running, Runs.IsFunctional, Runs.IsInjective, Runs.Runs}
use Rattle.mlt_object_conflicts.proofs.BaseCommutes.{clash_free_commute}

pub base_functional : IsFunctional Step
base_functional before one other item h k = (base_one_answer before one other item.0 item.1 item.1 h k).1

pub base_injective : IsInjective Step
base_injective one other after item h k = base_one_start one other after item.0 item.1 h k

into : (before after : Base) (transcript : Transcript) → Runs Step before transcript after → TranscriptLeads before transcript after
into before after [] r = r
into before after (x ∷ transcript) r = (r.0, r.1, into r.0 after transcript r.2)

from : (before after : Base) (transcript : Transcript) → TranscriptLeads before transcript after → Runs Step before transcript after
from before after [] r = r
from before after (x ∷ transcript) r = (r.0, r.1, from r.0 after transcript r.2)

pub runs_agree : (before after : Base) (transcript : Transcript) → Runs Step before transcript after ↔ TranscriptLeads before transcript after
runs_agree before after transcript = (into before after transcript, from before after transcript)

-- an operation that clashes with nothing that others hold may come
pub did_may_come : (lists : Lists (ObjOp × ObjReply)) (before after : Base) (i : ℕ) (item : ObjOp × ObjReply) →
    lists.stage i ≡ Running → Step before item after →
    ((j : ℕ) (held : ObjOp × ObjReply) → j ≢ i → Contains (lists.held j) held → clashes held item ≡ false) →
    MayCome Step lists before (Did i item) after
did_may_come lists before after i item running step free =
    (running, λ j held n in_list. clash_free_commute held item (free j held n in_list), step)
