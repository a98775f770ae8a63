use Rattle.mlt_script.proofs.PlainForms.{begin_alone, begin_client, commit_alone}
use Rattle.mlt_script.proofs.plain.frame_line.Goals as goal

pub returns-in-Some : goal.returns-in-Some
returns-in-Some c = begin_alone _ _ c.in-Some.ensures.some

pub returns-in-Some-after : goal.returns-in-Some-after
returns-in-Some-after c = commit_alone _ _ c.in-Some-after.ensures.some

pub returns-in_ok-rest : goal.returns-in_ok-rest
returns-in_ok-rest c = begin_client _ _ _ _ _ c.in_ok-after.ensures.some c.in_ok-client.ensures c.in_ok-rest.ensures.some c.if-client-lt1000.true
