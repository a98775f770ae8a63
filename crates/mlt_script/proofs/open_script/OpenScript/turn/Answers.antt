use Rattle.mlt_script.proofs.Placing.{kept_else}
use Rattle.mlt_script.proofs.open_script.OpenScript.turn.Goals as goal

pub invariant_of-result : goal.invariant_of-result
invariant_of-result c =
    let s = c.args.self in
    let k = kept_else s.lines.items c.push.new.self.items s.count c.in-Some.frame c.pop.new.self.items s.ifs.items c.push-in-Some.new.self.items
    c.in_ok-push-in-Some.ensures.items c.in-Some.ensures.items c.in_ok-push-in-Some-2.ensures.items c.requires (s.kept, s.counted, s.framed, s.wide, s.deep) in
    record { client_in_range = s.client_in_range; kept = k.0.0; counted = k.0.1; framed = k.0.2; wide = k.0.3; deep = k.0.4 }

pub returns-clause-lines : goal.returns-clause-lines
returns-clause-lines c =
    let s = c.args.self in
    let k = kept_else s.lines.items c.push.new.self.items s.count c.in-Some.frame c.pop.new.self.items s.ifs.items c.push-in-Some.new.self.items
    c.in_ok-push-in-Some.ensures.items c.in-Some.ensures.items c.in_ok-push-in-Some-2.ensures.items c.requires (s.kept, s.counted, s.framed, s.wide, s.deep) in
    k.1
