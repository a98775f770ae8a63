use Rattle.std.proofs.Common.{◌≡◌, ◌++◌, ◌∷◌, [], List, ap, ◌∙◌, reverse}
use Rattle.mlt_script.proofs.Names.{Line, Plain}
use Rattle.mlt_script.proofs.Placing.{kept_plain}
use Rattle.mlt_script.proofs.open_script.OpenScript.ask.Goals as goal

pub invariant_of-self-2 : goal.invariant_of-self-2
invariant_of-self-2 c =
    let s = c.args.self.now in
    let more : c.push.new.self.items ≡ s.lines.items ++ Plain c.args.statement ∷ [] =
    c.in_ok-push.ensures.items ∙ ap (λ (ls : List Line). ls ++ Plain c.args.statement ∷ []) c.make_room.ensures in
    let k = kept_plain s.lines.items c.push.new.self.items s.count (reverse s.ifs.items) c.args.statement more c.requires (s.kept, s.counted, s.framed, s.wide, s.deep) in
    record { client_in_range = s.client_in_range; kept = k.0.0; counted = k.0.1; framed = k.0.2; wide = k.0.3; deep = k.0.4 }

pub returns-clause-lines : goal.returns-clause-lines
returns-clause-lines c =
    let s = c.args.self.now in
    let more : c.push.new.self.items ≡ s.lines.items ++ Plain c.args.statement ∷ [] =
    c.in_ok-push.ensures.items ∙ ap (λ (ls : List Line). ls ++ Plain c.args.statement ∷ []) c.make_room.ensures in
    let k = kept_plain s.lines.items c.push.new.self.items s.count (reverse s.ifs.items) c.args.statement more c.requires (s.kept, s.counted, s.framed, s.wide, s.deep) in
    k.1
