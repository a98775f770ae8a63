use Rattle.std.proofs.Common.{◌≡◌, ◌+◌, ◌∷◌, [], reverse, ap, ◌∙◌, false}
use Rattle.mlt_script.proofs.Names.{reverse-append, Frame}
use Rattle.mlt_script.proofs.Placing.{kept_if}
use Rattle.mlt_script.proofs.open_script.OpenScript.open.Goals as goal

pub invariant_of-result : goal.invariant_of-result
invariant_of-result c =
    let s = c.args.self in
    let f : Frame = record { other = s.count + 1; turned = false } in
    let g : reverse c.push-2.new.self.items ≡ f ∷ reverse s.ifs.items = ap reverse c.in_ok-push-2.ensures.items ∙ reverse-append s.ifs.items (f ∷ []) in
    let k = kept_if s.lines.items c.push.new.self.items s.count (reverse s.ifs.items) (reverse c.push-2.new.self.items) c.args.asking c.args.wanted c.in_ok-push.ensures.items g c.requires
    (s.kept, s.counted, s.framed, s.wide, s.deep) in
    record { client_in_range = s.client_in_range; kept = k.0.0; counted = k.0.1; framed = k.0.2; wide = k.0.3; deep = k.0.4 }

pub returns-clause-lines : goal.returns-clause-lines
returns-clause-lines c =
    let s = c.args.self in
    let f : Frame = record { other = s.count + 1; turned = false } in
    let g : reverse c.push-2.new.self.items ≡ f ∷ reverse s.ifs.items = ap reverse c.in_ok-push-2.ensures.items ∙ reverse-append s.ifs.items (f ∷ []) in
    let k = kept_if s.lines.items c.push.new.self.items s.count (reverse s.ifs.items) (reverse c.push-2.new.self.items) c.args.asking c.args.wanted c.in_ok-push.ensures.items g c.requires
    (s.kept, s.counted, s.framed, s.wide, s.deep) in
    k.1
