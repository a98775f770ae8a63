use Rattle.std.proofs.Common.{rules, ◌≡◌, ◌∙◌, ◌++◌, [], length, ap, refl, sym}
use Rattle.std.proofs.KnownBytes.{Appends-nil}
use Rattle.mlt_serve.proofs.Lining.{all_written, one_block}
use Rattle.mlt_serve.proofs.trace_keeping.write_lines.Goals as goal

pub loop-rest-init : goal.loop-rest-init
loop-rest-init g c = ([], refl, ([], refl, Appends-nil _))

pub loop-rest-preserved : goal.loop-rest-preserved
loop-rest-preserved g c =
    let l = c.loop-rest in
    let next = one_block c.args.items.now l.invariant.0 l.rest.now c.in_ok-count.count l.file.bytes _ _ _ l.invariant.1 l.invariant.2 c.in_ok-count.ensures.lines in
    (next.0, next.1 ∙ ap (λ xs. next.0 ++ xs) (sym c.split_at.ensures.back), next.2)

pub returns : goal.returns
returns g c =
    let l = c.loop-rest in
    let none : length l.rest.now ≡ 0 = search rules in
    record { lines = all_written c.args.items.now l.invariant.0 l.rest.now _ _ l.invariant.1 none l.invariant.2 }
