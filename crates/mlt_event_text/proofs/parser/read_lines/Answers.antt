use Rattle.std.proofs.Common.{◌≡◌, length, rules, arith}
use Rattle.mlt_event_text.proofs.Going.{went_on, went_to_end}
use Rattle.mlt_event_text.proofs.parser.read_lines.Goals as goal

pub loop-rest-preserved : goal.loop-rest-preserved
loop-rest-preserved c =
    let l = c.loop-rest in
    let f = c.read_first-reading.ensures.first in
    let taken = c.in_ok-take_line.ensures f.0 f.2 in
    record {
      counted = let b = l.invariant.counted in let s = c.read_first-reading.ensures.less in omega (arith, b, s);
      over = went_on l.events.items c.take_line.new.events.items l.line c.args.text.now l.rest.now c.read_first-reading.result.1.now f.0
          f.1 taken.0 taken.1 l.invariant.over;
    }

pub returns : goal.returns
returns c =
    let none : length c.loop-rest.rest.now ≡ 0 = search rules in
    went_to_end c.loop-rest.events.items c.loop-rest.line c.args.text.now c.loop-rest.rest.now none c.loop-rest.invariant.over
