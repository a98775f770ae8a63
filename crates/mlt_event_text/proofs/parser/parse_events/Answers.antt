use Rattle.mlt_event_text.proofs.Deciding.{accepted, decided, faulty}
use Rattle.mlt_event_text.proofs.parser.parse_events.Goals as goal

pub returns-clause-accepted : goal.returns-clause-accepted
returns-clause-accepted c = accepted (λ events. events.items) c.args.text.now c.read_lines.result c.read_lines.ensures

pub returns-clause-faulty : goal.returns-clause-faulty
returns-clause-faulty c = faulty (λ events. events.items) c.args.text.now c.read_lines.result c.read_lines.ensures

pub returns-clause-decided : goal.returns-clause-decided
returns-clause-decided c = decided c.args.text.now
