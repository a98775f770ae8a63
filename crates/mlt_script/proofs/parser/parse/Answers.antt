use Rattle.mlt_script.proofs.Deciding.{decided, spelled, accepted, fault, faulty}
use Rattle.mlt_script.proofs.parser.parse.Goals as goal

pub returns-clause-spelled : goal.returns-clause-spelled
returns-clause-spelled c = spelled (λ scripts. scripts.items) c.args.text.now c.read_lines.result c.read_lines.ensures

pub returns-clause-accepted : goal.returns-clause-accepted
returns-clause-accepted c = accepted (λ scripts. scripts.items) c.args.text.now c.read_lines.result c.read_lines.ensures

pub returns-clause-fault : goal.returns-clause-fault
returns-clause-fault c = fault (λ scripts. scripts.items) c.args.text.now c.read_lines.result c.read_lines.ensures

pub returns-clause-faulty : goal.returns-clause-faulty
returns-clause-faulty c = faulty (λ scripts. scripts.items) c.args.text.now c.read_lines.result c.read_lines.ensures

pub returns-clause-decided : goal.returns-clause-decided
returns-clause-decided c = decided c.args.text.now
