use Rattle.mlt_script.proofs.Printed.{line_reads}
use Rattle.mlt_script.proofs.printer.reads_again.Goals as goal

pub returns : goal.returns
returns c = line_reads c.args.line c.line_fits.ensures
