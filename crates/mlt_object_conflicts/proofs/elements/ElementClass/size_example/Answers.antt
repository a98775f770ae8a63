use Rattle.std.proofs.Common.{sym, ap, Some}
use Rattle.mlt_object_conflicts.proofs.SizeBreaks.{added_breaks, others_do_not_count, removed_breaks, uncounted_commute}
use Rattle.mlt_object_conflicts.proofs.elements.ElementClass.size_example.Goals as goal

pub returns-in-Added : goal.returns-in-Added
returns-in-Added c = record { breaks = (ap Some (sym c.in-Added.is), added_breaks) }

pub returns-in-Removed : goal.returns-in-Removed
returns-in-Removed c = record { breaks = (ap Some (sym c.in-Removed.is), removed_breaks) }

pub returns-in_default : goal.returns-in_default
returns-in_default c = record { breaks = uncounted_commute c.args.self (others_do_not_count c.args.self c.in_default.not-Added c.in_default.not-Removed) }
