use Rattle.std.proofs.Common.{sym, ◌∙◌}
use Rattle.mlt_object_locks.proofs.ClassLaws.{column_in_the_way}
use Rattle.mlt_object_locks.proofs.classes.in_the_way_of.Goals as goal

pub returns-in-Some : goal.returns-in-Some
returns-in-Some c = column_in_the_way c.marked_beside.result c.args.requested.now c.in-Some.class (sym c.class_of.ensures ∙ c.in-Some.is) c.marked_beside.ensures
