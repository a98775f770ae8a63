use Rattle.mlt_hash.proofs.Names.{split_target}
use Rattle.mlt_hash.proofs.walk.Walk.advance.Given as goal

abbrev pub ghost-read_header : goal.ghost-read_header
ghost-read_header g a = g.context

abbrev pub ghost-read_directory : goal.ghost-read_directory
ghost-read_directory g a = g.context

abbrev pub ghost-read_bucket : goal.ghost-read_bucket
ghost-read_bucket g a = g.context

abbrev pub ghost-add_or_split : goal.ghost-add_or_split
ghost-add_or_split g a = (g.context, a.room_depth)

abbrev pub ghost-go_on_splitting : goal.ghost-go_on_splitting
ghost-go_on_splitting g a = (g.context, split_target g.context a.walk.now a.room_depth)
