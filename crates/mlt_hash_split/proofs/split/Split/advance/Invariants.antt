use Rattle.mlt_hash_split.proofs.split.Split.advance.Given as goal

abbrev pub ghost-write_old_bucket : goal.ghost-write_old_bucket
ghost-write_old_bucket g a = g.target

abbrev pub ghost-write_in_place : goal.ghost-write_in_place
ghost-write_in_place g a = g.target

abbrev pub ghost-double_page : goal.ghost-double_page
ghost-double_page g a = g.target

abbrev pub ghost-make_second_half : goal.ghost-make_second_half
ghost-make_second_half g a = g.target

abbrev pub ghost-write_header : goal.ghost-write_header
ghost-write_header g a = g.target
