use Rattle.std.proofs.Common.{ap, sym, ◌∙◌, position}
use Rattle.std.specs.FinMap as map
use Rattle.mlt_page_locks.proofs.Names.{position-Some, HeldPages, is_list_of}
use Rattle.mlt_page_locks.proofs.page_locks.place_for.Goals as goal

pub returns-in-Some-clause-marked : goal.returns-in-Some-clause-marked
returns-in-Some-clause-marked c =
    let free : HeldPages = record { tx = 0; modes = map.empty } in
    let at = position-Some (is_list_of c.args.tx) c.args.lists.now.items c.in-Some.place free (ap (position (is_list_of c.args.tx)) (sym c.deref.ensures.value) ∙ sym c.in-Some.ensures) in
    c.requires.marked.marked c.in-Some.place free at.0 at.1
