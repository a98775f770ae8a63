use Rattle.std.proofs.Common.{◌∙◌, ap, sym, length, arith}
use Rattle.std.specs.FinMap as map
use Rattle.mlt_page_locks.proofs.Names.{HeldPages, is_list_of}
use Rattle.mlt_page_locks.proofs.Covering.{place_is, no_place, none_before}
use Rattle.mlt_page_locks.proofs.page_locks.list_from.Goals as goal

pub returns-then-is_of : goal.returns-then-is_of
returns-then-is_of c =
    let next = c.in-Some.ensures in
    let d = c.index-lists-place.result in
    let lists = c.args.lists.now in
    let within = next.within in
    place_is (is_list_of c.args.tx) lists c.in-Some.place d within
    (ap (is_list_of c.args.tx) (sym c.index-lists-place.is) ∙ sym c.is_of.ensures ∙ c.if-is_of.true)
    (λ k below. none_before lists (is_list_of c.args.tx) c.args.mask c.loop-place.start c.in-Some.place c.requires.marked (omega arith) next.passed_over c.loop-place.invariant k d below)

pub returns : goal.returns
returns c =
    let free : HeldPages = record { tx = 0; modes = map.empty } in
    let lists = c.args.lists.now in
    no_place (is_list_of c.args.tx) lists free
    (λ k below. none_before lists (is_list_of c.args.tx) c.args.mask c.loop-place.start (length lists) c.requires.marked (omega arith) c.in_default.ensures c.loop-place.invariant k free below)
