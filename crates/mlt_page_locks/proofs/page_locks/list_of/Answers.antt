use Rattle.std.proofs.Common.{◌∙◌, ap, sym, arith}
use Rattle.std.specs.FinMap as map
use Rattle.mlt_page_locks.proofs.Names.{HeldPages, is_list_of}
use Rattle.mlt_page_locks.proofs.Covering.{place_is, no_place, unmarked}
use Rattle.mlt_page_locks.proofs.page_locks.list_of.Goals as goal

pub returns-in_err-first : goal.returns-in_err-first
returns-in_err-first c =
    let free : HeldPages = record { tx = 0; modes = map.empty } in
    c.from_residual.ensures
    ∙ no_place (is_list_of c.args.tx) c.args.lists.now free
    (λ k below. unmarked c.args.lists.now (is_list_of c.args.tx) c.args.mask c.requires.marked k free below (c.in_err-first.ensures k (omega arith) below))

pub returns-then-is_of : goal.returns-then-is_of
returns-then-is_of c =
    let next = c.in_ok-first.ensures in
    let list = c.index-lists-first.result in
    place_is (is_list_of c.args.tx) c.args.lists.now c.in_ok-first.first list next.within
    (ap (is_list_of c.args.tx) (sym c.index-lists-first.is) ∙ sym c.is_of.ensures ∙ c.if-is_of.true)
    (λ k below. unmarked c.args.lists.now (is_list_of c.args.tx) c.args.mask c.requires.marked k list (let within = next.within in omega arith) (next.passed_over k (omega arith) below))
