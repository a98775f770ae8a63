use Rattle.std.proofs.Common.{Some, List, ap, sym, subst, ◌∙◌, get_or}
use Rattle.std.specs.FinMap as map
use Rattle.mlt_page_locks.proofs.Names.{PageLock, HeldPages, IsAt, IsBetween}
use Rattle.mlt_page_locks.proofs.Pages.{get-modes_of, get-modes_of_none}
use Rattle.mlt_page_locks.proofs.lock_list.LockList.mode_of.Goals as goal

pub returns-in-Ok : goal.returns-in-Ok
returns-in-Ok c =
    let at : IsAt c.self.inside.locks.items c.args.page c.in-Ok.place = subst (λ (l : List PageLock). IsAt l c.args.page c.in-Ok.place) c.deref.ensures.0 c.in-Ok.ensures in
    ap (λ locks. Some (get_or locks c.in-Ok.place c.index-deref-place.result).mode) c.deref-in-Ok.ensures.0
    ∙ sym (get-modes_of c.self.inside.locks.items c.args.page c.in-Ok.place c.index-deref-place.result c.self.invariant.rising at)
    ∙ ap (λ (v : HeldPages). map.get v.modes c.args.page) c.self.view_is

pub returns-in-Err : goal.returns-in-Err
returns-in-Err c =
    let between : IsBetween c.self.inside.locks.items c.args.page c.in-Err.field-0 = subst (λ (l : List PageLock). IsBetween l c.args.page c.in-Err.field-0) c.deref.ensures.0 c.in-Err.ensures in
    sym (get-modes_of_none c.self.inside.locks.items c.args.page c.in-Err.field-0 between)
    ∙ ap (λ (v : HeldPages). map.get v.modes c.args.page) c.self.view_is
