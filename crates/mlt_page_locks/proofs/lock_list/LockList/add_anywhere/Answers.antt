use Rattle.std.proofs.Common.{ap, ◌∙◌, set, lit<}
use Rattle.mlt_page_locks.proofs.Names.{with_items, with_page, HeldPages}
use Rattle.mlt_page_locks.proofs.Pages.{Strengthened, strengthened, added, room_for}
use Rattle.mlt_page_locks.proofs.lock_list.LockList.add_anywhere.Goals as goal

stronger_lock : (c : goal.After-self-1) → Strengthened c.self.inside.locks.items c.args.page c.args.mode (with_items c.self.inside.locks (set c.deref_mut.result.now c.in-Ok.place (record { page = c.args.page; mode = c.stronger-mode.result }))).items
stronger_lock c =
    strengthened c.self.inside.locks c.deref.result.now c.deref-in-Ok.result.now c.deref_mut.result.now c.args.page c.in-Ok.place c.index-deref-place.result c.args.mode c.stronger-mode.result
    c.self.invariant c.deref.ensures.0 c.deref-in-Ok.ensures.0 c.deref_mut.ensures.value c.in-Ok.ensures c.stronger-mode.ensures

more_locks : (c : goal.After-insert) → Strengthened c.self.inside.locks.items c.args.page c.args.mode c.insert.new.self.items
more_locks c =
    added c.self.inside.locks.items c.deref.result.now c.insert.new.self.items c.args.page c.in-Err.place c.args.mode c.self.invariant c.deref.ensures.0 c.in-Err.ensures c.insert.ensures.items

pub invariant_of-self : goal.invariant_of-self
invariant_of-self c = (stronger_lock c).in_order

pub insert-requires : goal.insert-requires
insert-requires c =
    let room =
    room_for c.self.inside.locks.items c.deref.result.now c.args.self.now.modes c.args.page c.in-Err.place c.args.mode c.self.invariant c.deref.ensures.0 c.in-Err.ensures (ap (λ (v : HeldPages). v.modes) c.self.view_is) c.requires in
    (lit< tt, room)

pub invariant_of-self-in-Err : goal.invariant_of-self-in-Err
invariant_of-self-in-Err c = (more_locks c).in_order

pub returns-in-Ok : goal.returns-in-Ok
returns-in-Ok c =
    ap (λ modes. record { tx = c.self.inside.tx; modes = modes }) (stronger_lock c).modes
    ∙ ap (λ (v : HeldPages). record { tx = v.tx; modes = with_page v.modes c.args.page c.args.mode }) c.self.view_is

pub returns-in-Err : goal.returns-in-Err
returns-in-Err c =
    ap (λ modes. record { tx = c.self.inside.tx; modes = modes }) (more_locks c).modes
    ∙ ap (λ (v : HeldPages). record { tx = v.tx; modes = with_page v.modes c.args.page c.args.mode }) c.self.view_is
