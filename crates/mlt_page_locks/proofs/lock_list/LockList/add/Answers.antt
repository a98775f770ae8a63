use Rattle.std.proofs.Common.{length, ap, ◌∙◌, lit<}
use Rattle.mlt_page_locks.proofs.Names.{HeldPages, with_lock}
use Rattle.mlt_page_locks.proofs.Pages.{Strengthened, added, added_behind, room_for}
use Rattle.mlt_page_locks.proofs.lock_list.LockList.add.Goals as goal

behind : (c : goal.After-push) → Strengthened c.self.inside.locks.items c.args.page c.args.mode c.push.new.self.items
behind c =
    added_behind c.self.inside.locks.items c.deref.result.now c.push.new.self.items c.args.page c.args.mode c.self.invariant c.deref.ensures.0
    (c.is_behind.ensures.0 c.if-is_behind.true) c.push.ensures.items

among : (c : goal.After-insert) → Strengthened c.self.inside.locks.items c.args.page c.args.mode c.insert.new.self.items
among c =
    added c.self.inside.locks.items c.deref-else-is_behind.result.now c.insert.new.self.items c.args.page c.in-Some.place c.args.mode c.self.invariant c.deref-else-is_behind.ensures.0
    c.in-Some.ensures c.insert.ensures.items

pub push-requires : goal.push-requires
push-requires c =
    let room =
    room_for c.self.inside.locks.items c.deref.result.now c.args.self.now.modes c.args.page (length c.deref.result.now) c.args.mode c.self.invariant c.deref.ensures.0
    (c.is_behind.ensures.0 c.if-is_behind.true) (ap (λ (v : HeldPages). v.modes) c.self.view_is) c.requires in
    (lit< tt, room.1)

pub insert-requires : goal.insert-requires
insert-requires c =
    let room =
    room_for c.self.inside.locks.items c.deref-else-is_behind.result.now c.args.self.now.modes c.args.page c.in-Some.place c.args.mode c.self.invariant c.deref-else-is_behind.ensures.0
    c.in-Some.ensures (ap (λ (v : HeldPages). v.modes) c.self.view_is) c.requires in
    (lit< tt, room)

pub invariant_of-self : goal.invariant_of-self
invariant_of-self c = (behind c).in_order

pub invariant_of-self-in-Some : goal.invariant_of-self-in-Some
invariant_of-self-in-Some c = (among c).in_order

pub returns-then-is_behind : goal.returns-then-is_behind
returns-then-is_behind c =
    ap (λ modes. record { tx = c.self.inside.tx; modes = modes }) (behind c).modes ∙ ap (λ (v : HeldPages). with_lock v c.args.page c.args.mode) c.self.view_is

pub returns-in-Some : goal.returns-in-Some
returns-in-Some c =
    ap (λ modes. record { tx = c.self.inside.tx; modes = modes }) (among c).modes ∙ ap (λ (v : HeldPages). with_lock v c.args.page c.args.mode) c.self.view_is
