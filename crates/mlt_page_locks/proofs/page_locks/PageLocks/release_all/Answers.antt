use Rattle.std.proofs.Common.{ap, sym, ◌∙◌, set, position}
use Rattle.std.specs.FinMap as map
use Rattle.mlt_page_locks.proofs.Names.{LockTable, released, HeldPages, is_list_of, lock_table, position-Some}
use Rattle.mlt_page_locks.proofs.{Tables.nothing_released, Grants.Makes, Grants.cleared, Covering.covers_cleared}
use Rattle.mlt_page_locks.proofs.page_locks.PageLocks.release_all.Goals as goal

made : (c : goal.After-self-1) → Makes (set c.self.inside.lists.items c.in-Some.place c.clear.new.self) (released (lock_table c.self.inside.lists.items) c.args.tx)
made c =
    cleared c.self.inside.lists.items c.deref.result.now c.args.tx c.in-Some.place c.index_mut.result.now c.clear.new.self
    c.self.invariant.sound c.deref.ensures.value c.in-Some.ensures
    (c.clear.ensures ∙ ap (λ (p : HeldPages). record { tx = p.tx; modes = map.empty }) c.index_mut.ensures.value)

pub invariant_of-self : goal.invariant_of-self
invariant_of-self c =
    let old = c.self.inside in
    let at = position-Some (is_list_of c.args.tx) old.lists.items c.in-Some.place c.index_mut.result.now (ap (position (is_list_of c.args.tx)) (sym c.deref.ensures.value) ∙ sym c.in-Some.ensures) in
    record {
      sound = (made c).sound;
      covers = covers_cleared old.lists.items old.pages old.holders c.unmark_pages.new.pages c.unmark.new.self c.in-Some.place c.clear.new.self at.0 c.self.invariant.covers
          (ap (λ (p : HeldPages). p.modes) c.clear.ensures) c.unmark_pages.ensures.others c.unmark.ensures.others;
    }

pub returns-in-Some-clause-released : goal.returns-in-Some-clause-released
returns-in-Some-clause-released c = (made c).makes_it ∙ ap (λ (t : LockTable). released t c.args.tx) c.self.view_is

pub returns-in-Some-clause-compatible : goal.returns-in-Some-clause-compatible
returns-in-Some-clause-compatible c = (made c).sound.compatible

pub returns-in_default-clause-released : goal.returns-in_default-clause-released
returns-in_default-clause-released c =
    sym c.self.view_is ∙ nothing_released c.self.inside.lists.items c.deref.result.now c.args.tx c.deref.ensures.value c.in_default.ensures ∙ ap (λ (t : LockTable). released t c.args.tx) c.self.view_is
