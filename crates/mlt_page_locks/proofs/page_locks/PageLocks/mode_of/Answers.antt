use Rattle.std.proofs.Common.{refl, ap, sym, ◌∙◌}
use Rattle.std.specs.FinMap as map
use Rattle.mlt_page_locks.proofs.Names.{LockTable, mode_held, HeldPages}
use Rattle.mlt_page_locks.proofs.Tables.{mode_in_list, no_mode}
use Rattle.mlt_page_locks.proofs.page_locks.PageLocks.mode_of.Goals as goal

pub returns-in_err-place-clause-mode : goal.returns-in_err-place-clause-mode
returns-in_err-place-clause-mode c =
    c.from_residual.ensures
    ∙ no_mode c.self.inside.lists.items c.deref.result.now c.args.tx c.args.page c.deref.ensures.value (sym c.list_of.ensures ∙ c.in_err-place.was)
    ∙ ap (λ (t : LockTable). mode_held t c.args.tx c.args.page) c.self.view_is

pub returns-clause-mode : goal.returns-clause-mode
returns-clause-mode c =
    c.mode_of.ensures
    ∙ ap (λ (p : HeldPages). map.get p.modes c.args.page) c.index.ensures
    ∙ mode_in_list c.self.inside.lists.items c.deref.result.now c.self.inside.lists.items c.args.tx c.args.page c.in_ok-place.place c.index.result.now c.deref.ensures.value refl c.in_ok-place.ensures
    ∙ ap (λ (t : LockTable). mode_held t c.args.tx c.args.page) c.self.view_is
