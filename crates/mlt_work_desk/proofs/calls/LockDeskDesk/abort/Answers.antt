use Rattle.std.proofs.Common.{rules, ◌≡◌, ◌∙◌, false, true, ◌∷◌, [], ap, refl, subst, sym}
use Rattle.mlt_work_desk.proofs.Names.{Event, Told, StartsWith, first_items}
use Rattle.mlt_work_desk.specs.{Acts.AreUndoSteps, Acts.FollowAbort, LogHandles.begun_by, LogHandles.seen_by, Views.desk_view}
use Rattle.mlt_work_desk.proofs.{Seeing.more_than, Seeing.sees_abort, Seeing.sees_more, Trying.made_from, Trying.made_more}
use Rattle.mlt_work_desk.proofs.calls.LockDeskDesk.abort.Goals as goal

pub returns-in-Aborting-true : goal.returns-in-Aborting-true
returns-in-Aborting-true g c =
    let held = c.hold-told.ensures in
    let closes : c.hold-told.result.0 ≡ Told.Aborting true = search rules in
    record {
      own = (Event.Abort c.args.tx, c.hold-told.result.0) ∷ [];
      made = held.made;
      events = (c.hold-told.result.0, [], refl, subst (λ said. FollowAbort c.args.tx said []) (sym closes) refl);
      may = tt;
      sees = sees_abort _ c.args.tx _ (sees_more _ _ _ _ held.sees);
      begins = held.begun;
      spends = held.tries;
    }

pub returns-in-Aborting-false : goal.returns-in-Aborting-false
returns-in-Aborting-false g c =
    let first = desk_view c.args.self.now.snapshot c.args.self.now.tries c.args.self.now.share.amount in
    let mid = desk_view c.hold-told.new.self.snapshot c.hold-told.new.self.tries c.hold-told.new.self.share.amount in
    let from = desk_view c.is_in.new.self.snapshot c.is_in.new.self.tries c.is_in.new.self.share.amount in
    let last = desk_view c.undo.new.self.snapshot c.undo.new.self.tries c.undo.new.self.share.amount in
    let before = first_items c.args.self.now.snapshot in
    let undoing = first_items c.is_in.new.self.snapshot in
    let after = first_items c.undo.new.self.snapshot in
    let held = c.hold-told.ensures in
    let undoes : c.hold-told.result.0 ≡ Told.Aborting false = search rules in
    let undone = c.undo.ensures.made in
    let more = subst (λ one. StartsWith (first_items one) before) (sym c.is_in.ensures.snapshot) (sees_more before _ _ _ held.sees) in
    let one = (Event.Abort c.args.tx, c.hold-told.result.0) ∷ [] in
    record {
      own = (Event.Abort c.args.tx, c.hold-told.result.0) ∷ undone.own;
      made = made_more first mid last one undone.own held.made (made_from mid from last undone.own (ap seen_by c.is_in.ensures.snapshot) c.is_in.ensures.events undone.made);
      events = (
        c.hold-told.result.0,
        undone.own,
        refl,
        subst (λ said. FollowAbort c.args.tx said undone.own) (sym undoes) (subst (λ x. AreUndoSteps x undone.own) c.is_in.ensures.tx undone.steps),
      );
      may = tt;
      sees = sees_abort before c.args.tx after (more_than before undoing after c.undo.ensures.more more);
      begins = c.undo.ensures.begun ∙ ap begun_by c.is_in.ensures.snapshot ∙ held.begun;
      spends = c.undo.ensures.tries ∙ c.is_in.ensures.tries ∙ held.tries;
    }

pub returns-in-Refused : goal.returns-in-Refused
returns-in-Refused g c =
    let held = c.hold-told.ensures in
    record {
      own = (Event.Abort c.args.tx, c.hold-told.result.0) ∷ [];
      made = held.made;
      events = (c.hold-told.result.0, [], refl, subst (λ said. FollowAbort c.args.tx said []) (sym c.in-Refused.is) refl);
      may = tt;
      sees = sees_abort _ c.args.tx _ (sees_more _ _ _ _ held.sees);
      begins = held.begun;
      spends = held.tries;
    }
