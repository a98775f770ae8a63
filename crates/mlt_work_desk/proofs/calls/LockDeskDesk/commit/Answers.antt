use Rattle.std.proofs.Common.{rules, ◌∷◌, [], refl, subst}
use Rattle.mlt_work_desk.proofs.Names.{Event, first_items, IsToldTo, SeesEvent}
use Rattle.mlt_work_desk.proofs.Seeing.{sees_committed, sees_more, sees_refused}
use Rattle.mlt_work_desk.proofs.calls.LockDeskDesk.commit.Goals as goal

pub returns-in-Committed : goal.returns-in-Committed
returns-in-Committed g c =
    let before = first_items c.args.self.now.snapshot in
    let after = first_items c.hold-told.new.self.snapshot in
    let commits = Event.Commit c.args.tx in
    let held = c.hold-told.ensures in
    record {
      own = (commits, c.hold-told.result.0) ∷ [];
      made = held.made;
      events = (c.hold-told.result.0, refl);
      may = subst (λ said. IsToldTo g.P.Pseudo.bits_of commits said) c.in-Committed.is held.told;
      sees = sees_committed before c.args.tx c.in-Committed.number after (subst (λ said. SeesEvent before commits said after) c.in-Committed.is held.sees);
      begins = held.begun;
      spends = held.tries;
    }

pub returns-in-Refused : goal.returns-in-Refused
returns-in-Refused g c =
    let held = c.hold-told.ensures in
    record {
      own = (Event.Commit c.args.tx, c.hold-told.result.0) ∷ [];
      made = held.made;
      events = (c.hold-told.result.0, refl);
      may = search rules;
      sees = sees_refused _ _ _ _ (sees_more _ _ _ _ held.sees);
      begins = held.begun;
      spends = held.tries;
    }
