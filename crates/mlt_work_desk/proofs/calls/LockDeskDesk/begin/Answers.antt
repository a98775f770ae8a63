use Rattle.std.proofs.Common.{rules, ◌∙◌, ◌∷◌, [], refl, subst}
use Rattle.mlt_work_desk.proofs.Names.{Event, first_items, IsToldTo, SeesEvent}
use Rattle.mlt_work_desk.specs.{Holds.HasBegun, LogHandles.begun_by}
use Rattle.mlt_work_desk.proofs.{Seeing.sees_begun, Seeing.sees_more, Seeing.sees_refused, Trying.made_from}
use Rattle.mlt_work_desk.proofs.calls.LockDeskDesk.begin.Goals as goal

pub returns-after-not-self : goal.returns-after-not-self
returns-after-not-self g c =
    let bits_of = g.P.Pseudo.bits_of in
    let before = first_items c.args.self.now.snapshot in
    let after = first_items c.hold-told.new.self.snapshot in
    let held = c.hold-told.ensures in
    record {
      own = (Event.Begin, c.hold-told.result.0) ∷ [];
      made = made_from _ _ _ _ refl refl held.made;
      events = (c.hold-told.result.0, refl);
      may = subst (λ said. IsToldTo bits_of Event.Begin said) c.in-Begun.is held.told;
      sees = sees_begun before c.in-Begun.tx after (subst (λ said. SeesEvent before Event.Begin said after) c.in-Begun.is held.sees);
      begins = subst (λ said. HasBegun (begun_by c.args.self.now.snapshot) Event.Begin said (begun_by c.hold-told.new.self.snapshot)) c.in-Begun.is held.begun;
      spends = held.tries ∙ c.begin.ensures;
    }

pub returns-in-Refused : goal.returns-in-Refused
returns-in-Refused g c =
    let held = c.hold-told.ensures in
    record {
      own = (Event.Begin, c.hold-told.result.0) ∷ [];
      made = made_from _ _ _ _ refl refl held.made;
      events = (c.hold-told.result.0, refl);
      may = search rules;
      sees = sees_refused _ _ _ _ (sees_more _ _ _ _ held.sees);
      begins = subst (λ said. HasBegun (begun_by c.args.self.now.snapshot) Event.Begin said (begun_by c.hold-told.new.self.snapshot)) c.in-Refused.is held.begun;
      spends = held.tries ∙ c.begin.ensures;
    }
