use Rattle.std.proofs.Common.{rules, ◌≡◌, ◌≢◌, ◌∙◌, List, [], ◌∷◌, length, false, true, ap, refl, arith}
use Rattle.mlt_work_desk.proofs.Names.{first_items, EndsWithOp, is_done}
use Rattle.mlt_work_waits.specs.Turns.{goes_on}
use Rattle.mlt_work_desk.proofs.{Cycles.youngest_of_cycle, Going.wakes_none, Replying.reply_not_done, Replying.reply_then, Trying.has_made, lock_desk.LockDesk.hold.Goals.then-is_done, lock_desk.LockDesk.hold.Goals.else-is_done, lock_desk.LockDesk.hold.Goals.then-not-is_empty, lock_desk.LockDesk.hold.Goals.else-not-is_empty}
use Rattle.mlt_work_desk.specs.declared.log_handles.Past.{Past}
use Rattle.mlt_work_desk.proofs.lock_desk.LockDesk.hold.Goals as goal

pub returns-clause-another : goal.returns-clause-another
returns-clause-another g c = λ no_reply.
    let history = c.act-told.new.self.manager.shared.history in
    let op = c.args.self.now.thread.op in
    let items = first_items c.act-told.new.snapshot in
    elim c.if-is_done.branch [
      | then-is_done w ↦
          let ends_not : w.ends_with.result ≡ false = search rules in
          let seen : items ≡ history.items = ap (λ (past : Past). past.items) c.act-told.ensures.seen ∙ c.act-told.new.self.logged in
          let not_in : history.items ≢ history.handed → EndsWithOp items op → ⊥ = search rules in
          reply_then _ _ c.args.event c.act-told.result.0 not_in c.act-told.ensures.keeps
      | else-is_done w ↦
          let not : is_done c.act-told.result.0 ≡ false = search rules in
          reply_not_done _ c.args.event c.act-told.result.0 not
    ]

pub returns-clause-youngest : goal.returns-clause-youngest
returns-clause-youngest g c = λ gives.
    let turns = c.act-told.ensures.turns in
    youngest_of_cycle c.args.may_sleep c.act-told.result.0 c.args.self.now.thread _ _ _ c.act-told.result.1 turns.0 turns.2 gives

pub returns-clause-told : goal.returns-clause-told
returns-clause-told g c =
    let act = c.act-told.ensures in
    record { before = _; after = c.act-told.new.self.manager; sound_before = act.before; sound_after = act.after; meets = act.meets }

pub returns-clause-sees : goal.returns-clause-sees
returns-clause-sees g c = c.act-told.ensures.sees

pub returns-clause-made : goal.returns-clause-made
returns-clause-made g c =
    let act = c.act-told.ensures in
    has_made _ _ _ _ _ act.first.acts (ap (λ (past : Past). past.acts) act.seen ∙ act.acts) act.amount

pub returns-then-goes_on-clause-made : goal.returns-then-goes_on-clause-made
returns-then-goes_on-clause-made g c =
    let act = c.act-told.ensures in
    has_made _ _ _ _ _ act.first.acts (ap (λ (past : Past). past.acts) act.seen ∙ act.acts) act.amount

pub invariant_of-self-2-clause-part : goal.invariant_of-self-2-clause-part
invariant_of-self-2-clause-part g c = c.act-told.ensures.parts ∙ c.args.self.now.part

pub invariant_of-self-2-clause-of_log : goal.invariant_of-self-2-clause-of_log
invariant_of-self-2-clause-of_log g c = c.act-told.ensures.of_log

nothing : {X : Type 0} (xs : List X) → length xs ≡ 0 → xs ≡ []
nothing [] none = refl
nothing (x ∷ xs) none = absurd (omega (arith, none))

pub invariant_of-self-2-clause-none : goal.invariant_of-self-2-clause-none
invariant_of-self-2-clause-none g c = elim c.if-not-is_empty.branch [
  | then-not-is_empty w ↦ ap (λ s. s.1.1.1.1.1.1.1.1.1.1.0.items) w.self-is ∙ w.clear.ensures
  | else-not-is_empty w ↦
      let none : length c.act-told.new.wakers.items ≡ 0 = search rules in
      ap (λ s. s.1.1.1.1.1.1.1.1.1.1.0.items) w.self-is ∙ nothing c.act-told.new.wakers.items none
]

-- where its operation goes on

pub invariant_of-self-clause-part : goal.invariant_of-self-clause-part
invariant_of-self-clause-part g c = c.act-told.ensures.parts ∙ c.args.self.now.part

pub invariant_of-self-clause-of_log : goal.invariant_of-self-clause-of_log
invariant_of-self-clause-of_log g c = c.act-told.ensures.of_log

pub invariant_of-self-clause-none : goal.invariant_of-self-clause-none
invariant_of-self-clause-none g c =
    let turns = c.act-told.ensures.turns in
    let goes : goes_on c.act-told.result.0 ≡ true = search rules in
    let none : c.act-told.new.wakers.items ≡ [] = turns.1 ∙ wakes_none c.args.may_sleep c.args.event c.act-told.result.0 c.args.self.now.thread _ _ _ c.act-told.result.1 turns.0 goes turns.2 in
    search rules
