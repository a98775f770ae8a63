-- What an event adds to the history
use Rattle.std.proofs.Common.{◌≡◌, ℕ, List, [], ◌∷◌, ◌++◌, ◌+◌, ◌-◌, length, replicate, true, false, refl, sym, ap, ◌∙◌, append_assoc, append-nil, arith, length-append}
use Rattle.std.specs.FinMap as map
use Rattle.mlt_manager.proofs.Names.{Refusal, ObjOp, ObjReply, TraceItem, entries_of, Answer, Event, Told, Request, At, Table, IsOpenAt, IsPendingWith, LeavesBase, WholeLeavesBase, IsManager, Meets, ManagerFields}
use Rattle.mlt_order.{specs.Histories.Lists, specs.Histories.after_entries, specs.Histories.but_last, specs.Histories.no_lists, proofs.Growing.but_last-push, proofs.Tables.with_entry-same}
use Rattle.mlt_manager.specs.Courses.{HasAdded, Life, Ops, asked_op, course_of, life_at, life_in, ops_in}
use Rattle.mlt_manager.proofs.{Courses.event_course, Courses.lists_on, Courses.stands_in, UndoingBases.one_more}

-- what stands after the last operations were taken back
back_lists : (tx : ℕ) (taken left : Ops) (lists : Lists (ObjOp × ObjReply)) → lists.transcripts tx ≡ left ++ taken
    → (after_entries lists (entries_of (replicate (length taken) (TraceItem.Back tx)))).transcripts tx ≡ left
back_lists tx [] left lists is = is ∙ append-nil left
back_lists tx (x ∷ xs) left lists is =
    let back = TraceItem.Back tx in
    let n = length xs in
    let last : back ∷ replicate n back ≡ replicate n back ++ back ∷ [] = ap (λ (l : List TraceItem). back ∷ l) (sym (append-nil (replicate n back))) ∙ sym (one_more n back []) in
    let before = after_entries lists (entries_of (replicate n back)) in
    let stood : before.transcripts tx ≡ left ++ x ∷ [] = back_lists tx xs (left ++ x ∷ []) lists (is ∙ sym (append_assoc left (x ∷ []) xs)) in
    ap (λ (l : List TraceItem). (after_entries lists (entries_of l)).transcripts tx) last ∙ ap (λ (l : Lists (ObjOp × ObjReply)). l.transcripts tx) (lists_on (replicate n back) (back ∷ []) lists)
    ∙ with_entry-same before.transcripts tx tx (but_last (before.transcripts tx)) refl ∙ ap but_last stood ∙ but_last-push left x

asked_with : (op : ObjOp) (a : At) → IsPendingWith op a → life_at a ≡ Life.Pending op
asked_with op (At.Pending o) is = ap (λ (r : Request). Life.Pending (asked_op r)) is
asked_with op At.Idle none = absurd none
asked_with op (At.Undoing inverting) none = absurd none

pending_life : (txs : Table) (tx : ℕ) (op : ObjOp) → IsOpenAt txs tx (IsPendingWith op) → life_in (map.get txs tx) ≡ Life.Pending op
pending_life txs tx op there = ap life_in there.there ∙ asked_with op there.one.at there.is_at

module _ {P : Type 0} (bits_of : P → ℕ → ℕ) (m m' : ManagerFields P) where
  abbrev Adds : Event → Told → Type 0
  Adds e t = HasAdded (course_of m) e t (course_of m') m.shared.history.items m'.shared.history.items

  none : m'.shared.history.items ≡ m.shared.history.items → m'.shared.history.items ≡ m.shared.history.items ++ []
  none same = same ∙ sym (append-nil m.shared.history.items)

  refused : m' ≡ m → m'.shared.history.items ≡ m.shared.history.items ++ []
  refused same = none (ap (λ (n : ManagerFields P). n.shared.history.items) same)

  answer_adds : (tx : ℕ) (said : Answer) → LeavesBase said m m' tx → Adds (Event.Step tx) (Told.Answered said)
  answer_adds tx (Answer.Done reply) (op, makes) = (TraceItem.Op tx (op, reply) ∷ [], makes.adds.items, (op, pending_life m.txs tx op makes.pending, refl))
  answer_adds tx (Answer.Blocked by) (keeps, found) = ([], none keeps.items, refl)
  answer_adds tx Answer.Undone takes = (TraceItem.Back tx ∷ [], takes.2.items, refl)
  answer_adds tx Answer.Aborted takes = (TraceItem.Back tx ∷ TraceItem.Abort tx ∷ [], takes.1.items, refl)
  answer_adds tx Answer.Going keeps = ([], none keeps.items, refl)
  answer_adds tx (Answer.Waiting page by) keeps = ([], none keeps.items, refl)
  answer_adds tx (Answer.Refused reason) keeps = ([], none keeps.items, refl)

  whole_adds : (tx : ℕ) (op : ObjOp) (said : Answer) → WholeLeavesBase said m m' tx op → Adds (Event.Whole tx op) (Told.Answered said)
  whole_adds tx op (Answer.Done reply) adds = (TraceItem.Op tx (op, reply) ∷ [], adds.items, refl)
  whole_adds tx op (Answer.Blocked by) (keeps, found) = ([], none keeps.items, refl)
  whole_adds tx op Answer.Going keeps = ([], none keeps.items, refl)
  whole_adds tx op (Answer.Waiting page by) keeps = ([], none keeps.items, refl)
  whole_adds tx op Answer.Undone keeps = ([], none keeps.items, refl)
  whole_adds tx op Answer.Aborted keeps = ([], none keeps.items, refl)
  whole_adds tx op (Answer.Refused reason) keeps = ([], none keeps.items, refl)

  -- what stands after a whole undoing that waits
  left_behind : IsManager bits_of m → IsManager bits_of m' → (tx : ℕ) (left taken : Ops) → (course_of m).ops tx ≡ left ++ taken
      → m'.shared.history.items ≡ m.shared.history.items ++ replicate (length taken) (TraceItem.Back tx) → (course_of m').ops tx ≡ left
  left_behind h h' tx left taken stood is =
      let backs = replicate (length taken) (TraceItem.Back tx) in
      let before = after_entries no_lists (entries_of m.shared.history.items) in
      let was : before.transcripts tx ≡ left ++ taken = stands_in bits_of m h tx (map.get m.txs tx) refl ∙ stood in
      sym (stands_in bits_of m' h' tx (map.get m'.txs tx) refl) ∙ ap (λ (l : List TraceItem). (after_entries no_lists (entries_of l)).transcripts tx) is
      ∙ ap (λ (l : Lists (ObjOp × ObjReply)). l.transcripts tx) (lists_on m.shared.history.items backs no_lists) ∙ back_lists tx taken left before was

  module _ (h : IsManager bits_of m) (h' : IsManager bits_of m') where
    -- **What an event adds.**
    adds : (e : Event) (t : Told) → Meets bits_of e t m m' → Adds e t
    adds Event.Begin (Told.Begun tx) b = (TraceItem.Begin tx ∷ [], b.items, refl)
    adds Event.Begin (Told.Refused reason) a = ([], refused a.1, refl)
    adds Event.Begin other a = absurd a
    adds (Event.Call tx op) Told.Called c = ([], none c.calls.tells.makes.items, refl)
    adds (Event.Call tx op) (Told.Refused Refusal.OutOfMemory) a = ([], none a.1.tells.makes.items, refl)
    adds (Event.Call tx op) (Told.Refused reason) a = ([], refused a.1, refl)
    adds (Event.Call tx op) other a = absurd a
    adds (Event.Step tx) (Told.Answered said) (d, leaves, named) = answer_adds tx said leaves
    adds (Event.Step tx) (Told.Refused reason) a = ([], refused a.1, refl)
    adds (Event.Step tx) other a = absurd a
    adds (Event.Cancel tx) Told.Cancelled (a, keeps) = ([], none keeps.items, refl)
    adds (Event.Cancel tx) (Told.Refused reason) a = ([], refused a.1, refl)
    adds (Event.Cancel tx) other a = absurd a
    adds (Event.Commit tx) (Told.Committed number) c = (TraceItem.Commit tx number ∷ [], c.ends.items, refl)
    adds (Event.Commit tx) (Told.Refused reason) a = ([], refused a.1, refl)
    adds (Event.Commit tx) other a = absurd a
    adds (Event.Abort tx) (Told.Aborting true) c = (TraceItem.Abort tx ∷ [], c.ends.items, refl)
    adds (Event.Abort tx) (Told.Aborting false) a = ([], none (ap (λ (n : ManagerFields P). n.shared.history.items) a.rest), refl)
    adds (Event.Abort tx) (Told.Refused reason) a = ([], refused a.1, refl)
    adds (Event.Abort tx) other a = absurd a
    adds (Event.Whole tx op) (Told.Answered said) (a, leaves, named) = whole_adds tx op said leaves
    adds (Event.Whole tx op) (Told.Refused Refusal.OutOfMemory) a = ([], none a.1.tells.makes.items, refl)
    adds (Event.Whole tx op) (Told.Refused reason) a = ([], refused a.1, refl)
    adds (Event.Whole tx op) other a = absurd a
    adds (Event.WholeUndo tx) (Told.Answered Answer.Aborted) (a, takes, named) =
        let stood : (course_of m).ops tx ≡ takes.taken = ap ops_in takes.there ∙ takes.entries in (
          replicate (length takes.taken) (TraceItem.Back tx) ++ TraceItem.Abort tx ∷ [],
          takes.items,
          ap (λ (l : Ops). replicate (length l) (TraceItem.Back tx) ++ TraceItem.Abort tx ∷ []) (sym stood),
        )
    adds (Event.WholeUndo tx) (Told.Answered (Answer.Waiting page by)) (a, (left, takes), named) =
        let backs = replicate (length takes.taken) (TraceItem.Back tx) in
        let is : m'.shared.history.items ≡ m.shared.history.items ++ backs = takes.items ∙ ap (λ (l : List TraceItem). m.shared.history.items ++ l) (append-nil backs) in
        let stood : (course_of m).ops tx ≡ left ++ takes.taken = ap ops_in takes.there ∙ takes.entries in
        let all : length ((course_of m).ops tx) ≡ length left + length takes.taken = ap length stood ∙ length-append left takes.taken in
        let stands : length ((course_of m').ops tx) ≡ length left = ap length (left_behind h h' tx left takes.taken stood is) in
        let count : length takes.taken ≡ length ((course_of m).ops tx) - length ((course_of m').ops tx) = omega (arith, all, stands) in
        (backs, is, ap (λ n. replicate n (TraceItem.Back tx)) count)
    adds (Event.WholeUndo tx) (Told.Answered other) (a, none, named) = absurd none
    adds (Event.WholeUndo tx) (Told.Refused reason) a = ([], refused a.1, refl)
    adds (Event.WholeUndo tx) other a = absurd a

  -- **What an event was told is what it adds to the history.**
  pub event_adds : IsManager bits_of m → (e : Event) (t : Told) → Meets bits_of e t m m' → Adds e t
  event_adds h e t meets = adds h (event_course bits_of m m' h e t meets).1 e t meets
