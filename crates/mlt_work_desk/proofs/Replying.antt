-- What a step with a reply leaves, and whose reply it is.
use Rattle.std.proofs.Common.{◌≡◌, ◌≢◌, ◌∙◌, ◌+◌, ℕ, List, ◌++◌, length, false, ap, refl, subst, sym, arith, length-append}
use Rattle.mlt_work_desk.proofs.Names.{false≢true, ObjReply, TraceItem, Answer, Event, Told, ManagerFields, IfReply, is_done}
use Rattle.mlt_manager.specs.Courses.{AddsItems, Course, HasAdded}

-- what is so of each reply to a step
of_reply : (X : Type 0) (e : Event) (t : Told) → ((tx : ℕ) (reply : ObjReply) → e ≡ Event.Step tx → t ≡ Told.Answered (Answer.Done reply) → X) → IfReply e t X
of_reply X Event.Begin t so = tt
of_reply X (Event.Call tx op) t so = tt
of_reply X (Event.Cancel tx) t so = tt
of_reply X (Event.Commit tx) t so = tt
of_reply X (Event.Abort tx) t so = tt
of_reply X (Event.Whole tx op) t so = tt
of_reply X (Event.WholeUndo tx) t so = tt
of_reply X (Event.Step tx) (Told.Begun x) so = tt
of_reply X (Event.Step tx) Told.Called so = tt
of_reply X (Event.Step tx) Told.Cancelled so = tt
of_reply X (Event.Step tx) (Told.Committed number) so = tt
of_reply X (Event.Step tx) (Told.Aborting closed) so = tt
of_reply X (Event.Step tx) (Told.Refused refusal) so = tt
of_reply X (Event.Step tx) (Told.Answered Answer.Going) so = tt
of_reply X (Event.Step tx) (Told.Answered (Answer.Waiting page by)) so = tt
of_reply X (Event.Step tx) (Told.Answered (Answer.Blocked by)) so = tt
of_reply X (Event.Step tx) (Told.Answered (Answer.Done reply)) so = so tx reply refl refl
of_reply X (Event.Step tx) (Told.Answered (Answer.Refused refusal)) so = tt
of_reply X (Event.Step tx) (Told.Answered Answer.Undone) so = tt
of_reply X (Event.Step tx) (Told.Answered Answer.Aborted) so = tt

-- what is not done is no reply
pub reply_not_done : (X : Type 0) (e : Event) (t : Told) → is_done t ≡ false → IfReply e t X
reply_not_done X e t not = of_reply X e t (λ tx reply step was. absurd (false≢true (sym not ∙ ap is_done was)))

-- what follows from it is so as well
pub reply_then : (X Y : Type 0) (e : Event) (t : Told) → (X → Y) → IfReply e t X → IfReply e t Y
reply_then X Y e t follows is = of_reply Y e t (λ tx reply step was.
    follows (subst (λ u. IfReply (Event.Step tx) u X) was (subst (λ a. IfReply a t X) step is)))

-- the item of a reply was not handed out before, and so it is kept
pub keeps_reply : {P : Type 0} (c d : Course) (e : Event) (t : Told) (m m' : ManagerFields P) (kept : List TraceItem)
    → m.shared.history.items ≡ m.shared.history.handed ++ kept → m'.shared.history.handed ≡ m.shared.history.handed
    → HasAdded c e t d m.shared.history.items m'.shared.history.items → IfReply e t (m'.shared.history.items ≢ m'.shared.history.handed)
keeps_reply c d e t m m' kept whole same (added, is, adds) = of_reply _ e t (λ tx reply step was all.
    let replied : AddsItems c (Event.Step tx) (Told.Answered (Answer.Done reply)) d added = subst (λ u. AddsItems c (Event.Step tx) u d added) was (subst (λ a. AddsItems c a t d added) step adds) in
    let here : length added ≡ 1 = ap length replied.2 in
    let now : length m'.shared.history.items ≡ length m.shared.history.items + length added = ap length is ∙ length-append m.shared.history.items added in
    let had : length m.shared.history.items ≡ length m.shared.history.handed + length kept = ap length whole ∙ length-append m.shared.history.handed kept in
    let none : length m'.shared.history.items ≡ length m'.shared.history.handed = ap length all in
    let handed : length m'.shared.history.handed ≡ length m.shared.history.handed = ap length same in
    absurd (omega (arith, here, now, had, none, handed)))
