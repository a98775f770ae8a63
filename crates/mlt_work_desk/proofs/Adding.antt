-- What an event adds to the history has the begin that it was told.
use Rattle.std.proofs.Common.{◌≡◌, ◌∙◌, ℕ, zero, suc, ◌-◌, List, [], ◌∷◌, ◌++◌, ap, append-nil, length, refl, replicate, true}
use Rattle.mlt_work_desk.proofs.Names.{TraceItem, Answer, Event, Told}
use Rattle.mlt_manager.specs.Courses.{AddsItems, Course, HasAdded}
use Rattle.mlt_trace.{specs.Numbers.begun_txs, proofs.ItemLaws.begun_txs-append}
use Rattle.mlt_work_desk.specs.Holds.{HasBegun, txs_begun}

-- what is taken back begins nothing
none_begun : (tx count : ℕ) → begun_txs (replicate count (TraceItem.Back tx)) ≡ []
none_begun tx zero = refl
none_begun tx (suc count) = none_begun tx count

-- the items that an event adds have the begin that it was told
adds_begun : (c d : Course) (e : Event) (t : Told) (here : List TraceItem) → AddsItems c e t d here → begun_txs here ≡ txs_begun e t
adds_begun c d Event.Begin (Told.Begun tx) here is = ap begun_txs is
adds_begun c d (Event.Step tx) (Told.Answered (Answer.Done reply)) here is = ap begun_txs is.2
adds_begun c d (Event.Step tx) (Told.Answered Answer.Undone) here is = ap begun_txs is
adds_begun c d (Event.Step tx) (Told.Answered Answer.Aborted) here is = ap begun_txs is
adds_begun c d (Event.Whole tx op) (Told.Answered (Answer.Done reply)) here is = ap begun_txs is
adds_begun c d (Event.WholeUndo tx) (Told.Answered Answer.Aborted) here is =
    let backs = replicate (length (c.ops tx)) (TraceItem.Back tx) in
    ap begun_txs is ∙ begun_txs-append backs (TraceItem.Abort tx ∷ []) ∙ append-nil (begun_txs backs) ∙ none_begun tx (length (c.ops tx))
adds_begun c d (Event.WholeUndo tx) (Told.Answered (Answer.Waiting page by)) here is = ap begun_txs is ∙ none_begun tx (length (c.ops tx) - length (d.ops tx))
adds_begun c d (Event.Commit tx) (Told.Committed number) here is = ap begun_txs is
adds_begun c d (Event.Abort tx) (Told.Aborting true) here is = ap begun_txs is
adds_begun c d event told here is = ap begun_txs is

-- **After an event the history has begun what it had, and what the event was told.**
pub event_begins : (c d : Course) (e : Event) (t : Told) (before after : List TraceItem) → HasAdded c e t d before after → begun_txs after ≡ begun_txs before ++ txs_begun e t
event_begins c d e t before after (here, is, adds) = ap begun_txs is ∙ begun_txs-append before here ∙ ap (λ txs. begun_txs before ++ txs) (adds_begun c d e t here adds)

-- what a desk has begun with that
pub has_begun : (e : Event) (t : Told) (before after : List ℕ) → after ≡ before ++ txs_begun e t → HasBegun before e t after
has_begun Event.Begin (Told.Begun tx) before after is = is
has_begun event told before after is = is ∙ append-nil before
