-- What a desk over a manager alone says of its calls: each is an event of the manager, and an abort is one or two
use Rattle.std.specs.Prelude.{ℕ, ◌≡◌, Bool, true, false, Result, Ok, Err}
use Rattle.mlt_types.specs.declared.refusal.Refusal.{Refusal}
use Rattle.mlt_object_kinds.specs.declared.operation.{ObjOp.ObjOp, ObjReply.ObjReply}
use Rattle.mlt_script_serial.specs.{declared.call.DeskAnswer.DeskAnswer, declared.call.DeskCall.DeskCall, Calls.answer_by}
use Rattle.mlt_script_serial.specs.declared.call.DeskAnswer.TheVariants.{Begun, Replied, Committed, Aborted, Refused}
use Rattle.mlt_event.specs.declared.{answer.Answer.Answer, event.Event.Event, told.Told.Told}
use Rattle.mlt_manager.specs.{Answers.counted, Events.Meets, Managers.ManagerFields}

-- the number that a begin answers that was told this
abbrev pub begun_told : Told → Result ℕ Refusal
begun_told (Told.Begun tx) = Ok tx
begun_told (Told.Refused reason) = Err reason
begun_told other = Err Refusal.Audit

-- the number that a commit answers that was told this
abbrev pub committed_told : Told → Result ℕ Refusal
committed_told (Told.Committed number) = Ok number
committed_told (Told.Refused reason) = Err reason
committed_told other = Err Refusal.Audit

-- whether an abort that was told this has something to take back
abbrev pub undoing_told : Told → Bool
undoing_told (Told.Aborting false) = true
undoing_told other = false

-- what an operation answers that was told this: one that is to wait, or is blocked, is given up
abbrev pub reply_told : Told → Result ObjReply Refusal
reply_told (Told.Answered (Answer.Done reply)) = Ok reply
reply_told (Told.Answered (Answer.Refused reason)) = Err reason
reply_told (Told.Refused reason) = Err reason
reply_told other = Err Refusal.GaveUp

module _ {P : Type 0} (bits_of : P → ℕ → ℕ) where
  pub record MeetsOperation (old : ManagerFields P) (tx : ℕ) (op : ObjOp) (answer : DeskAnswer)
      (new : ManagerFields P) : Type 0 where
    pub said : Told
    pub answers : answer ≡ answer_by Replied (reply_told said)
    pub meets : Meets bits_of (Event.Whole tx op) said (counted old) new

  -- where there is something to take back, that is the next event
  abbrev pub MeetsUndoing : Bool → ManagerFields P → ℕ → ManagerFields P → Type 0
  MeetsUndoing true old tx new =
      (said : Told) × Meets bits_of (Event.WholeUndo tx) said (counted old) new
  MeetsUndoing false old tx new = new ≡ old

  pub record MeetsAbort (old : ManagerFields P) (tx : ℕ) (new : ManagerFields P) : Type 0 where
    pub said : Told
    pub middle : ManagerFields P
    pub meets : Meets bits_of (Event.Abort tx) said (counted old) middle
    pub undoes : MeetsUndoing (undoing_told said) middle tx new

  -- a call is answered so
  abbrev pub MeetsCall : ManagerFields P → DeskCall → DeskAnswer → ManagerFields P → Type 0
  MeetsCall old DeskCall.Begin (Begun tx) new =
      Meets bits_of Event.Begin (Told.Begun tx) (counted old) new
  MeetsCall old DeskCall.Begin (Refused reason) new =
      Meets bits_of Event.Begin (Told.Refused reason) (counted old) new
  MeetsCall old (DeskCall.Operation tx op) answer new = MeetsOperation old tx op answer new
  MeetsCall old (DeskCall.Commit tx) (Committed number) new =
      Meets bits_of (Event.Commit tx) (Told.Committed number) (counted old) new
  MeetsCall old (DeskCall.Commit tx) (Refused reason) new =
      Meets bits_of (Event.Commit tx) (Told.Refused reason) (counted old) new
  MeetsCall old (DeskCall.Abort tx) Aborted new = MeetsAbort old tx new
  MeetsCall old asked answer new = ⊥
