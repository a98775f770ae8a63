-- What a step of an operation on two records tells
use Rattle.std.specs.Prelude.{ℕ, ◌≡◌}
use Rattle.mlt_types.specs.declared.refusal.Refusal.{Refusal}
use Rattle.mlt_object_base.specs.{declared.request.Request.Request, Requests.target_of}
use Rattle.mlt_hash_access.specs.{LocalStates.LocalState, PageTurns.TakesTurn, Views.view_of}
use Rattle.mlt_hash.specs.{Steps.steps_to_bucket, Walks.WalkContext, Walks.one_key}
use Rattle.mlt_tx_two_records.specs.{declared.answer.TwoRecordAnswer.TwoRecordAnswer, declared.two_records.TwoRecordWalk.TwoRecordWalk, declared.two_records.TwoRecordWalk.TheVariants.First, declared.two_records.TwoRecordWalk.TheVariants.Owing, declared.two_records.TwoRecordWalk.TheVariants.Wide, declared.two_records.WideStage.WideStage, TwoRecordWalks.IsTold, TwoRecordWalks.Stands, FirstPass.FindsNoRoom, FirstPass.PairWaits, FirstPass.StepsToBuckets, FirstPass.WasLast, WalkSteps.WalkWaits}
use Rattle.mlt_tx_two_records.specs.WidePass.{GoesOver, HasChangedNow, OwnRefused, SizeRefused, SizeWaits, SizeWalksOn, WalksOn, wide_to}

-- How it goes on: one step nearer in its pass; from the later bucket of the first pass to the earlier one; from the first pass to
-- a wide one, since there was no room; and from its own key to that of the size.
abbrev pub GoesOnBy : TwoRecordWalk → TwoRecordWalk → WalkContext → LocalState → LocalState → Request → Type 0
GoesOnBy (First pair) (First pair') context old new request =
    TakesTurn old new × StepsToBuckets pair pair'
GoesOnBy (First pair) (Owing pair' reply) context old new request = TakesTurn old new × WasLast pair
GoesOnBy (First pair) (Wide WideStage.Own walk) context old new request =
    FindsNoRoom context old new request pair × (walk ≡ wide_to (target_of request).0)
GoesOnBy (Wide WideStage.Own walk) (Wide WideStage.Own walk') context old new request =
    TakesTurn old new × WalksOn (one_key context) old new walk walk'
GoesOnBy (Wide WideStage.Own walk) (Wide WideStage.Size walk') context old new request =
    TakesTurn old new × GoesOver context new request walk walk'
GoesOnBy (Wide WideStage.Size walk) (Wide WideStage.Size walk') context old new request =
    TakesTurn old new × SizeWalksOn context old new request walk walk'
GoesOnBy other other' context old new request = ⊥

-- at which step the reply is told
abbrev pub TellsLast : TwoRecordWalk → TwoRecordWalk → Type 0
TellsLast (First pair) (First pair') = WasLast pair
TellsLast (Owing pair reply) (Owing pair' reply') = reply' ≡ reply
TellsLast (Wide WideStage.Own walk) (Wide WideStage.Own walk') = steps_to_bucket walk.phase ≡ 1
TellsLast (Wide WideStage.Size walk) (Wide WideStage.Size walk') = HasChangedNow walk
TellsLast other other' = ⊥

-- which page it waits for
abbrev pub WaitsBy : TwoRecordWalk → TwoRecordWalk → WalkContext → LocalState → LocalState → Request → ℕ → ℕ → Type 0
WaitsBy (First pair) (First pair') context old new request page by =
    PairWaits context.root old new pair pair' page by
WaitsBy (Wide WideStage.Own walk) (Wide WideStage.Own walk') context old new request page by =
    WalkWaits (one_key context) old new walk walk' page by
WaitsBy (Wide WideStage.Size walk) (Wide WideStage.Size walk') context old new request page by =
    SizeWaits context old new request walk walk' page by
WaitsBy other other' context old new request page by = ⊥

-- why it is refused: never in its first pass
abbrev pub RefusedBy : TwoRecordWalk → WalkContext → LocalState → LocalState → Request → Refusal → Type 0
RefusedBy (First pair) context old new request reason = ⊥
RefusedBy (Owing pair reply) context old new request reason = ⊥
RefusedBy (Wide WideStage.Own walk) context old new request reason = OwnRefused context old new walk reason
RefusedBy (Wide WideStage.Size walk) context old new request reason =
    SizeRefused context old new request walk reason

-- A step goes on, from one bucket or pass to the next; or tells the reply; or waits, and nothing
-- has changed; or is refused, in a wide pass.
abbrev pub TellsOfTwoRecords : WalkContext → LocalState → LocalState → TwoRecordWalk → TwoRecordWalk → Request → TwoRecordAnswer → Type 0
TellsOfTwoRecords context old new before after request TwoRecordAnswer.Going =
    Stands after context request (view_of new) × GoesOnBy before after context old new request
TellsOfTwoRecords context old new before after request (TwoRecordAnswer.Waiting page by) =
    WaitsBy before after context old new request page by
TellsOfTwoRecords context old new before after request (TwoRecordAnswer.Told reply) =
    TakesTurn old new × TellsLast before after × IsTold after context request reply (view_of new)
TellsOfTwoRecords context old new before after request (TwoRecordAnswer.Refused reason) =
    RefusedBy before context old new request reason
