-- What a step of an operation on two records tells, as one of an operation
use Rattle.std.proofs.Common.{ℕ, ◌<◌, None, Some, refl, ap, inl, inr}
use Rattle.mlt_tx_operation.proofs.Names.{Refusal, ElementOp, Element, ObjReply, Request, Do, LocalState, TakesTurn, view_of, WalkContext, WalkFields, one_key, steps_of_two_records, AsksToAdd, TwoRecordWalk, First, Owing, Wide, WideStage, StepAnswer, IsRefused, StepsOn, TellsOfStep, Waits, on_two}
use Rattle.mlt_hash_pair.specs.Pairs.{PairFields, mode_next}
use Rattle.mlt_tx_two_records.specs.{Answers.GoesOnBy, Answers.RefusedBy, Answers.TellsLast, Answers.WaitsBy, TwoRecordWalks.IsFirst, TwoRecordWalks.IsTold, TwoRecordWalks.Stands, Performing.AddsElement}

-- what adds an element asks for a record where there is none
asks_to_add : (request : Request) → AddsElement request → (value : ℕ) × AsksToAdd request value
asks_to_add (Do (Element s e ElementOp.Add)) adds = (0, (ObjReply.Added, refl))
asks_to_add other never = absurd never

-- a turn within the pass, or from one stage of a wide pass to the other
goes_on : (before after : TwoRecordWalk) (context : WalkContext) (old new : LocalState) (request : Request) → TakesTurn old new → (IsFirst before → IsFirst after) → Stands after (one_key context) request (view_of new) → GoesOnBy before after (one_key context) old new request
    → steps_of_two_records context.root after (view_of new) < steps_of_two_records context.root before (view_of old) → StepsOn (one_key context) old new (on_two request None before) (on_two request None after)
goes_on before after context old new request turn first stands goes fewer = record { turn = turn; request = refl; operates = stands; in_first = first; fewer = fewer; how = goes }

-- **One that goes on, or begins its wide pass.**
pub two_records_goes_on : (before after : TwoRecordWalk) (context : WalkContext) (old new : LocalState) (request : Request) → Stands after (one_key context) request (view_of new) → GoesOnBy before after (one_key context) old new request
    → steps_of_two_records context.root after (view_of new) < steps_of_two_records context.root before (view_of old) → TellsOfStep (one_key context) old new (on_two request None before) (on_two request None after) StepAnswer.Going
two_records_goes_on (First pair) (First pair') context old new request stands goes fewer = inl (goes_on (First pair) (First pair') context old new request goes.0 (λ first. tt) stands goes fewer)
two_records_goes_on (First pair) (Owing pair' reply) context old new request stands goes fewer = inl (goes_on (First pair) (Owing pair' reply) context old new request goes.0 (λ first. tt) stands goes fewer)
two_records_goes_on (First pair) (Wide WideStage.Own walk) context old new request stands restarts fewer = inr (inr (record {
  back = restarts.0.back;
  request = refl;
  untold = (refl, refl);
  operates = stands;
  adds = asks_to_add request restarts.0.adds;
  how = restarts;
}))
two_records_goes_on (First pair) (Wide WideStage.Size walk) context old new request stands never fewer = absurd never
two_records_goes_on (Owing pair reply) after context old new request stands never fewer = absurd never
two_records_goes_on (Wide WideStage.Own walk) (Wide WideStage.Own walk') context old new request stands goes fewer = inl (goes_on (Wide WideStage.Own walk) (Wide WideStage.Own walk') context old new request goes.0 (λ first. first) stands goes fewer)
two_records_goes_on (Wide WideStage.Own walk) (Wide WideStage.Size walk') context old new request stands goes fewer = inl (goes_on (Wide WideStage.Own walk) (Wide WideStage.Size walk') context old new request goes.0 (λ first. first) stands goes fewer)
two_records_goes_on (Wide WideStage.Size walk) (Wide WideStage.Size walk') context old new request stands goes fewer = inl (goes_on (Wide WideStage.Size walk) (Wide WideStage.Size walk') context old new request goes.0 (λ first. first) stands goes fewer)
two_records_goes_on other other' context old new request stands never fewer = absurd never

-- it stays in its first pass
still_first : (before after : TwoRecordWalk) → TellsLast before after → IsFirst before → IsFirst after
still_first (First pair) (First pair') last first = tt
still_first (Owing pair reply) (Owing pair' reply') last first = tt
still_first (Wide to walk) after last never = absurd never
still_first other other' never first = absurd never

-- **One that is told its reply.**
pub two_records_tells : (before after : TwoRecordWalk) (context : WalkContext) (old new : LocalState) (request : Request) (reply : ObjReply) → TakesTurn old new → TellsLast before after → IsTold after (one_key context) request reply (view_of new)
    → 1 < steps_of_two_records context.root before (view_of old) → TellsOfStep (one_key context) old new (on_two request None before) (on_two request (Some reply) after) StepAnswer.Going
two_records_tells before after context old new request reply turn last told more = inl (record {
  turn = turn;
  request = refl;
  operates = told;
  in_first = still_first before after last;
  fewer = more;
  how = last;
})

-- **One that waits.**
pub two_records_waits : (before after : TwoRecordWalk) (context : WalkContext) (old new : LocalState) (request : Request) (page by : ℕ) → WaitsBy before after (one_key context) old new request page by
    → Waits (one_key context) old new (on_two request None before) (on_two request None after) page by
two_records_waits (First pair) (First pair') context old new request page by waits = record {
  mode = mode_next pair;
  asks = (waits.page_is, refl);
  lowest = waits.lowest;
  pages = waits.pages;
  stays = ap (λ (p : PairFields). on_two request None (First p)) waits.stays;
}
two_records_waits (Wide WideStage.Own walk) (Wide WideStage.Own walk') context old new request page by waits = record {
  mode = waits.mode;
  asks = waits.asks;
  lowest = waits.lowest;
  pages = waits.pages;
  stays = ap (λ (w : WalkFields). on_two request None (Wide WideStage.Own w)) waits.stays;
}
two_records_waits (Wide WideStage.Size walk) (Wide WideStage.Size walk') context old new request page by waits = record {
  mode = waits.waits.mode;
  asks = (waits.since, waits.put, waits.waits.asks);
  lowest = waits.waits.lowest;
  pages = waits.waits.pages;
  stays = ap (λ (w : WalkFields). on_two request None (Wide WideStage.Size w)) waits.waits.stays;
}
two_records_waits other other' context old new request page by never = absurd never

-- **One that is refused.**
pub two_records_refused : (before : TwoRecordWalk) (context : WalkContext) (old new : LocalState) (request : Request) (reason : Refusal) → RefusedBy before (one_key context) old new request reason
    → IsRefused (one_key context) old new (on_two request None before) reason
two_records_refused (Wide WideStage.Own walk) context old new request reason refused = record { back = refused.back; later = λ first. first; cause = refused.cause }
two_records_refused (Wide WideStage.Size walk) context old new request reason refused = record { back = refused.back; later = λ first. first; cause = (refused.since, refused.put, refused.cause) }
two_records_refused other context old new request reason never = absurd never
