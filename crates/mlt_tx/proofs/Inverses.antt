-- An inverse adds no record, so it splits nothing, stays in its first pass, and is never refused
use Rattle.std.proofs.Common.{◌≡◌, ℕ, Bool, true, false, None, Option, Some, refl, sym, ap, subst, ◌∙◌, inl, inr}
use Rattle.std.proofs.lemmas.Bool.{false≢true}
use Rattle.mlt_object_kinds.specs.declared.{account.AccountOp.TheVariants.Open, account.AccountOp.TheVariants.Close, account.AccountOp.TheVariants.Deposit, account.AccountOp.TheVariants.Withdraw, counter.CounterOp.TheVariants.Up, counter.CounterOp.TheVariants.Down, element.ElementOp.ElementOp, operation.ObjOp.TheVariants.Account, operation.ObjOp.TheVariants.Element, operation.ObjOp.TheVariants.Counter, operation.ObjOp.TheVariants.Size}
use Rattle.mlt_tx.proofs.Names.{ObjOp, ObjReply, TakeBack, inverse_of, LocalState, WalkContext, OperationFields, started_for, TellsOfStart}
use Rattle.mlt_object_base.specs.{declared.record.RecChange.RecChange, declared.record.RecChange.TheVariants.Add, declared.request.Request.Request, Requests.decision, Requests.size_key_of}
use Rattle.mlt_tx_operation.specs.{declared.answer.StepAnswer.StepAnswer, Answers.StepsOn, Answers.TellsOfStep, Answers.Waits, Operating.IsInFirst, Operating.access_path_for}
use Rattle.mlt_tx_two_records.specs.Performing.{AsksToAdd}
use Rattle.mlt_tx.specs.Steps.{IsInverting, answer_of}

abbrev is_addition : Option RecChange → Bool
is_addition (Some (Add v)) = true
is_addition other = false

never_adds : (item : ObjOp × ObjReply) → is_addition (inverse_of item) ≡ false
never_adds (Account a Open, ObjReply.Opened) = refl
never_adds (Account a Close, ObjReply.Closed) = refl
never_adds (Account a (Deposit n), ObjReply.Done) = refl
never_adds (Account a (Withdraw n), ObjReply.Done) = refl
never_adds (Account a op, other) = refl
never_adds (Element s e ElementOp.Add, ObjReply.Added) = refl
never_adds (Element s e ElementOp.Remove, ObjReply.Removed) = refl
never_adds (Element s e op, other) = refl
never_adds (Counter c (Up n), ObjReply.Done) = refl
never_adds (Counter c (Down n), ObjReply.Done) = refl
never_adds (Counter c op, other) = refl
never_adds (Size s, other) = refl

no_addition : (item : ObjOp × ObjReply) (request : Request) (value : ℕ) → request ≡ TakeBack item → AsksToAdd request value → ⊥
no_addition item request value is adds =
    false≢true (sym (never_adds item) ∙ ap (λ (d : ObjReply × Option RecChange). is_addition d.1) (ap (λ (r : Request). decision r None) (sym is) ∙ adds.1))

-- **An inverse that goes on stays in its pass.**
pub inverse_goes_on : (context : WalkContext) (old new : LocalState) (item : ObjOp × ObjReply) (before after : OperationFields) → IsInverting item before
    → TellsOfStep context old new before after StepAnswer.Going → StepsOn context old new before after × IsInverting item after
inverse_goes_on context old new item before after is (inl goes) = (goes, record { asked = goes.request ∙ is.asked; first = goes.in_first is.first })
inverse_goes_on context old new item before after is (inr (inl splits)) = absurd (splits.later is.first)
inverse_goes_on context old new item before after is (inr (inr again)) = absurd (no_addition item before.request again.adds.0 is.asked again.adds.1)

-- one that has taken no step is in its first pass
starts_first : (size : Option ℕ) (request : Request) → IsInFirst (access_path_for request size)
starts_first None request = refl
starts_first (Some key) request = tt

starts_inverting : (item : ObjOp × ObjReply) → IsInverting item (started_for (TakeBack item))
starts_inverting item = record { asked = refl; first = starts_first (size_key_of (TakeBack item)) (TakeBack item) }

-- **The first step of an inverse.**
pub start_tells : (context : WalkContext) (old new : LocalState) (item : ObjOp × ObjReply) (before after : OperationFields) (told : StepAnswer) → before ≡ started_for (TakeBack item) → TellsOfStep context old new before after told
    → TellsOfStart context item (Some after) old new (answer_of told)
start_tells context old new item before after StepAnswer.Going is tells =
    let goes = inverse_goes_on context old new item (started_for (TakeBack item)) after (starts_inverting item) (subst (λ (o : OperationFields). TellsOfStep context old new o after StepAnswer.Going) is tells) in
    record { after = after; is = refl; inverts = goes.1; tells = goes.0 }
start_tells context old new item before after (StepAnswer.Waiting page by) is tells = record {
  after = after;
  is = refl;
  inverts = subst (IsInverting item) (sym (tells.stays ∙ is)) (starts_inverting item);
  tells = subst (λ (o : OperationFields). Waits context old new o after page by) is tells;
}
start_tells context old new item before after (StepAnswer.Refused reason) is tells = absurd (tells.later (subst (λ (o : OperationFields). IsInFirst o.access_path) (sym is) (starts_inverting item).first))
