-- What is pending after an answer
use Rattle.std.proofs.Common.{◌≡◌, refl}
use Rattle.mlt_types.specs.declared.refusal.Refusal.{Refusal}
use Rattle.mlt_tx.proofs.Names.{ObjReply, OperationFields, Answer, SharedState, At, LeavesRoom, pending_after}

-- an operation that is neither done nor refused is pending still
pub still_pending : (told : Answer) (o : OperationFields) → ((reply : ObjReply) → told ≡ Answer.Done reply → ⊥) → ((reason : Refusal) → told ≡ Answer.Refused reason → ⊥) → At.Pending o ≡ pending_after told o
still_pending (Answer.Done reply) o done refused = absurd (done reply refl)
still_pending (Answer.Refused reason) o done refused = absurd (refused reason refl)
still_pending other o done refused = refl

-- who is not refused gives up no room
pub keeps_room : (told : Answer) (shared : SharedState) → ((reason : Refusal) → told ≡ Answer.Refused reason → ⊥) → LeavesRoom told shared shared
keeps_room (Answer.Refused reason) shared refused = absurd (refused reason refl)
keeps_room other shared refused = refl
