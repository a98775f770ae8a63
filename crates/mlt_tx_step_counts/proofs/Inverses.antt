-- The steps of an inverse of an operation on one record
use Rattle.std.proofs.Common.{◌≡◌, List, None, refl, sym, ap, ◌∙◌, inl, inr}
use Rattle.mlt_tx_step_counts.proofs.Names.{ObjOp, ObjReply, TakeBack, size_key_of, View, WalkContext, WalkFields, one_key, Pass, access_path_for, walk_for, walking, Transaction, IsTakenBack, IsToTakeBack, AreOwnSteps, OwnStep, context_at}
use Rattle.mlt_hash.specs.Passes.{next_of}
use Rattle.mlt_tx_operation.specs.Answers.{Restarts}
use Rattle.mlt_tx_step_counts.{specs.Counts.TakesBackInFour, proofs.Passes.follows, proofs.Passes.not_first, proofs.Stages.Leaves, proofs.Stages.from_start}
use Rattle.mlt_tx_step_counts.proofs.BackSteps.{Inverts, inverse_runner, to_begin, without_inverse}

-- it stays in its first pass
none_follows : (context : WalkContext) (last : ObjOp × ObjReply) → Leaves (one_key context) (Inverts last) (TakeBack last) Pass.First Restarts (λ t step back. ⊥)
none_follows context last n o t seen step more stage goes r own =
    not_first (next_of r.how.full.phase)
    (follows (context_at (one_key context) step) r.back.mid r.how.walk r.how.full Pass.First (r.how.reaches.same.pass ∙ stage.in_pass) r.how.restarts)
    (sym (ap (λ (w : WalkFields). w.pass) r.how.again) ∙ goes.runs.first)

-- **An inverse.**
pub taken_back : (context : WalkContext) (t : Transaction) (last : ObjOp × ObjReply) (seen : View) (steps : List OwnStep) → size_key_of (TakeBack last) ≡ None → IsToTakeBack t last → AreOwnSteps (one_key context) t seen steps → TakesBackInFour last steps
taken_back context t last seen steps alone to own = record {
  inverse = λ some. elim (from_start (one_key context) (Inverts last) IsTakenBack (inverse_runner (one_key context) last) (TakeBack last) Pass.First (λ t' step back. ⊥) (λ t' step back. ⊥)
      (λ n o t' seen' step more stage goes splits own'. splits.later stage.in_pass) (none_follows (one_key context) last) (walking (TakeBack last) None (walk_for (TakeBack last))) t seen steps
      (to_begin t last _ to some (λ i. record { request = TakeBack last; reply = None; access_path = access_path_for (TakeBack last) (alone i) }) refl) refl refl refl refl own) [
        | inl then ↦ then
        | inr (inl away) ↦ absurd (away.1 refl)
        | inr (inr (inl splits)) ↦ absurd splits.0.turns
        | inr (inr (inr none)) ↦ absurd none.turns
      ];
  none = without_inverse (one_key context) t last seen steps to own;
}
