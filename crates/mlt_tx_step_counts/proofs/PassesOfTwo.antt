-- The passes of any operation, and of its inverse
use Rattle.std.proofs.Common.{◌≡◌, ℕ, List, Option, None, Some, is_some, refl, ap, ◌∙◌}
use Rattle.mlt_tx_step_counts.proofs.Names.{ObjOp, ObjReply, Do, TakeBack, size_key_of, View, WalkContext, one_key, access_path_for, started_for, At, Transaction, IsToTakeBack, AreOwnSteps, OwnStep}
use Rattle.mlt_tx_step_counts.specs.CountsOfTwo.{TakesBackBy, TakesBackOf, TakesPassBy, TakesPassOf}
use Rattle.mlt_tx_step_counts.proofs.{FirstOfTwo.first_pass_of_two, Inverses.taken_back, InversesOfTwo.taken_back_of_two, Passes.first_pass}

-- **The first pass of any operation.**
pub pass_of : (context : WalkContext) (op : ObjOp) (t : Transaction) (seen : View) (steps : List OwnStep) → t.at ≡ At.Pending (started_for (Do op)) → AreOwnSteps (one_key context) t seen steps → TakesPassOf (one_key context) op steps
pass_of context op t seen steps pending own = by (size_key_of (Do op)) refl
  where
    by : (size : Option ℕ) → size_key_of (Do op) ≡ size → TakesPassBy size (one_key context) op steps
    by None is = first_pass (one_key context) op t seen steps (pending ∙ (λ i. At.Pending (record { request = Do op; reply = None; access_path = access_path_for (Do op) (is i) }))) own
    by (Some key) is = first_pass_of_two (one_key context) op t seen steps (ap is_some is) pending own

-- **And its inverse.**
pub inverse_of_any : (context : WalkContext) (t : Transaction) (last : ObjOp × ObjReply) (seen : View) (steps : List OwnStep) → IsToTakeBack t last → AreOwnSteps (one_key context) t seen steps → TakesBackOf last steps
inverse_of_any context t last seen steps to own = by (size_key_of (TakeBack last)) refl
  where
    by : (size : Option ℕ) → size_key_of (TakeBack last) ≡ size → TakesBackBy size last steps
    by None is = taken_back (one_key context) t last seen steps is to own
    by (Some key) is = taken_back_of_two (one_key context) t last seen steps (ap is_some is) to own
