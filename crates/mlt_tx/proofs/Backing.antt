-- The ends of inverses
use Rattle.std.proofs.Common.{◌≡◌, List, [], ◌∷◌, ◌++◌, Option, refl, sym, ap, ◌∙◌}
use Rattle.mlt_tx.proofs.Names.{Running, WalkContext, OperationFields, Answer, SharedState}
use Rattle.mlt_object_base.specs.Undo.{Undo}
use Rattle.mlt_tx.specs.{Endings.tx_state, Steps.EndsBack, Steps.TellsOfBack}

-- a list has one last item
last_from : {A : Type 0} → List A → A → A
last_from [] x = x
last_from (y ∷ ys) x = last_from ys y

last_behind : {A : Type 0} (xs : List A) (x y : A) → last_from (xs ++ x ∷ []) y ≡ x
unfolding last_from
last_behind [] x y = refl
last_behind (z ∷ xs) x y = last_behind xs x z

pub one_last : {A : Type 0} (entries front front' : List A) (x y : A) → entries ≡ front ++ x ∷ [] → entries ≡ front' ++ y ∷ [] → x ≡ y
one_last entries front front' x y one other =
    sym (last_behind front x x) ∙ ap (λ l. last_from l x) (sym one ∙ other) ∙ last_behind front' y x

-- **The end of an inverse is what a step of the abort tells.**
pub end_tells : (context : WalkContext) (inverting inverting' : Option OperationFields) (running running' : Running) (undo undo' : Undo) (old new : SharedState) (told : Answer)
    → EndsBack inverting inverting' (tx_state running undo old) (tx_state running' undo' new) told → TellsOfBack context inverting inverting' (tx_state running undo old) (tx_state running' undo' new) told
end_tells context inverting inverting' running running' undo undo' old new Answer.Undone ends = ends
end_tells context inverting inverting' running running' undo undo' old new Answer.Aborted ends = ends
end_tells context inverting inverting' running running' undo undo' old new other ends = absurd ends.takes
