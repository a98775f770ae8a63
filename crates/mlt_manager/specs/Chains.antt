-- Steps of one transaction, one after another
use Rattle.std.specs.Prelude.{ℕ, ◌≡◌, List, [], ◌∷◌}
use Rattle.mlt_event.specs.declared.answer.Answer.{Answer}
use Rattle.mlt_manager.specs.{Answers.HasStepped, Managers.ManagerFields}

-- steps that are each told to go on: what each leaves, and what it is told
abbrev pub StepsBy : {P : Type 0} → (P → ℕ → ℕ) → (Answer → Type 0) → ManagerFields P
    → List (ManagerFields P × Answer) → ManagerFields P → ℕ → Type 0
StepsBy bits_of GoesOn old [] last tx = last ≡ old
StepsBy bits_of GoesOn old (one ∷ more) last tx =
    HasStepped bits_of old one.0 tx one.1 × GoesOn one.1
    × StepsBy bits_of GoesOn one.0 more last tx

-- such steps, and the first that stops
pub record StepsUpTo {P : Type 0} (bits_of : P → ℕ → ℕ) (GoesOn Stops : Answer → Type 0)
    (old new : ManagerFields P) (tx : ℕ) (told : Answer) : Type 0 where
  pub steps : List (ManagerFields P × Answer)
  pub before : ManagerFields P
  pub goes : StepsBy bits_of GoesOn old steps before tx
  pub ends : HasStepped bits_of before new tx told
  pub stops : Stops told
