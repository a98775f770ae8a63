-- Steps of one transaction, one after another
use Rattle.std.proofs.Common.{◌≡◌, ℕ, List, [], ◌∷◌, ◌++◌, Some, refl, sym, ap, subst, ◌∙◌}
use Rattle.std.specs.FinMap as map
use Rattle.mlt_manager.proofs.Names.{Answer, At, Transaction, Table, inserted_here, HasStepped, IsOpenAt, txs_after, StepsBy, StepsUpTo, IsManager, ManagerFields}
use Rattle.mlt_manager.proofs.{Called.one_there, Stepped.step_keeps}

-- such steps were taken, and the transaction is at this
pub record IsUnderWay {P : Type 0} (bits_of : P → ℕ → ℕ) (GoesOn : Answer → Type 0) (Is : At → Type 0) (old m : ManagerFields P) (tx : ℕ) : Type 0 where
  pub manager : IsManager bits_of m
  pub is_at : IsOpenAt m.txs tx Is
  pub steps : List (ManagerFields P × Answer)
  pub goes : StepsBy bits_of GoesOn old steps m tx

-- no step was taken yet
pub none_taken : {P : Type 0} (bits_of : P → ℕ → ℕ) (GoesOn : Answer → Type 0) (Is : At → Type 0) (m : ManagerFields P) (tx : ℕ) → IsManager bits_of m → IsOpenAt m.txs tx Is → IsUnderWay bits_of GoesOn Is m m tx
none_taken bits_of GoesOn Is m tx h is = record { manager = h; is_at = is; steps = []; goes = refl }

module _ {P : Type 0} (bits_of : P → ℕ → ℕ) (GoesOn : Answer → Type 0) (old m m' : ManagerFields P) (tx : ℕ) (told : Answer) where
  one_more : (first : ManagerFields P) (steps : List (ManagerFields P × Answer)) → StepsBy bits_of GoesOn first steps m tx → HasStepped bits_of m m' tx told → GoesOn told
      → StepsBy bits_of GoesOn first (steps ++ (m', told) ∷ []) m' tx
  one_more first [] same step goes = (subst (λ (n : ManagerFields P). HasStepped bits_of n m' tx told) same step, goes, refl)
  one_more first (one ∷ more) (here, on, rest) step goes = (here, on, one_more one.0 more rest step goes)

  -- **One more step.**
  pub one_taken : (Is : At → Type 0) → IsUnderWay bits_of GoesOn Is old m tx → HasStepped bits_of m m' tx told → GoesOn told → IsOpenAt m'.txs tx Is → IsUnderWay bits_of GoesOn Is old m' tx
  one_taken Is w step goes is = record {
    manager = (step_keeps bits_of m w.manager tx m' told step).0;
    is_at = is;
    steps = w.steps ++ (m', told) ∷ [];
    goes = one_more old w.steps w.goes step goes;
  }

  -- **The step that stops.**
  pub last_taken : (Is : At → Type 0) (Stops : Answer → Type 0) → IsUnderWay bits_of GoesOn Is old m tx → HasStepped bits_of m m' tx told → Stops told → StepsUpTo bits_of GoesOn Stops old m' tx told
  last_taken Is Stops w step stops = record { steps = w.steps; before = m; goes = w.goes; ends = step; stops = stops }

  -- the transaction that takes a step is the one that was found
  pub found_before : (Is : At → Type 0) → IsOpenAt m.txs tx Is → (d : HasStepped bits_of m m' tx told) → Is d.steps.changes.before.at
  found_before Is is d = subst (λ (t : Transaction). Is t.at) (one_there m.txs tx is.one d.steps.changes.before is.there d.steps.changes.was) is.is_at

  -- and one that is not told `Aborted` is open still
  pub there_after : (d : HasStepped bits_of m m' tx told) → txs_after told tx d.txs ≡ d.txs → map.get m'.txs tx ≡ Some d.steps.changes.after
  there_after d stays =
      ap (λ (n : ManagerFields P). map.get n.txs tx) d.rest ∙ ap (λ (t : Table). map.get t tx) (stays ∙ d.steps.changes.is) ∙ inserted_here m.txs tx d.steps.changes.after

-- **They keep what is always true.**
module _ {P : Type 0} (bits_of : P → ℕ → ℕ) (GoesOn : Answer → Type 0) (tx : ℕ) where
  pub steps_keep : (old last : ManagerFields P) (steps : List (ManagerFields P × Answer)) → IsManager bits_of old → StepsBy bits_of GoesOn old steps last tx → IsManager bits_of last
  steps_keep old last [] h same = subst (IsManager bits_of) (sym same) h
  steps_keep old last (one ∷ more) h (first, on, rest) = steps_keep one.0 last more (step_keeps bits_of old h tx one.0 one.1 first).0 rest

  pub up_to_keeps : (Stops : Answer → Type 0) (old new : ManagerFields P) (told : Answer) → IsManager bits_of old → StepsUpTo bits_of GoesOn Stops old new tx told → IsManager bits_of new
  up_to_keeps Stops old new told h s = (step_keeps bits_of s.before (steps_keep old s.before s.steps h s.goes) tx new told s.ends).0
