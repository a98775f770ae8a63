-- What a turn of one transaction, and a roll back, leave of all running subtransactions
use Rattle.std.proofs.Common.{◌≡◌, ℕ, Option, is_some, true, unwrap_or, sym, ap, ◌∙◌}
use Rattle.std.specs.FinMap as map
use Rattle.mlt_manager_invariant.proofs.Names.{Images, LocalState, AllMayStep, AllRunning, KeepsRunning, after_roll_back, after_step, clean_of, is_open, local_of, TakesTurn, TurnsBack}
use Rattle.mlt_hash_access.proofs.{OwnSteps.step_keeps_tx, AllEvents.roll_back_clean, AllEvents.roll_back_keeps, AllEvents.step_leaves_clean, AllEvents.step_leaves_views}
use Rattle.mlt_manager_invariant.proofs.{Tables.inserted_here, Closing.one_after_another}

-- what the next step of the transaction works on, after one that led here
pub stepped : (all : AllRunning) (i : ℕ) (m : LocalState) → m.running.tx ≡ i → local_of (after_step all m) i ≡ m
stepped all i m tx p = record {
  running = record {
    tx = sym tx p;
    images = (ap (λ (n : ℕ). unwrap_or (map.get (map.insert all.images m.running.tx m.running.images) n) map.empty) (sym tx) ∙ ap (λ (o : Option Images). unwrap_or o map.empty) (inserted_here all.images m.running.tx m.running.images)) p;
  };
  locks = m.locks;
  store = m.store;
}

-- what an event leaves of all running subtransactions and of the clean pages
pub record LeavesAll (i : ℕ) (all new : AllRunning) : Type 0 where
  pub keeps : KeepsRunning i all new
  pub clean : clean_of new ≡ clean_of all

module _ (all : AllRunning) (i : ℕ) (may : AllMayStep all) (opened : is_open all i ≡ true) where
  still_open : (m : LocalState) → m.running.tx ≡ i → is_open (after_step all m) i ≡ true
  still_open m tx = ap (λ (n : ℕ). is_some (map.get (map.insert all.images m.running.tx m.running.images) n)) (sym tx) ∙ ap is_some (inserted_here all.images m.running.tx m.running.images)

  pub rolled_back : LeavesAll i all (after_roll_back all i)
  rolled_back = record { keeps = roll_back_keeps all i may opened; clean = roll_back_clean all i may }

-- **A turn leaves the clean pages, and all that others see.**
pub turn_leaves : (all : AllRunning) (i : ℕ) (new : LocalState) → AllMayStep all → is_open all i ≡ true → TakesTurn (local_of all i) new → LeavesAll i all (after_step all new) × (new.running.tx ≡ i)
turn_leaves all i new may opened turn = (
  record { keeps = step_leaves_views all i new may opened turn.touches turn.few; clean = step_leaves_clean all i new may opened turn.touches },
  step_keeps_tx (local_of all i) new turn.touches,
)

-- **So does a turn that is rolled back.**
pub turn_back_leaves : (all : AllRunning) (i : ℕ) (new : LocalState) → AllMayStep all → is_open all i ≡ true → (back : TurnsBack (local_of all i) new)
    → LeavesAll i all (after_roll_back (after_step all back.mid) i)
turn_back_leaves all i new may opened back =
    let turned = turn_leaves all i back.mid may opened back.turn in
    let middle = after_step all back.mid in
    let rolled = rolled_back middle i turned.0.keeps.may (still_open all i may opened back.mid turned.1) in
    record { keeps = one_after_another i all middle (after_roll_back middle i) turned.0.keeps rolled.keeps; clean = rolled.clean ∙ turned.0.clean }
