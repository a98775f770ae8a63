-- What a step and a cancel ask of a transaction
use Rattle.std.proofs.Common.{◌≡◌, ◌≢◌, ◌≤◌, ℕ, Option, Some, Err, unwrap_or, refl, ap, subst, sym, ◌∙◌, arith, nat_cmp}
use Rattle.std.specs.FinMap as map
use Rattle.mlt_manager.proofs.Names.{room_within_total, Refusal, WalkContext, context_by, Images, At, Transaction, IsPending, TellsAt, images_kept, pending_room, room_of, may_step, Answer, SharedState, Table, AnswersStep, HasStepped, IsBusy, IsOpenAt, active_after, txs_after, IsManager, ManagerFields, state_of}
use Rattle.mlt_page_subtx.specs.Images.{AreThere}
use Rattle.mlt_tx.specs.{Transactions.MayStepIn, OpenAt.MayStepIfBusy, OpenAt.TriesStep, Tables.StepsOne}
use Rattle.std.specs.FinSet as set

not_idle : (a : At) → IsBusy a → a ≢ At.Idle
not_idle a busy is = subst IsBusy is busy

-- one that is not idle may take a step
pub may_step_one : {P : Type 0} (bits_of : P → ℕ → ℕ) (m : ManagerFields P) (tx : ℕ) → IsManager bits_of m → MayStepIfBusy (context_by bits_of m.root m.active) tx m.txs m.shared
may_step_one bits_of m tx h one there busy =
    subst (λ (n : ℕ). MayStepIn (context_by bits_of m.root m.active n) one m.shared) (sym (h.sound.fits tx one there).number)
    (may_step (state_of bits_of m h.images h.base) tx one h.sound there (not_idle one.at busy))

pub may_step_here : {P : Type 0} (bits_of : P → ℕ → ℕ) (m : ManagerFields P) (tx : ℕ) → IsManager bits_of m → IsOpenAt m.txs tx IsBusy
    → (one : Transaction) × (map.get m.txs tx ≡ Some one) × MayStepIn (context_by bits_of m.root m.active one.subtx.tx) one m.shared
may_step_here bits_of m tx h busy = (busy.one, busy.there, may_step_one bits_of m tx h busy.one busy.there busy.is_at)

two_for : (a : At) → IsPending a → pending_room a ≡ 2
two_for At.Idle none = absurd none
two_for (At.Pending o) is = refl
two_for (At.Undoing inverting) none = absurd none

-- the pending operation of one may be dropped
pub may_cancel : {P : Type 0} (bits_of : P → ℕ → ℕ) (m : ManagerFields P) (tx : ℕ) → IsManager bits_of m → IsOpenAt m.txs tx IsPending
    → (one : Transaction) × (map.get m.txs tx ≡ Some one) × IsPending one.at × AreThere one.subtx.images m.shared.pages.store.pages × (2 ≤ m.shared.history.room)
may_cancel bits_of m tx h pending =
    let own : map.get h.images tx ≡ Some pending.one.subtx.images = h.sound.kept tx ∙ ap images_kept pending.there in
    let within = room_within_total room_of m.txs tx pending.one pending.there in
    let two = two_for pending.one.at pending.is_at in (
      pending.one,
      pending.there,
      pending.is_at,
      subst (λ (i : Images). AreThere i m.shared.pages.store.pages) (ap (λ (o : Option Images). unwrap_or o map.empty) own) (λ q is. h.sound.running.images_there tx q is),
      omega (arith, within, two, h.sound.room),
    )

busy_by : (a : At) (context : WalkContext) (t u : Transaction) (old new : SharedState) (told : Answer) → TellsAt a context t u old new told → IsBusy a
busy_by At.Idle context t u old new told none = absurd none
busy_by (At.Pending o) context t u old new told tells = tt
busy_by (At.Undoing inverting) context t u old new told tells = tt

-- whoever is not told `Aborted` stays open
pub stays : (told : Answer) (tx : ℕ) (txs : Table) → (told ≡ Answer.Aborted → ⊥) → txs ≡ txs_after told tx txs
stays Answer.Aborted tx txs not = absurd (not refl)
stays other tx txs not = refl

pub stays_open : (told : Answer) (tx : ℕ) (active : set.FinSet nat_cmp) → (told ≡ Answer.Aborted → ⊥) → active ≡ active_after told tx active
stays_open Answer.Aborted tx active not = absurd (not refl)
stays_open other tx active not = refl

-- a step in the table of open transactions is one of the manager
module _ {P : Type 0} (bits_of : P → ℕ → ℕ) (m : ManagerFields P) (tx : ℕ) (shared : SharedState) (txs : Table) where
  pub stepped : (txs' : Table) (active' : set.FinSet nat_cmp) (told : Answer) → StepsOne (context_by bits_of m.root m.active) tx m.txs txs m.shared shared told
      → txs' ≡ txs_after told tx txs → active' ≡ active_after told tx m.active → HasStepped bits_of m (record m { shared = shared; txs = txs'; active = active' }) tx told
  stepped txs' active' told steps left left_open =
      let before = steps.changes.before in
      record {
        busy = record {
          one = before;
          there = steps.changes.was;
          is_at = busy_by before.at (context_by bits_of m.root m.active before.subtx.tx) before steps.changes.after m.shared shared told steps.tells;
        };
        txs = txs;
        steps = steps;
        rest = λ i. record m { shared = shared; txs = left i; active = left_open i };
      }

-- what a try to step answers is what the manager does
pub step_answers : {P : Type 0} (bits_of : P → ℕ → ℕ) (m m' : ManagerFields P) (tx : ℕ) (shared : SharedState) (txs : Table) (reason : Refusal) → m' ≡ record m { shared = shared; txs = txs }
    → TriesStep (context_by bits_of m.root m.active) tx m.txs txs m.shared shared (Err reason) → AnswersStep bits_of m m' tx (Err reason)
step_answers bits_of m m' tx shared txs reason is tried = (tried.0, is ∙ (λ i. record m { shared = tried.2 i; txs = tried.1 i }))
