-- What an event that meets its contract leaves of a transaction of which nothing is asked
use Rattle.std.proofs.Common.{◌≡◌, ◌≢◌, ℕ, List, [], ◌∷◌, true, false, Some, is_some, Err, refl, ap, ◌∙◌, arith}
use Rattle.std.specs.FinMap as map
use Rattle.mlt_types.specs.declared.refusal.Refusal.{Refusal}
use Rattle.mlt_manager_laws.proofs.Names.{ObjOp, Answer, Event, Told, At, Transaction, Table, inserted_elsewhere, removed_elsewhere, Meets, IsManager, ManagerFields, state_of, one_there}
use Rattle.mlt_tx.specs.{Transactions.IsPending, Tables.CancelsOne, Tables.ChangesOne}
use Rattle.mlt_manager_invariant.proofs.Calls.{cancelled_sound}
use Rattle.mlt_manager.{specs.Answers.AnswersCall, specs.Answers.ChangesOpen, specs.Answers.HasCalled, specs.Answers.IsOpenAt, specs.Chains.StepsBy, specs.Chains.StepsUpTo, specs.Undoings.GoesOnBack, specs.Undoings.StopsBack, specs.Wholes.DropsIfItStands, specs.Wholes.HasRun, specs.Wholes.LetsGoOn, specs.Wholes.Stops, proofs.Called.called_keeps, proofs.Called.pending_of, proofs.Chains.steps_keep, proofs.Stepped.step_keeps}
use Rattle.mlt_manager_laws.{specs.Runs.IsStepOrAnothers, proofs.Seen.StaysAs, proofs.Seen.changed_stays, proofs.Seen.clean_sees, proofs.Seen.quiet_stays, proofs.Seen.step_leaves}

-- the same manager
pub same_stays : {P : Type 0} (m m' : ManagerFields P) (u : ℕ) (t : Transaction) → m' ≡ m → map.get m.txs u ≡ Some t → StaysAs m m' u t
same_stays m m' u t same there =
    quiet_stays m m' u t (ap (λ (n : ManagerFields _). map.get n.txs u) same ∙ there) (ap (λ (n : ManagerFields _). n.shared.pages) same) (ap (λ (n : ManagerFields _). n.root) same)

both_stay : {P : Type 0} (a b c : ManagerFields P) (u : ℕ) (t : Transaction) → StaysAs a b u t → StaysAs b c u t → StaysAs a c u t
both_stay a b c u t one two = record { there = two.there; sees = two.sees ∙ one.sees; root = two.root ∙ one.root }

module _ {P : Type 0} (bits_of : P → ℕ → ℕ) (i u : ℕ) (t : Transaction) (ne : u ≢ i) where
  module _ (m m' : ManagerFields P) (h : IsManager bits_of m) (there : map.get m.txs u ≡ Some t) where
    changed : ChangesOne i m.txs m'.txs → m'.shared.pages ≡ m.shared.pages → m'.root ≡ m.root → StaysAs m m' u t
    changed c pages root = quiet_stays m m' u t (changed_stays bits_of m h i u t ne there m'.txs c.after c.is) pages root

    ended : m'.txs ≡ map.remove m.txs i → m'.shared.pages ≡ m.shared.pages → m'.root ≡ m.root → StaysAs m m' u t
    ended gone pages root = quiet_stays m m' u t (ap (λ (x : Table). map.get x u) gone ∙ removed_elsewhere m.txs i u ne ∙ there) pages root

    called : (op : ObjOp) → HasCalled m m' i op → StaysAs m m' u t
    called op c = changed c.calls.changes c.calls.tells.makes.pages (ap (λ (n : ManagerFields P). n.root) c.rest)

    cancelled : IsOpenAt m.txs i IsPending → CancelsOne i m.txs m'.txs m.shared m'.shared → ChangesOpen m m' → StaysAs m m' u t
    cancelled open_here c rest =
        let ch = c.changes in
        let o = pending_of open_here.one.at open_here.is_at in
        let was_at : ch.before.at ≡ At.Pending o.0 = ap (λ (x : Transaction). x.at) (one_there m.txs i ch.before open_here.one ch.was open_here.there) ∙ o.1 in
        record {
          there = changed_stays bits_of m h i u t ne there m'.txs ch.after ch.is;
          sees = clean_sees bits_of m h i u t ne there ch.before ch.after m'.shared (cancelled_sound (state_of bits_of m h.images h.base) i o.0 ch.before ch.after m'.shared h.sound ch.was was_at c.tells);
          root = ap (λ (n : ManagerFields P). n.root) rest;
        }

    dropped : (told : Answer) → DropsIfItStands told m m' i → StaysAs m m' u t
    dropped (Answer.Waiting page by) d = cancelled d.pending d.cancels d.rest
    dropped (Answer.Blocked by) d = cancelled d.pending d.cancels d.rest
    dropped other same = same_stays m m' u t same there

    not_called : (op : ObjOp) (reason : Refusal) → AnswersCall m m' i op (Err reason) → StaysAs m m' u t
    not_called op Refusal.OutOfMemory a = changed a.1.changes a.1.tells.makes.pages (ap (λ (n : ManagerFields P). n.root) a.2)
    not_called op reason a = same_stays m m' u t a.1 there

  chain : (LetsGoOn : Answer → Type 0) (old last : ManagerFields P) (steps : List (ManagerFields P × Answer)) → IsManager bits_of old → map.get old.txs u ≡ Some t
      → StepsBy bits_of LetsGoOn old steps last i → StaysAs old last u t
  chain LetsGoOn old last [] h there same = same_stays old last u t same there
  chain LetsGoOn old last (one ∷ more) h there (first, on, rest) =
      let stays = step_leaves bits_of old h i u t ne there one.0 one.1 first in
      both_stay old one.0 last u t stays (chain LetsGoOn one.0 last more (step_keeps bits_of old h i one.0 one.1 first).0 stays.there rest)

  up_to : (LetsGoOn Stops : Answer → Type 0) (old new : ManagerFields P) (told : Answer) → IsManager bits_of old → map.get old.txs u ≡ Some t
      → StepsUpTo bits_of LetsGoOn Stops old new i told → StaysAs old new u t
  up_to LetsGoOn Stops old new told h there s =
      let stays = chain LetsGoOn old s.before s.steps h there s.goes in
      both_stay old s.before new u t stays (step_leaves bits_of s.before (steps_keep bits_of LetsGoOn i old s.before s.steps h s.goes) i u t ne stays.there new told s.ends)

  run : (m m' : ManagerFields P) (h : IsManager bits_of m) (there : map.get m.txs u ≡ Some t) (op : ObjOp) (answer : Answer) → HasRun bits_of m m' i op answer → StaysAs m m' u t
  run m m' h there op answer a =
      let steps = a.runs.steps in
      let first = called m a.called h there op a.calls in
      let h' = called_keeps bits_of m h i a.called a.calls.rest op a.calls in
      let second = up_to LetsGoOn Stops a.called a.runs.stopped answer h' first.there steps in
      let h'' = (step_keeps bits_of steps.before (steps_keep bits_of LetsGoOn i a.called steps.before steps.steps h' steps.goes) i a.runs.stopped answer steps.ends).0 in
      both_stay m a.called m' u t first (both_stay a.called a.runs.stopped m' u t second (dropped a.runs.stopped m' h'' second.there answer a.runs.drops))

-- **An event leaves a transaction of which it asks nothing.**
module _ {P : Type 0} (bits_of : P → ℕ → ℕ) (u : ℕ) (t : Transaction) (m m' : ManagerFields P) (h : IsManager bits_of m) (there : map.get m.txs u ≡ Some t) where
  pub event_leaves : (e : Event) (told : Told) → IsStepOrAnothers u e → ((i : ℕ) → e ≡ Event.Step i → u ≢ i) → Meets bits_of e told m m' → StaysAs m m' u t
  event_leaves Event.Begin (Told.Begun tx) ne own a =
      let low = h.sound.match.file.ghosts.opened u (h.sound.opened u ∙ ap is_some there) in
      let new : u ≢ tx = λ same. omega (arith, low, same, a.number) in
      quiet_stays m m' u t (ap (λ (n : ManagerFields P). map.get n.txs u) a.rest ∙ inserted_elsewhere m.txs tx a.one u new ∙ there) a.pages (ap (λ (n : ManagerFields P). n.root) a.rest)
  event_leaves (Event.Call i op) Told.Called ne own a = called bits_of i u t ne m m' h there op a
  event_leaves (Event.Call i op) (Told.Refused reason) ne own a = not_called bits_of i u t ne m m' h there op reason a
  event_leaves (Event.Step i) (Told.Answered answer) ne own a = step_leaves bits_of m h i u t (own i refl) there m' answer a.0
  event_leaves (Event.Cancel i) Told.Cancelled ne own a = cancelled bits_of i u t ne m m' h there a.0.0 a.0.1 a.0.2
  event_leaves (Event.Commit i) (Told.Committed number) ne own a = ended bits_of i u t ne m m' h there a.ends.txs a.ends.pages (ap (λ (n : ManagerFields P). n.root) a.rest)
  event_leaves (Event.Abort i) (Told.Aborting true) ne own a = ended bits_of i u t ne m m' h there a.ends.txs a.ends.pages (ap (λ (n : ManagerFields P). n.root) a.rest)
  event_leaves (Event.Abort i) (Told.Aborting false) ne own a =
      changed bits_of i u t ne m m' h there a.puts.changes (ap (λ (n : ManagerFields P). n.shared.pages) a.rest) (ap (λ (n : ManagerFields P). n.root) a.rest)
  event_leaves (Event.Whole i op) (Told.Answered answer) ne own a = run bits_of i u t ne m m' h there op answer a.0
  event_leaves (Event.Whole i op) (Told.Refused reason) ne own a = not_called bits_of i u t ne m m' h there op reason a
  event_leaves (Event.WholeUndo i) (Told.Answered answer) ne own a = up_to bits_of i u t ne GoesOnBack StopsBack m m' answer h there a.0.1
  event_leaves e (Told.Refused reason) ne own a = same_stays m m' u t a.1 there
  event_leaves e told ne own none = absurd none
