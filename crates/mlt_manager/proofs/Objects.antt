-- A step of a base, in other words
use Rattle.mlt_manager.proofs.Names.{Base, Step, ObjOp, ObjReply, UndoneTo}
use Rattle.std.proofs.Common.{◌≡◌, ℕ, suc, ◌+◌, ◌-◌, ◌<◌, ◌≤◌, ◌^◌, Bool, true, false, List, [], ◌∷◌, Option, None, Some, is_some, unwrap_or, refl, sym, ap, subst, ◌∙◌, arith, eqb, leb, if◌then◌else◌, le-leb, leb-true, leb-false, eq-eqb, ne_eqb, eqb-true, false-eqb}
use Rattle.std.proofs.lemmas.Bool.{lt-leb}
use Rattle.std.specs.FinMap as map
use Rattle.mlt_types.specs.Maps.{with_entry}
use Rattle.mlt_order.specs.{Interleavings.all_items, Runs.IsSerialBase, Runs.Runs}
use Rattle.mlt_object_kinds.{proofs.BaseLaws.step_is, proofs.BaseLaws.step_to, specs.Accounts.AccountStep, specs.Accounts.IsLegalOnAccount, specs.Accounts.account_after, specs.Accounts.max_balance, specs.Bases.counter_entry, specs.Bases.counter_value, specs.Bases.element_entry, specs.Cells.CellState.AccountState, specs.Cells.CellState.CounterState, specs.Cells.CellState.ElementState, specs.Cells.CellState.NoState, specs.Cells.TellsNumber, specs.Counters.CounterStep, specs.Counters.IsLegalOnCounter, specs.Counters.counter_after, specs.Elements.ElementStep, specs.Elements.IsLegalOnElement, specs.Elements.element_after, specs.Packing.amount_of}
use Rattle.mlt_object_kinds.specs.declared.{account.AccountOp.AccountOp, element.ElementOp.ElementOp, counter.CounterOp.CounterOp}
use Rattle.mlt_object_kinds.specs.declared.{account.AccountOp.TheVariants.Open, account.AccountOp.TheVariants.Close, account.AccountOp.TheVariants.Deposit, account.AccountOp.TheVariants.Withdraw, account.AccountOp.TheVariants.Balance}
use Rattle.mlt_object_kinds.specs.declared.{element.ElementOp.TheVariants.Add, element.ElementOp.TheVariants.Remove, element.ElementOp.TheVariants.Has, counter.CounterOp.TheVariants.Up, counter.CounterOp.TheVariants.Down, counter.CounterOp.TheVariants.Read}
use Rattle.mlt_object_kinds.specs.declared.operation.ObjReply.TheVariants.{Opened, Exists, Closed, NotEmpty, Done, Over, Short, Missing, Added, Present, Removed, Absent, Yes, No, Is}
use Rattle.mlt_manager.specs.Objects.{Does, account, counter, element}

-- ## What an operation is told, and what it leaves

-- a balance in its bounds, and an amount in its
abbrev AccountTold : AccountOp → ObjReply → Option ℕ → Type 0
AccountTold op reply s =
    (amount_of (ObjOp.Account 0 op) < 2 ^ 64) × (unwrap_or s 0 ≤ max_balance) × (account op s ≡ (reply, account_after op reply s))

account_told : (op : AccountOp) (reply : ObjReply) (s : Option ℕ) → IsLegalOnAccount op reply s → AccountTold op reply s
account_told Open Opened None h = (omega arith, omega arith, refl)
account_told Open Exists (Some b) h = (omega arith, h, refl)
account_told Close Closed (Some b) h = (omega arith, omega (arith, h), rw (eq-eqb b 0 h) refl)
account_told Close NotEmpty (Some b) h = (omega arith, h.1, rw (ne_eqb b 0 (λ e. omega (arith, h, e))) refl)
account_told (Deposit n) Done (Some b) h = (h.0, omega (arith, h.1), rw (le-leb (b + n) max_balance h.1) refl)
account_told (Deposit n) Over (Some b) h = (h.0, h.1, rw (lt-leb (b + n) max_balance h.2) refl)
account_told (Withdraw n) Done (Some b) h = (h.0, h.1, rw (le-leb n b h.2) refl)
account_told (Withdraw n) Short (Some b) h = (h.0, h.1, rw (lt-leb n b h.2) refl)
account_told Balance (Is v) (Some b) h = (omega arith, h.0, ap (λ r. (Is r, Some b)) h.1)
account_told Close Missing None h = (omega arith, omega arith, refl)
account_told (Deposit n) Missing None h = (h, omega arith, refl)
account_told (Withdraw n) Missing None h = (h, omega arith, refl)
account_told Balance Missing None h = (omega arith, omega arith, refl)
account_told _ _ _ h = absurd h

element_told : (op : ElementOp) (reply : ObjReply) (s : Bool) → IsLegalOnElement op reply s → element op s ≡ (reply, element_after op reply s)
element_told Add Added false h = refl
element_told Add Present true h = refl
element_told Remove Removed true h = refl
element_told Remove Absent false h = refl
element_told Has Yes true h = refl
element_told Has No false h = refl
element_told _ _ _ h = absurd h

abbrev CounterTold : CounterOp → ObjReply → ℕ → Type 0
CounterTold op reply s =
    (amount_of (ObjOp.Counter 0 op) < 2 ^ 64) × (s < 2 ^ 64) × (counter op s ≡ (reply, counter_after op reply s))

counter_told : (op : CounterOp) (reply : ObjReply) (s : ℕ) → IsLegalOnCounter op reply s → CounterTold op reply s
counter_told (Up n) Done s h = (h.0, h.1, refl)
counter_told (Down n) Done s h = (h.0, h.1, refl)
counter_told Read (Is v) s h = (omega arith, h.0, ap (λ r. (Is r, s)) h.1)
counter_told _ _ _ h = absurd h

-- an amount does not rest on the number of the account or of the counter
account_amount : (a : ℕ) (op : AccountOp) → amount_of (ObjOp.Account 0 op) ≡ amount_of (ObjOp.Account a op)
account_amount a Open = refl
account_amount a Close = refl
account_amount a (Deposit n) = refl
account_amount a (Withdraw n) = refl
account_amount a Balance = refl

counter_amount : (c : ℕ) (op : CounterOp) → amount_of (ObjOp.Counter 0 op) ≡ amount_of (ObjOp.Counter c op)
counter_amount c (Up n) = refl
counter_amount c (Down n) = refl
counter_amount c Read = refl

-- ## What is kept

kept_element : (kept : Option (Unit {0})) → element_entry (is_some kept) ≡ kept
kept_element None = refl
kept_element (Some _) = refl

kept_counter : (kept : Option ℕ) → counter_entry (counter_value kept) ≡ kept
kept_counter None = refl
kept_counter (Some v) = let e : v + 1 ≡ suc v = omega arith in ap counter_entry e

-- **A step of a base is what its operation does.**
pub step_does : (b d : Base) (x : ObjOp × ObjReply) → Step b x d → Does b x d
step_does b d (ObjOp.Account a op, reply) h =
    let told = account_told op reply (map.get b.accounts a) h.0.0 in (
      subst (λ n. n < 2 ^ 64) (account_amount a op) told.0,
      told.1,
      map.get d.accounts a,
      told.2 ∙ ap (λ t. (reply, t)) h.0.1,
      step_is b d (ObjOp.Account a op, reply) h,
    )
step_does b d (ObjOp.Element s e op, reply) h = (
  map.get d.elements (s, e),
  element_told op reply (is_some (map.get b.elements (s, e))) h.0.0 ∙ ap (λ t. (reply, t)) h.0.1,
  step_is b d (ObjOp.Element s e op, reply) h
      ∙ ap (λ kept. record b { elements = with_entry b.elements (s, e) kept }) (kept_element (map.get d.elements (s, e))),
)
step_does b d (ObjOp.Counter c op, reply) h =
    let told = counter_told op reply (counter_value (map.get b.counters c)) h.0.0 in (
      subst (λ n. n < 2 ^ 64) (counter_amount c op) told.0,
      told.1,
      map.get d.counters c,
      told.2 ∙ ap (λ t. (reply, t)) h.0.1,
      step_is b d (ObjOp.Counter c op, reply) h
          ∙ ap (λ kept. record b { counters = with_entry b.counters c kept }) (kept_counter (map.get d.counters c)),
    )
step_does b d (ObjOp.Size s, reply) h = (h.2, step_is b d (ObjOp.Size s, reply) h)

-- ## The other way round

-- an account gets this reply, and has this balance then
abbrev Gets : AccountOp → Option ℕ → ObjReply × Option ℕ → Type 0
Gets op s told = AccountStep s op told.0 told.1

account_does : (op : AccountOp) (s : Option ℕ) → amount_of (ObjOp.Account 0 op) < 2 ^ 64 → unwrap_or s 0 ≤ max_balance
    → Gets op s (account op s)
account_does Open None f h = (tt, refl)
account_does Open (Some b) f h = (h, refl)
account_does Close None f h = (tt, refl)
account_does Close (Some b) f h =
    elim (eqb b 0) as (λ c. eqb b 0 ≡ c → Gets Close (Some b) (if c then (Closed, None) else (NotEmpty, Some b))) [
      | true ↦ λ e. (eqb-true b 0 e, refl)
      | false ↦ λ e. let n = false-eqb b 0 (sym e) in ((omega (arith, n), h), refl)
    ] refl
account_does (Deposit n) None f h = (f, refl)
account_does (Deposit n) (Some b) f h =
    elim (leb (b + n) max_balance) as (λ c. leb (b + n) max_balance ≡ c → Gets (Deposit n) (Some b) (if c then (Done, Some (b + n)) else (Over, Some b))) [
      | true ↦ λ e. ((f, leb-true (b + n) max_balance e), refl)
      | false ↦ λ e. ((f, h, leb-false (b + n) max_balance e), refl)
    ] refl
account_does (Withdraw n) None f h = (f, refl)
account_does (Withdraw n) (Some b) f h =
    elim (leb n b) as (λ c. leb n b ≡ c → Gets (Withdraw n) (Some b) (if c then (Done, Some (b - n)) else (Short, Some b))) [
      | true ↦ λ e. ((f, h, leb-true n b e), refl)
      | false ↦ λ e. ((f, h, leb-false n b e), refl)
    ] refl
account_does Balance None f h = (tt, refl)
account_does Balance (Some b) f h = ((h, refl), refl)

element_does : (op : ElementOp) (s : Bool) → ElementStep s op (element op s).0 (element op s).1
element_does Add true = (tt, refl)
element_does Add false = (tt, refl)
element_does Remove true = (tt, refl)
element_does Remove false = (tt, refl)
element_does Has true = (tt, refl)
element_does Has false = (tt, refl)

counter_does : (op : CounterOp) (s : ℕ) → amount_of (ObjOp.Counter 0 op) < 2 ^ 64 → s < 2 ^ 64 → CounterStep s op (counter op s).0 (counter op s).1
counter_does (Up n) s f h = ((f, h), refl)
counter_does (Down n) s f h = ((f, h), refl)
counter_does Read s f h = ((h, refl), refl)

-- **What an operation does is a step of the base.**
pub does_step : (b d : Base) (x : ObjOp × ObjReply) → Does b x d → Step b x d
does_step b d (ObjOp.Account a op, reply) (fits, bound, kept, told, is) =
    let step = account_does op (map.get b.accounts a) (subst (λ n. n < 2 ^ 64) (sym (account_amount a op)) fits) bound in
    subst (Step b (ObjOp.Account a op, reply)) (sym is)
    (step_to b (ObjOp.Account a op, reply) (AccountState kept) (subst (Gets op (map.get b.accounts a)) told step) tt)
does_step b d (ObjOp.Element s e op, reply) (kept, told, is) =
    let step = element_does op (is_some (map.get b.elements (s, e))) in
    subst (Step b (ObjOp.Element s e op, reply))
    (ap (λ k. record b { elements = with_entry b.elements (s, e) k }) (kept_element kept) ∙ sym is)
    (step_to b (ObjOp.Element s e op, reply) (ElementState (is_some kept)) (subst (λ r. ElementStep (is_some (map.get b.elements (s, e))) op r.0 r.1) told step) tt)
does_step b d (ObjOp.Counter c op, reply) (fits, bound, kept, told, is) =
    let value = counter_value (map.get b.counters c) in
    let step = counter_does op value (subst (λ n. n < 2 ^ 64) (sym (counter_amount c op)) fits) bound in
    subst (Step b (ObjOp.Counter c op, reply))
    (ap (λ k. record b { counters = with_entry b.counters c k }) (kept_counter kept) ∙ sym is)
    (step_to b (ObjOp.Counter c op, reply) (CounterState (counter_value kept)) (subst (λ r. CounterStep value op r.0 r.1) told step) tt)
does_step b d (ObjOp.Size s, reply) (told, is) =
    subst (Step b (ObjOp.Size s, reply)) (sym is) (step_to b (ObjOp.Size s, reply) NoState (subst TellsNumber (sym told) tt) told)

-- ## Runs

runs_do : (items : List (ObjOp × ObjReply)) (b d : Base) → Runs Step b items d → Runs Does b items d
runs_do [] b d r = r
runs_do (x ∷ items) b d r = (r.0, step_does b r.0 x r.1, runs_do items r.0 d r.2)

pub serial_does : (transcripts : List (List (ObjOp × ObjReply))) (b d : Base) → IsSerialBase Step b transcripts d → IsSerialBase Does b transcripts d
serial_does [] b d r = r
serial_does (t ∷ transcripts) b d r = (r.0, runs_do t b r.0 r.1, serial_does transcripts r.0 d r.2)

pub undone_does : (b d : Base) (ops : ℕ → List (ObjOp × ObjReply)) → UndoneTo Step b ops d → UndoneTo Does b ops d
undone_does b d ops undone mixed is = runs_do (all_items mixed) b d (undone mixed is)
