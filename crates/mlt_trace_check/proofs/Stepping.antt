-- Whether an operation with its reply is a step of a base, and whether a list of them runs.
use Rattle.std.proofs.Common.{◌≡◌, ◌⊎◌, inl, inr, ℕ, ◌+◌, ◌≤◌, ◌<◌, ◌^◌, Bool, true, false, List, [], ◌∷◌, ◌++◌, Option, Some, None, refl, ap, arith}
use Rattle.mlt_trace_check.proofs.Names.{cases_eq, ObjOp, ObjReply, Base, Step, Runs, IsFalseAt}
use Rattle.std.proofs.lemmas.Bool.{cases_lt}
use Rattle.mlt_object_kinds.{specs.declared.account.AccountOp.AccountOp, specs.declared.counter.CounterOp.CounterOp, specs.declared.counter.CounterOp.TheVariants.Up, specs.declared.counter.CounterOp.TheVariants.Down, specs.declared.counter.CounterOp.TheVariants.Read, specs.declared.element.ElementOp.ElementOp, specs.declared.element.ElementOp.TheVariants.Add, specs.declared.element.ElementOp.TheVariants.Remove, specs.declared.element.ElementOp.TheVariants.Has, specs.Bases.TellsSize, specs.Bases.size_at, specs.Bases.state_at, specs.Bases.with_state, proofs.BaseLaws.step_to, specs.Cells.CellState, specs.Cells.CellStep, specs.Cells.CellState.AccountState, specs.Cells.CellState.ElementState, specs.Cells.CellState.CounterState, specs.Cells.CellState.NoState, specs.Operations.cell_of}
use Rattle.mlt_object_kinds.specs.declared.account.AccountOp.TheVariants.{Open, Close, Deposit, Withdraw, Balance}
use Rattle.mlt_object_kinds.specs.declared.operation.ObjReply.TheVariants.{Opened, Exists, Closed, NotEmpty, Done, Over, Short, Missing, Added, Present, Removed, Absent, Yes, No, Is}
use Rattle.mlt_object_kinds.specs.Accounts as account
use Rattle.mlt_object_kinds.specs.Counters as counter
use Rattle.mlt_object_kinds.specs.Elements as element

-- the fact holds or it does not
abbrev pub Decided : Type 0 → Type 0
Decided P = P ⊎ (P → ⊥)

pub both : {P Q : Type 0} → Decided P → Decided Q → Decided (P × Q)
both (inl p) (inl q) = inl (p, q)
both (inl p) (inr n) = inr (λ h. n h.1)
both (inr n) q = inr (λ h. n h.0)

pub all_three : {P Q R : Type 0} → Decided P → Decided Q → Decided R → Decided (P × Q × R)
all_three (inl p) (inl q) (inl r) = inl (p, q, r)
all_three (inl p) (inl q) (inr n) = inr (λ h. n h.2)
all_three (inl p) (inr n) r = inr (λ h. n h.1)
all_three (inr n) q r = inr (λ h. n h.0)

at_most : (m n : ℕ) → Decided (m ≤ n)
at_most m n = elim (cases_lt n m) [ inl over ↦ inr (λ fits. absurd (omega (arith, over, fits))) | inr fits ↦ inl fits ]

pub below : (m n : ℕ) → Decided (m < n)
below m n = elim (cases_lt m n) [ inl under ↦ inl under | inr over ↦ inr (λ under. absurd (omega (arith, over, under))) ]

account_legal : (o : AccountOp) (r : ObjReply) (s : Option ℕ) → Decided (account.IsLegalOnAccount o r s)
account_legal Open Opened None = inl tt
account_legal Open Exists (Some b) = at_most b account.max_balance
account_legal Close Closed (Some b) = cases_eq b 0
account_legal Close NotEmpty (Some b) = both (at_most 1 b) (at_most b account.max_balance)
account_legal (Deposit n) Done (Some b) = both (below n (2 ^ 64)) (at_most (b + n) account.max_balance)
account_legal (Deposit n) Over (Some b) = all_three (below n (2 ^ 64)) (at_most b account.max_balance) (below account.max_balance (b + n))
account_legal (Withdraw n) Done (Some b) = all_three (below n (2 ^ 64)) (at_most b account.max_balance) (at_most n b)
account_legal (Withdraw n) Short (Some b) = all_three (below n (2 ^ 64)) (at_most b account.max_balance) (below b n)
account_legal Balance (Is v) (Some b) = both (at_most b account.max_balance) (cases_eq b v)
account_legal Close Missing None = inl tt
account_legal (Deposit n) Missing None = below n (2 ^ 64)
account_legal (Withdraw n) Missing None = below n (2 ^ 64)
account_legal Balance Missing None = inl tt
account_legal _ _ _ = inr (λ h. h)

element_legal : (o : ElementOp) (r : ObjReply) (s : Bool) → Decided (element.IsLegalOnElement o r s)
element_legal Add Added false = inl tt
element_legal Add Present true = inl tt
element_legal Remove Removed true = inl tt
element_legal Remove Absent false = inl tt
element_legal Has Yes true = inl tt
element_legal Has No false = inl tt
element_legal _ _ _ = inr (λ h. h)

counter_legal : (o : CounterOp) (r : ObjReply) (s : ℕ) → Decided (counter.IsLegalOnCounter o r s)
counter_legal (Up n) Done s = both (below n (2 ^ 64)) (below s (2 ^ 64))
counter_legal (Down n) Done s = both (below n (2 ^ 64)) (below s (2 ^ 64))
counter_legal Read (Is v) s = both (below s (2 ^ 64)) (cases_eq s v)
counter_legal _ _ s = inr (λ h. h)

-- the operation with its reply leads the cell somewhere, or nowhere
abbrev CellStepsOrNot : CellState → ObjOp × ObjReply → Type 0
CellStepsOrNot s x = ((t : CellState) × CellStep s x t) ⊎ ((t : CellState) → CellStep s x t → ⊥)

no_account_step : (s : Option ℕ) (a : ℕ) (o : AccountOp) (r : ObjReply) → (account.IsLegalOnAccount o r s → ⊥) → (t : CellState) → CellStep (AccountState s) (ObjOp.Account a o, r) t → ⊥
no_account_step s a o r n (AccountState t) h = n h.0
no_account_step s a o r n _ h = h

no_element_step : (s : Bool) (set e : ℕ) (o : ElementOp) (r : ObjReply) → (element.IsLegalOnElement o r s → ⊥) → (t : CellState) → CellStep (ElementState s) (ObjOp.Element set e o, r) t → ⊥
no_element_step s set e o r n (ElementState t) h = n h.0
no_element_step s set e o r n _ h = h

no_counter_step : (s c : ℕ) (o : CounterOp) (r : ObjReply) → (counter.IsLegalOnCounter o r s → ⊥) → (t : CellState) → CellStep (CounterState s) (ObjOp.Counter c o, r) t → ⊥
no_counter_step s c o r n (CounterState t) h = n h.0
no_counter_step s c o r n _ h = h

-- a size is told as a number
abbrev IsNumber : ObjReply → Type 0
IsNumber (Is v) = Unit {0}
IsNumber _ = ⊥

size_is_number : (set : ℕ) (r : ObjReply) (t : CellState) → CellStep NoState (ObjOp.Size set, r) t → IsNumber r
size_is_number set (Is v) NoState h = tt
size_is_number set _ NoState h = h
size_is_number set _ _ h = absurd h

size_legal : (set : ℕ) (r : ObjReply) → CellStepsOrNot NoState (ObjOp.Size set, r)
size_legal set (Is v) = inl (NoState, tt)
size_legal set r = inr (λ t h. size_is_number set r t h)

cell_steps_or_not : (s : CellState) (x : ObjOp × ObjReply) → CellStepsOrNot s x
cell_steps_or_not (AccountState s) (ObjOp.Account a o, r) =
    elim (account_legal o r s) [ inl h ↦ inl (AccountState (account.account_after o r s), (h, refl)) | inr n ↦ inr (no_account_step s a o r n) ]
cell_steps_or_not (ElementState s) (ObjOp.Element set e o, r) =
    elim (element_legal o r s) [ inl h ↦ inl (ElementState (element.element_after o r s), (h, refl)) | inr n ↦ inr (no_element_step s set e o r n) ]
cell_steps_or_not (CounterState s) (ObjOp.Counter c o, r) =
    elim (counter_legal o r s) [ inl h ↦ inl (CounterState (counter.counter_after o r s), (h, refl)) | inr n ↦ inr (no_counter_step s c o r n) ]
cell_steps_or_not NoState (ObjOp.Size set, r) = size_legal set r
cell_steps_or_not _ _ = inr (λ t h. h)

-- a size is told as it is, or not
same_number : (m n : ℕ) → Is m ≡ Is n → m ≡ n
same_number m n e = cc

tells_or_not : (b : Base) (x : ObjOp × ObjReply) → Decided (TellsSize b x)
tells_or_not b (ObjOp.Size set, Is v) = elim (cases_eq v (size_at b set)) [ inl e ↦ inl (ap Is e) | inr n ↦ inr (λ h. n (same_number v (size_at b set) h)) ]
tells_or_not b (ObjOp.Size set, r) = inr (λ h. cc)
tells_or_not b (ObjOp.Account a o, r) = inl tt
tells_or_not b (ObjOp.Element set e o, r) = inl tt
tells_or_not b (ObjOp.Counter c o, r) = inl tt

-- the operation with its reply leads the base somewhere, or nowhere
steps_or_not : (b : Base) (x : ObjOp × ObjReply) → ((next : Base) × Step b x next) ⊎ IsFalseAt b x
steps_or_not b x = elim (cell_steps_or_not (state_at b (cell_of x.0)) x) [
  | inl h ↦ elim (tells_or_not b x) [
    | inl told ↦ inl (with_state b (cell_of x.0) h.0, step_to b x h.0 h.1 told)
    | inr not ↦ inr (λ next step. not step.2)
  ]
  | inr n ↦ inr (λ next step. n (state_at next (cell_of x.0)) step.0)
]

-- one of the operations is the first that leads nowhere
pub record IsFalseIn (base : Base) (ops : List (ObjOp × ObjReply)) : Type 0 where
  pub front : List (ObjOp × ObjReply)
  pub done : ObjOp × ObjReply
  pub rest : List (ObjOp × ObjReply)
  pub middle : Base
  pub cut : ops ≡ front ++ done ∷ rest
  pub runs : Runs Step base front middle
  pub never : IsFalseAt middle done

false_later : (base next : Base) (x : ObjOp × ObjReply) (ops : List (ObjOp × ObjReply)) → Step base x next → IsFalseIn next ops → IsFalseIn base (x ∷ ops)
false_later base next x ops step h = record {
  front = x ∷ h.front;
  done = h.done;
  rest = h.rest;
  middle = h.middle;
  cut = ap (λ xs. x ∷ xs) h.cut;
  runs = (next, step, h.runs);
  never = h.never;
}

-- the operations run from the base, or one of them is false
pub runs_or_not : (base : Base) (ops : List (ObjOp × ObjReply)) → ((end : Base) × Runs Step base ops end) ⊎ IsFalseIn base ops
runs_or_not base [] = inl (base, refl)
runs_or_not base (x ∷ ops) = elim (steps_or_not base x) [
  | inl one ↦ elim (runs_or_not one.0 ops) [
    | inl all ↦ inl (all.0, (one.0, one.1, all.1))
    | inr h ↦ inr (false_later base one.0 x ops one.1 h)
  ]
  | inr never ↦ inr (record { front = []; done = x; rest = ops; middle = base; cut = refl; runs = refl; never = never })
]
