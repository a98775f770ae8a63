-- Steps of one cell as steps of a base.
use Rattle.std.proofs.Common.{◌≡◌, ℕ, Bool, Option, is_some, refl, sym, subst, nat_cmp}
use Rattle.std.specs.FinMap as map
use Rattle.mlt_object_base.proofs.Names.{with_entry, ElementOp, ObjOp, ObjReply, AccountStep, step_to, Base, Step, TellsSize, counter_entry, counter_value, element_cmp, element_entry, state_at, CellStep, ElementState, CounterStep, cell_of, base_of}
use Rattle.mlt_object_kinds.specs.{declared.account.AccountOp.AccountOp, declared.counter.CounterOp.CounterOp, Cells.CellState.AccountState, Cells.CellState.CounterState, Elements.ElementStep}

-- a step that leaves its cell as it was leaves the base
pub step_that_stays : (b b' : Base) (x : ObjOp × ObjReply) → b' ≡ b → CellStep (state_at b (cell_of x.0)) x (state_at b (cell_of x.0)) → TellsSize b x → Step b x b'
step_that_stays b b' x same h told = subst (Step b x) (sym same) (h, λ other n. refl, told)

-- a new state of an account, put into the map, is the account's step
pub step_to_account : (accounts accounts' : map.FinMap nat_cmp ℕ) (elements : map.FinMap element_cmp (Unit {0})) (counters : map.FinMap nat_cmp ℕ)
    (b : Base) (a : ℕ) (o : AccountOp) (r : ObjReply) (s t : Option ℕ)
    → base_of accounts elements counters ≡ b → accounts' ≡ with_entry accounts a t → s ≡ map.get accounts a → AccountStep s o r t
    → Step b (ObjOp.Account a o, r) (base_of accounts' elements counters)
step_to_account accounts accounts' elements counters b a o r s t view put before h =
    let x : ObjOp × ObjReply = (ObjOp.Account a o, r) in
    let step = step_to (base_of accounts elements counters) x (AccountState t) (subst (λ s. AccountStep s o r t) before h) tt in
    subst (λ (m : map.FinMap nat_cmp ℕ). Step b x (base_of m elements counters)) (sym put) (subst (λ b. Step b x (base_of (with_entry accounts a t) elements counters)) view step)

-- the same of an element
pub step_to_element : (accounts : map.FinMap nat_cmp ℕ) (elements elements' : map.FinMap element_cmp (Unit {0})) (counters : map.FinMap nat_cmp ℕ)
    (b : Base) (s e : ℕ) (o : ElementOp) (r : ObjReply) (p q : Bool)
    → base_of accounts elements counters ≡ b → elements' ≡ with_entry elements (s, e) (element_entry q) → p ≡ is_some (map.get elements (s, e)) → ElementStep p o r q
    → Step b (ObjOp.Element s e o, r) (base_of accounts elements' counters)
step_to_element accounts elements elements' counters b s e o r p q view put before h =
    let x : ObjOp × ObjReply = (ObjOp.Element s e o, r) in
    let step = step_to (base_of accounts elements counters) x (ElementState q) (subst (λ p. ElementStep p o r q) before h) tt in
    subst (λ (m : map.FinMap element_cmp (Unit {0})). Step b x (base_of accounts m counters)) (sym put) (subst (λ b. Step b x (base_of accounts (with_entry elements (s, e) (element_entry q)) counters)) view step)

-- the same of a counter
pub step_to_counter : (accounts : map.FinMap nat_cmp ℕ) (elements : map.FinMap element_cmp (Unit {0})) (counters counters' : map.FinMap nat_cmp ℕ)
    (b : Base) (c : ℕ) (o : CounterOp) (r : ObjReply) (s t : ℕ)
    → base_of accounts elements counters ≡ b → counters' ≡ with_entry counters c (counter_entry t) → s ≡ counter_value (map.get counters c) → CounterStep s o r t
    → Step b (ObjOp.Counter c o, r) (base_of accounts elements counters')
step_to_counter accounts elements counters counters' b c o r s t view put before h =
    let x : ObjOp × ObjReply = (ObjOp.Counter c o, r) in
    let step = step_to (base_of accounts elements counters) x (CounterState t) (subst (λ s. CounterStep s o r t) before h) tt in
    subst (λ (m : map.FinMap nat_cmp ℕ). Step b x (base_of accounts elements m)) (sym put) (subst (λ b. Step b x (base_of accounts elements (with_entry counters c (counter_entry t)))) view step)
