-- An operation that takes another one back leads to the base before it.
use Rattle.std.proofs.Common.{◌≡◌, ℕ, suc, ◌+◌, ◌-◌, ◌<◌, ◌≤◌, Bool, true, false, Option, None, Some, [], ◌∷◌, ◌++◌, take, length, get_or, refl, sym, ap, subst, ◌∙◌, arith, inl, inr}
use Rattle.std.proofs.Math.Seq.{take-suc}
use Rattle.mlt_types.specs.declared.cell.Cell.{Cell}
use Rattle.mlt_object_kinds.{specs.declared.account.AccountOp.AccountOp, specs.declared.counter.CounterOp.CounterOp, specs.declared.element.ElementOp.ElementOp, specs.declared.operation.ObjOp.ObjOp, specs.declared.operation.ObjReply.ObjReply, specs.Cells.CellState, specs.Cells.CellStep, specs.Cells.CellState.AccountState, specs.Cells.CellState.ElementState, specs.Cells.CellState.CounterState, specs.Cells.CellState.NoState, specs.Operations.cell_of, proofs.BaseLaws.base_one_answer, proofs.BaseLaws.same_base, proofs.BaseLaws.one_cell_or_two}
use Rattle.mlt_object_kinds.specs.declared.operation.ObjReply.TheVariants.{Opened, Closed, Done, Added, Removed}
use Rattle.mlt_object_kinds.specs.Accounts as accounts
use Rattle.mlt_object_kinds.specs.Elements as elements
use Rattle.mlt_object_kinds.specs.Counters as counters
use Rattle.mlt_object_kinds.specs.Bases.{Base, Step, TranscriptLeads, TellsSize, Transcript, state_at, SameBut}
use Rattle.mlt_object_base.specs.TakingBack.{opposite_of}

-- the opposite operation leads back with some reply; where there is none, nothing changed
abbrev LeadsBack : Cell → Option ObjOp → CellState → CellState → Type 0
LeadsBack c None s t = s ≡ t
LeadsBack c (Some o) s t = (cell_of o ≡ c) × (r : ObjReply) × CellStep t (o, r) s

account_back : (a : ℕ) (o : AccountOp) (r : ObjReply) (s : Option ℕ) → accounts.IsLegalOnAccount o r s → LeadsBack (Cell.Account a) (opposite_of (ObjOp.Account a o, r)) (AccountState s) (AccountState (accounts.account_after o r s))
account_back a AccountOp.Open Opened None h = (refl, Closed, (refl, refl))
account_back a AccountOp.Close Closed (Some b) h = (refl, Opened, (tt, ap Some (sym h)))
account_back a (AccountOp.Deposit n) Done (Some b) h = (refl, Done, ((h.0, h.1, omega arith), ap Some (omega arith)))
account_back a (AccountOp.Withdraw n) Done (Some b) h = (refl, Done, ((h.0, omega arith), ap Some (omega arith)))
account_back a _ _ _ h = first_of (cc, grind arith)

element_back : (set e : ℕ) (o : ElementOp) (r : ObjReply) (s : Bool) → elements.IsLegalOnElement o r s → LeadsBack (Cell.Element set e) (opposite_of (ObjOp.Element set e o, r)) (ElementState s) (ElementState (elements.element_after o r s))
element_back set e ElementOp.Add Added false h = (refl, Removed, (tt, refl))
element_back set e ElementOp.Remove Removed true h = (refl, Added, (tt, refl))
element_back set e _ _ _ h = first_of (cc, grind arith)

counter_back : (c : ℕ) (o : CounterOp) (r : ObjReply) (s : ℕ) → counters.IsLegalOnCounter o r s → LeadsBack (Cell.Counter c) (opposite_of (ObjOp.Counter c o, r)) (CounterState s) (CounterState (counters.counter_after o r s))
counter_back c (CounterOp.Up n) Done s h = (refl, Done, ((h.0, omega arith), omega arith))
counter_back c (CounterOp.Down n) Done s h = (refl, Done, ((h.0, omega arith), omega arith))
counter_back c CounterOp.Read r s h = refl
counter_back c _ _ s h = absurd h

cell_back : (x : ObjOp × ObjReply) (s t : CellState) → CellStep s x t → LeadsBack (cell_of x.0) (opposite_of x) s t
cell_back (ObjOp.Account a o, r) (AccountState s) (AccountState t) h = subst (λ z. LeadsBack (Cell.Account a) (opposite_of (ObjOp.Account a o, r)) (AccountState s) (AccountState z)) h.1 (account_back a o r s h.0)
cell_back (ObjOp.Element set e o, r) (ElementState s) (ElementState t) h = subst (λ z. LeadsBack (Cell.Element set e) (opposite_of (ObjOp.Element set e o, r)) (ElementState s) (ElementState z)) h.1 (element_back set e o r s h.0)
cell_back (ObjOp.Counter c o, r) (CounterState s) (CounterState t) h = subst (λ z. LeadsBack (Cell.Counter c) (opposite_of (ObjOp.Counter c o, r)) (CounterState s) (CounterState z)) h.1 (counter_back c o r s h.0)
cell_back (ObjOp.Size s, r) NoState NoState h = refl
cell_back _ _ _ h = absurd h

-- the opposite operation asks for no size
abbrev AsksNoSize : Option ObjOp → Type 0
AsksNoSize None = Unit {0}
AsksNoSize (Some o) = (b : Base) (r : ObjReply) → TellsSize b (o, r)

asks_no_size : (x : ObjOp × ObjReply) → AsksNoSize (opposite_of x)
asks_no_size (ObjOp.Account a AccountOp.Open, Opened) = λ b r. tt
asks_no_size (ObjOp.Account a AccountOp.Close, Closed) = λ b r. tt
asks_no_size (ObjOp.Account a (AccountOp.Deposit n), Done) = λ b r. tt
asks_no_size (ObjOp.Account a (AccountOp.Withdraw n), Done) = λ b r. tt
asks_no_size (ObjOp.Element s e ElementOp.Add, Added) = λ b r. tt
asks_no_size (ObjOp.Element s e ElementOp.Remove, Removed) = λ b r. tt
asks_no_size (ObjOp.Counter c (CounterOp.Up n), reply) = λ b r. tt
asks_no_size (ObjOp.Counter c (CounterOp.Down n), reply) = λ b r. tt
asks_no_size _ = tt

-- the opposite operation leads to the base before, whatever it is told
pub leads_back : (x : ObjOp × ObjReply) (m c next : Base) (o : ObjOp) (r : ObjReply) → Step m x c → opposite_of x ≡ Some o → Step c (o, r) next → next ≡ m
leads_back x m c next o r h is k =
    let d = cell_of x.0 in
    let back : LeadsBack d (Some o) (state_at m d) (state_at c d) = subst (λ z. LeadsBack d z (state_at m d) (state_at c d)) is (cell_back x (state_at m d) (state_at c d) h.0) in
    let here : CellStep (state_at c (cell_of o)) (o, back.1) (state_at m (cell_of o)) = subst (λ (z : Cell). CellStep (state_at c z) (o, back.1) (state_at m z)) (sym back.0) back.2 in
    let beside : SameBut c m (cell_of o) = λ other n. sym (h.1 other (λ e. n (e ∙ sym back.0))) in
    let tells = subst AsksNoSize is (asks_no_size x) c back.1 in
    (base_one_answer c next m o r back.1 k (here, beside, tells)).1

-- and where there is none, the base is the one before
pub was_same : (x : ObjOp × ObjReply) (m c : Base) → Step m x c → opposite_of x ≡ None → c ≡ m
was_same x m c h is =
    let d = cell_of x.0 in
    let same : state_at m d ≡ state_at c d = subst (λ z. LeadsBack d z (state_at m d) (state_at c d)) is (cell_back x (state_at m d) (state_at c d) h.0) in
    same_base c m (λ other. elim (one_cell_or_two other d) [
      | inl e ↦ subst (λ (z : Cell). state_at c z ≡ state_at m z) (sym e) (sym same)
      | inr n ↦ h.1 other n
    ])

runs_last : (b : Base) (t : Transcript) (x : ObjOp × ObjReply) (c : Base) → TranscriptLeads b (t ++ x ∷ []) c → (m : Base) × TranscriptLeads b t m × Step m x c
runs_last b [] x c h = (b, refl, subst (λ (z : Base). Step b x z) h.2 h.1)
runs_last b (y ∷ t) x c h = let k = runs_last h.0 t x c h.2 in (k.0, (h.0, h.1, k.1), k.2)

-- what a front led to before its last operation
pub before_last : (b : Base) (t : Transcript) (i : ℕ) (d : ObjOp × ObjReply) (c : Base) → i < length t → TranscriptLeads b (take (i + 1) t) c → (m : Base) × TranscriptLeads b (take i t) m × Step m (get_or t i d) c
before_last b t i d c h r =
    let next : suc i ≡ i + 1 = omega arith in
    let longer : take (i + 1) t ≡ take i t ++ get_or t i d ∷ [] = subst (λ n. take n t ≡ take i t ++ get_or t i d ∷ []) next (take-suc t i d h) in
    runs_last b (take i t) (get_or t i d) c (subst (λ (z : Transcript). TranscriptLeads b z c) longer r)

-- the last step of so many, which is told at their end
pub last_step : (before : Base) (done : Transcript) (left : ℕ) (item : ObjOp × ObjReply) (base : Base) → 0 < left → left ≤ length done → item ≡ get_or done (left - 1) item → TranscriptLeads before (take left done) base
    → (mid : Base) × TranscriptLeads before (take (left - 1) done) mid × Step mid item base
last_step before done left item base some within is leads =
    let left_is : left ≡ left - 1 + 1 = omega arith in
    let last = before_last before done (left - 1) item base (omega arith) (subst (λ n. TranscriptLeads before (take n done) base) left_is leads) in
    (last.0, last.1, subst (λ x. Step last.0 x base) (sym is) last.2)
