-- The laws of whole bases: what the cells hold is the base, and a step has one answer and one start.
use Rattle.std.proofs.Common.{◌≡◌, ◌≢◌, ◌⊎◌, inl, inr, ℕ, zero, suc, Bool, true, false, cond, Option, None, Some, is_some, refl, sym, ap, subst, ◌∙◌, arith, nat_cmp, is_eq}
use Rattle.std.{proofs.lemmas.Bool.cases_eq, proofs.lemmas.Cmp.on_total, proofs.lemmas.Cmp.then_total, proofs.lemmas.Cmp.tied_itself, specs.declared.cmp.Ordering.Ordering, specs.declared.cmp.Ordering.TheVariants.Less, specs.declared.cmp.Ordering.TheVariants.Equal, specs.declared.cmp.Ordering.TheVariants.Greater, specs.Ordering.ordering_then, specs.Ordering.eq_by_cmp, specs.Cmp.IsTotalOrder, specs.Cmp.nat_cmp_total}
use Rattle.std.specs.FinMap as map
use Rattle.mlt_types.specs.{declared.cell.Cell.Cell, declared.cell.Cell.TheVariants.Account, declared.cell.Cell.TheVariants.Element, declared.cell.Cell.TheVariants.Counter, declared.cell.Cell.TheVariants.Size, Maps.with_entry}
use Rattle.mlt_object_kinds.specs.{declared.operation.ObjOp.ObjOp, declared.operation.ObjReply.ObjReply, AccountLaws.account_one_answer, AccountLaws.account_one_start, Cells.CellState, Cells.CellStep, Cells.CellState.AccountState, Cells.CellState.ElementState, Cells.CellState.CounterState, Cells.CellState.NoState, CounterLaws.counter_one_answer, CounterLaws.counter_one_start, ElementLaws.element_one_answer, ElementLaws.element_one_start, Operations.cell_of}
use Rattle.mlt_object_kinds.specs.Bases.{Base, Step, TellsSize, counter_entry, counter_value, element_cmp, element_entry, state_at, with_state}

-- ---- orders and keys

pub element_cmp_total : IsTotalOrder element_cmp
element_cmp_total = then_total (on_total (λ t. t.0) nat_cmp_total) (on_total (λ t. t.1) nat_cmp_total)

pub element_cmp_tells_apart : map.IsAntisymmetric element_cmp
element_cmp_tells_apart x y is =
    elim (nat_cmp x.0 y.0) as (λ o. nat_cmp x.0 y.0 ≡ o → ordering_then o (nat_cmp x.1 y.1) ≡ Equal → x ≡ y) [
      | Less ↦ λ p e. absurd (cc)
      | Equal ↦ λ p e i. (map.nat_cmp-IsAntisymmetric x.0 y.0 p i, map.nat_cmp-IsAntisymmetric x.1 y.1 e i)
      | Greater ↦ λ p e. absurd (cc)
    ] refl is

-- two cells are one or are not
pub one_cell_or_two : (c d : Cell) → (c ≡ d) ⊎ (c ≢ d)
one_cell_or_two (Account a) (Account b) = elim (cases_eq a b) [ inl e ↦ inl (ap Account e) | inr n ↦ inr (λ h. n (cc)) ]
one_cell_or_two (Element s e) (Element t f) =
    elim (cases_eq s t) [
      | inl p ↦ elim (cases_eq e f) [ inl q ↦ inl (λ i. Element (p i) (q i)) | inr n ↦ inr (λ h. n (cc)) ]
      | inr n ↦ inr (λ h. n (cc))
    ]
one_cell_or_two (Counter c) (Counter d) = elim (cases_eq c d) [ inl e ↦ inl (ap Counter e) | inr n ↦ inr (λ h. n (cc)) ]
one_cell_or_two (Size s) (Size t) = elim (cases_eq s t) [ inl e ↦ inl (ap Size e) | inr n ↦ inr (λ h. n (cc)) ]
one_cell_or_two (Account a) (Element t f) = inr (λ h. cc)
one_cell_or_two (Account a) (Counter d) = inr (λ h. cc)
one_cell_or_two (Element s e) (Account b) = inr (λ h. cc)
one_cell_or_two (Element s e) (Counter d) = inr (λ h. cc)
one_cell_or_two (Counter c) (Account b) = inr (λ h. cc)
one_cell_or_two (Counter c) (Element t f) = inr (λ h. cc)
one_cell_or_two (Account a) (Size t) = inr (λ h. cc)
one_cell_or_two (Element s e) (Size t) = inr (λ h. cc)
one_cell_or_two (Counter c) (Size t) = inr (λ h. cc)
one_cell_or_two (Size s) (Account b) = inr (λ h. cc)
one_cell_or_two (Size s) (Element t f) = inr (λ h. cc)
one_cell_or_two (Size s) (Counter d) = inr (λ h. cc)

-- ---- what the cells hold is the base

pub same_element : (p q : Option (Unit {0})) → is_some p ≡ is_some q → p ≡ q
same_element None None e = refl
same_element None (Some y) e = absurd (cc)
same_element (Some x) None e = absurd (cc)
same_element (Some x) (Some y) e = refl

same_counter : (p q : Option ℕ) → counter_value p ≡ counter_value q → p ≡ q
same_counter None None e = refl
same_counter None (Some y) e = absurd (omega arith)
same_counter (Some x) None e = absurd (omega arith)
same_counter (Some x) (Some y) e = let same : x ≡ y = omega arith in ap Some same

account_inside : (s t : Option ℕ) → AccountState s ≡ AccountState t → s ≡ t
account_inside s t e = cc

element_inside : (s t : Bool) → ElementState s ≡ ElementState t → s ≡ t
element_inside s t e = cc

counter_inside : (s t : ℕ) → CounterState s ≡ CounterState t → s ≡ t
counter_inside s t e = cc

-- bases whose cells hold the same are one base
pub same_base : (b d : Base) → ((c : Cell) → state_at b c ≡ state_at d c) → b ≡ d
same_base b d h =
    let accounts : b.accounts ≡ d.accounts =
    map.same_map nat_cmp_total map.nat_cmp-IsAntisymmetric b.accounts d.accounts (λ a. account_inside _ _ (h (Account a)))
    in
    let elements : b.elements ≡ d.elements =
    map.same_map element_cmp_total element_cmp_tells_apart b.elements d.elements (λ k. same_element _ _ (element_inside _ _ (h (Element k.0 k.1))))
    in
    let counters : b.counters ≡ d.counters =
    map.same_map nat_cmp_total map.nat_cmp-IsAntisymmetric b.counters d.counters (λ c. same_counter _ _ (counter_inside _ _ (h (Counter c))))
    in
    λ i. record { accounts = accounts i; elements = elements i; counters = counters i }

-- ---- one answer, one start

-- what is told of a size is one reply
abbrev OneAnswer : Base → ObjOp → ObjReply → ObjReply → CellState → CellState → CellState → Type 0
OneAnswer b o r q s t u =
    CellStep s (o, r) t → CellStep s (o, q) u → TellsSize b (o, r) → TellsSize b (o, q) → (r ≡ q) × (t ≡ u)

cell_one_answer : (b : Base) (o : ObjOp) (r q : ObjReply) (s t u : CellState) → OneAnswer b o r q s t u
cell_one_answer b (ObjOp.Account a o) r q (AccountState s) (AccountState t) (AccountState u) h k _ _ =
    let one = account_one_answer s o r q t u h k in (one.0, ap AccountState one.1)
cell_one_answer b (ObjOp.Element set e o) r q (ElementState s) (ElementState t) (ElementState u) h k _ _ =
    let one = element_one_answer s o r q t u h k in (one.0, ap ElementState one.1)
cell_one_answer b (ObjOp.Counter d o) r q (CounterState s) (CounterState t) (CounterState u) h k _ _ =
    let one = counter_one_answer s o r q t u h k in (one.0, ap CounterState one.1)
cell_one_answer b (ObjOp.Size set) r q NoState NoState NoState h k told other = (told ∙ sym other, refl)
cell_one_answer b _ r q _ _ _ h k _ _ = absurd (first_of (cc, grind arith))

cell_one_start : (o : ObjOp) (s u t : CellState) (r : ObjReply) → CellStep s (o, r) t → CellStep u (o, r) t → s ≡ u
cell_one_start (ObjOp.Account a o) (AccountState s) (AccountState u) (AccountState t) r h k = ap AccountState (account_one_start s u t o r h k)
cell_one_start (ObjOp.Element set e o) (ElementState s) (ElementState u) (ElementState t) r h k = ap ElementState (element_one_start s u t o r h k)
cell_one_start (ObjOp.Counter c o) (CounterState s) (CounterState u) (CounterState t) r h k = ap CounterState (counter_one_start s u t o r h k)
cell_one_start (ObjOp.Size set) NoState NoState NoState r h k = refl
cell_one_start _ _ _ _ r h k = absurd (first_of (cc, grind arith))

-- an operation is told one reply, and leads to one base
pub base_one_answer : (b c d : Base) (o : ObjOp) (r q : ObjReply) → Step b (o, r) c → Step b (o, q) d → (r ≡ q) × (c ≡ d)
base_one_answer b c d o r q h k =
    let one = cell_one_answer b o r q _ _ _ h.0 k.0 h.2 k.2 in (
      one.0,
      same_base c d (λ other. elim (one_cell_or_two other (cell_of o)) [
        | inl e ↦ subst (λ (x : Cell). state_at c x ≡ state_at d x) (sym e) one.1
        | inr n ↦ h.1 other n ∙ sym (k.1 other n)
      ]),
    )

-- an operation with its reply leads to a base from one base
pub base_one_start : (b c d : Base) (o : ObjOp) (r : ObjReply) → Step b (o, r) d → Step c (o, r) d → b ≡ c
base_one_start b c d o r h k =
    let one = cell_one_start o _ _ _ r h.0 k.0 in
    same_base b c (λ other. elim (one_cell_or_two other (cell_of o)) [
      | inl e ↦ subst (λ (x : Cell). state_at b x ≡ state_at c x) (sym e) one
      | inr n ↦ sym (h.1 other n) ∙ k.1 other n
    ])

-- ---- one cell of a base

other_key : {K : Type 0} {R : K → K → Ordering} → map.IsAntisymmetric R → (q k : K) → q ≢ k → eq_by_cmp R q k ≡ false
other_key {R = R} same q k n =
    elim (R q k) as (λ o. R q k ≡ o → is_eq o ≡ false) [ Less ↦ λ p. refl | Equal ↦ λ p. absurd (n (same q k p)) | Greater ↦ λ p. refl ] refl

module _ {K X : Type 0} {R : K → K → Ordering} (o : IsTotalOrder R) where
  pub entry_here : (m : map.FinMap R X) (k : K) (e : Option X) → map.get (with_entry m k e) k ≡ e
  entry_here m k None = map.get-remove o m k k ∙ ap (λ r. cond (is_eq r) None (map.get m k)) (tied_itself o k)
  entry_here m k (Some x) = map.get-insert o m k x k ∙ ap (λ r. cond (is_eq r) (Some x) (map.get m k)) (tied_itself o k)

  pub entry_beside : map.IsAntisymmetric R → (m : map.FinMap R X) (k : K) (e : Option X) (q : K) → q ≢ k → map.get (with_entry m k e) q ≡ map.get m q
  entry_beside same m k None q n = map.get-remove o m k q ∙ ap (λ b. cond b None (map.get m q)) (other_key same q k n)
  entry_beside same m k (Some x) q n = map.get-insert o m k x q ∙ ap (λ b. cond b (Some x) (map.get m q)) (other_key same q k n)

pub element_entry_is : (p : Bool) → is_some (element_entry p) ≡ p
element_entry_is true = refl
element_entry_is false = refl

counter_entry_is : (v : ℕ) → counter_value (counter_entry v) ≡ v
counter_entry_is zero = refl
counter_entry_is (suc v) = omega arith

-- a cell of the kind of this cell can hold this
abbrev pub IsStateOf : Cell → CellState → Type 0
IsStateOf (Account a) (AccountState s) = Unit {0}
IsStateOf (Element s e) (ElementState p) = Unit {0}
IsStateOf (Counter c) (CounterState v) = Unit {0}
IsStateOf (Size s) NoState = Unit {0}
IsStateOf _ _ = ⊥

pub cell_step_states : (x : ObjOp × ObjReply) (s t : CellState) → CellStep s x t → IsStateOf (cell_of x.0) s × IsStateOf (cell_of x.0) t
cell_step_states (ObjOp.Account a o, r) (AccountState s) (AccountState t) h = (tt, tt)
cell_step_states (ObjOp.Element set e o, r) (ElementState s) (ElementState t) h = (tt, tt)
cell_step_states (ObjOp.Counter c o, r) (CounterState s) (CounterState t) h = (tt, tt)
cell_step_states (ObjOp.Size set, r) NoState NoState h = (tt, tt)
cell_step_states _ _ _ h = absurd h

pub state_here : (b : Base) (c : Cell) (s : CellState) → IsStateOf c s → state_at (with_state b c s) c ≡ s
state_here b (Account a) (AccountState s) h = ap AccountState (entry_here nat_cmp_total b.accounts a s)
state_here b (Element s e) (ElementState p) h = ap ElementState (ap is_some (entry_here element_cmp_total b.elements (s, e) (element_entry p)) ∙ element_entry_is p)
state_here b (Counter c) (CounterState v) h = ap CounterState (ap counter_value (entry_here nat_cmp_total b.counters c (counter_entry v)) ∙ counter_entry_is v)
state_here b (Size s) NoState h = refl
state_here b _ _ h = absurd h

pub state_beside : (b : Base) (c : Cell) (s : CellState) (other : Cell) → other ≢ c → state_at (with_state b c s) other ≡ state_at b other
state_beside b (Account a) (AccountState s) (Account d) n =
    ap AccountState (entry_beside nat_cmp_total map.nat_cmp-IsAntisymmetric b.accounts a s d (λ e. n (ap Account e)))
state_beside b (Element s e) (ElementState p) (Element t f) n =
    ap (λ o. ElementState (is_some o)) (entry_beside element_cmp_total element_cmp_tells_apart b.elements (s, e) (element_entry p) (t, f) (λ x. n (ap (λ (k : ℕ × ℕ). Element k.0 k.1) x)))
state_beside b (Counter c) (CounterState v) (Counter d) n =
    ap (λ o. CounterState (counter_value o)) (entry_beside nat_cmp_total map.nat_cmp-IsAntisymmetric b.counters c (counter_entry v) d (λ e. n (ap Counter e)))
state_beside b (Account a) (AccountState s) (Element t f) n = refl
state_beside b (Account a) (AccountState s) (Counter d) n = refl
state_beside b (Element s e) (ElementState p) (Account d) n = refl
state_beside b (Element s e) (ElementState p) (Counter d) n = refl
state_beside b (Counter c) (CounterState v) (Account d) n = refl
state_beside b (Counter c) (CounterState v) (Element t f) n = refl
state_beside b (Account a) (AccountState s) (Size t) n = refl
state_beside b (Element s e) (ElementState p) (Size t) n = refl
state_beside b (Counter c) (CounterState v) (Size t) n = refl
state_beside b _ _ other n = refl

-- a step of the cell is a step of the base, where a size is told as it is
pub step_to : (b : Base) (x : ObjOp × ObjReply) (t : CellState) → CellStep (state_at b (cell_of x.0)) x t → TellsSize b x → Step b x (with_state b (cell_of x.0) t)
step_to b x t h told =
    let is : IsStateOf (cell_of x.0) t = (cell_step_states x _ t h).1 in
    let here : t ≡ state_at (with_state b (cell_of x.0) t) (cell_of x.0) = sym (state_here b (cell_of x.0) t is) in
    (subst (CellStep (state_at b (cell_of x.0)) x) here h, state_beside b (cell_of x.0) t, told)

-- a step changes the cell that it is on, and nothing else
pub step_is : (b c : Base) (x : ObjOp × ObjReply) → Step b x c → c ≡ with_state b (cell_of x.0) (state_at c (cell_of x.0))
step_is b c x h =
    let one = cell_of x.0 in
    let t = state_at c one in
    same_base c (with_state b one t) (λ other. elim (one_cell_or_two other one) [
      | inl e ↦ subst (λ (y : Cell). state_at c y ≡ state_at (with_state b one t) y) (sym e) (sym (state_here b one t (cell_step_states x _ t h.0).1))
      | inr n ↦ h.1 other n ∙ sym (state_beside b one t other n)
    ])
