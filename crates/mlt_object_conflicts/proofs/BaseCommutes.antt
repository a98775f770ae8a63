-- What commutes or breaks on one cell does so over whole bases.
use Rattle.std.proofs.Common.{◌≡◌, ℕ, true, false, cond, ◌&&◌, nat_eq, refl, ap, inl, inr, arith, eq-eqb, ne_eqb}
use Rattle.mlt_object_conflicts.proofs.Names.{cases_eq, Cell, RightCommutesBackward, ObjOp, Account, Element, Counter, Size, AccountOp, ElementOp, CounterOp, ObjReply, Add, AccountStep, ElementStep, CounterStep, AccountState, ElementState, CounterState, NoState, CellStep, Step, account_class, account_marks, element_class, element_marks, counter_class, counter_marks, clashes, changes_told, paired}
use Rattle.std.specs.Cmp.{nat_eq_equiv}
use Rattle.mlt_object_kinds.{specs.declared.element.ElementOp.TheVariants.Remove, specs.declared.element.ElementOp.TheVariants.Has, specs.Sizes.put_into, specs.Sizes.taken_from, specs.Accounts.IsLegalOnAccount as account_legal, specs.Accounts.account_after as account_next, specs.Elements.IsLegalOnElement as element_legal, specs.Elements.element_after as element_next, specs.Counters.IsLegalOnCounter as counter_legal, specs.Counters.counter_after as counter_next, proofs.CommutingLaws.apart_on_two_cells, proofs.CommutingLaws.cell_steps_commute, proofs.CommutingLaws.two_cells_commute, specs.Operations.AreApart}
use Rattle.mlt_object_conflicts.proofs.AccountPairs as account
use Rattle.mlt_object_conflicts.proofs.AccountRows as account_rows
use Rattle.mlt_object_conflicts.proofs.ElementPairs as element
use Rattle.mlt_object_conflicts.proofs.CounterPairs as counter
use Rattle.mlt_object_conflicts.proofs.Rows.{items_commute}

account_on_cell : (a b : ℕ) (x y : AccountOp × ObjReply) → RightCommutesBackward (paired AccountStep) x y → RightCommutesBackward CellStep (Account a x.0, x.1) (Account b y.0, y.1)
account_on_cell a b x y may (AccountState s) (AccountState m) (AccountState t) h k = let w = may s m t h k in (AccountState w.0, w.1, w.2)
account_on_cell a b x y may _ _ _ h k = absurd (first_of (cc, grind arith))

element_on_cell : (s e t f : ℕ) (x y : ElementOp × ObjReply) → RightCommutesBackward (paired ElementStep) x y → RightCommutesBackward CellStep (Element s e x.0, x.1) (Element t f y.0, y.1)
element_on_cell s e t f x y may (ElementState b) (ElementState m) (ElementState d) h k = let w = may b m d h k in (ElementState w.0, w.1, w.2)
element_on_cell s e t f x y may _ _ _ h k = absurd (first_of (cc, grind arith))

counter_on_cell : (c d : ℕ) (x y : CounterOp × ObjReply) → RightCommutesBackward (paired CounterStep) x y → RightCommutesBackward CellStep (Counter c x.0, x.1) (Counter d y.0, y.1)
counter_on_cell c d x y may (CounterState s) (CounterState m) (CounterState t) h k = let w = may s m t h k in (CounterState w.0, w.1, w.2)
counter_on_cell c d x y may _ _ _ h k = absurd (first_of (cc, grind arith))

accounts_commute : (a b : ℕ) (x y : AccountOp × ObjReply) → clashes (Account a x.0, x.1) (Account b y.0, y.1) ≡ false → RightCommutesBackward Step (Account a x.0, x.1) (Account b y.0, y.1)
accounts_commute a b x y free =
    elim (cases_eq a b) [
      | inl e ↦
          let commute = items_commute account_class account_legal account_next account_rows.amount account.Fits account.Legal account.after account_rows.account_has_rows
          account_marks account.account_rows_commute x y (rw (eq-eqb a b e) at free) in
          cell_steps_commute (Account a x.0, x.1) (Account b y.0, y.1) (ap Cell.Account e) (account_on_cell a b x y commute)
      | inr n ↦ two_cells_commute (Account a x.0, x.1) (Account b y.0, y.1) (λ e. n (cc)) tt tt
    ]

counters_commute : (c d : ℕ) (x y : CounterOp × ObjReply) → clashes (Counter c x.0, x.1) (Counter d y.0, y.1) ≡ false → RightCommutesBackward Step (Counter c x.0, x.1) (Counter d y.0, y.1)
counters_commute c d x y free =
    elim (cases_eq c d) [
      | inl e ↦
          let commute = items_commute counter_class counter_legal counter_next counter.amount counter.Fits counter.Legal counter.after counter.counter_has_rows
          counter_marks counter.counter_rows_commute x y (rw (eq-eqb c d e) at free) in
          cell_steps_commute (Counter c x.0, x.1) (Counter d y.0, y.1) (ap Cell.Counter e) (counter_on_cell c d x y commute)
      | inr n ↦ two_cells_commute (Counter c x.0, x.1) (Counter d y.0, y.1) (λ e. n (cc)) tt tt
    ]

elements_commute : (s e t f : ℕ) (x y : ElementOp × ObjReply) → clashes (Element s e x.0, x.1) (Element t f y.0, y.1) ≡ false →
    RightCommutesBackward Step (Element s e x.0, x.1) (Element t f y.0, y.1)
elements_commute s e t f x y free =
    elim (cases_eq s t) [
      | inl p ↦ elim (cases_eq e f) [
        | inl q ↦
            let commute = items_commute element_class element_legal element_next element.amount element.Fits element.Legal element.after element.element_has_rows
            element_marks element.element_rows_commute x y (rw (eq-eqb e f q) at (rw (eq-eqb s t p) at free)) in
            cell_steps_commute (Element s e x.0, x.1) (Element t f y.0, y.1) (λ i. Cell.Element (p i) (q i)) (element_on_cell s e t f x y commute)
        | inr n ↦ two_cells_commute (Element s e x.0, x.1) (Element t f y.0, y.1) (λ h. n (cc)) tt tt
      ]
      | inr n ↦ two_cells_commute (Element s e x.0, x.1) (Element t f y.0, y.1) (λ h. n (cc)) tt tt
    ]

-- an operation on an element that does not clash with a size of that set changes it by nothing
uncounted : (s e : ℕ) (o : ElementOp) (r : ObjReply) (t n : ℕ) → clashes (Element s e o, r) (Size t, ObjReply.Is n) ≡ false →
    (put_into t (Element s e o, r) ≡ 0) × (taken_from t (Element s e o, r) ≡ 0)
uncounted s e Add ObjReply.Added t n free = (elim (nat_eq s t) as (λ b. (b && true) ≡ false → ◌≡◌ {A = ℕ} (cond b 1 0) 0) [ true ↦ λ f. absurd (cc f) | false ↦ λ f. refl ] free, refl)
uncounted s e Remove ObjReply.Removed t n free = (refl, elim (nat_eq s t) as (λ b. (b && true) ≡ false → ◌≡◌ {A = ℕ} (cond b 1 0) 0) [ true ↦ λ f. absurd (cc f) | false ↦ λ f. refl ] free)
uncounted s e o r t n free = (refl, refl)

element_size_commute : (s e : ℕ) (o : ElementOp) (r : ObjReply) (t : ℕ) (a : ObjReply) → clashes (Element s e o, r) (Size t, a) ≡ false →
    RightCommutesBackward Step (Element s e o, r) (Size t, a)
element_size_commute s e o r t a =
    elim a as (λ a. clashes (Element s e o, r) (Size t, a) ≡ false → RightCommutesBackward Step (Element s e o, r) (Size t, a)) [
      | ObjReply.Is n ↦ λ free. two_cells_commute (Element s e o, r) (Size t, ObjReply.Is n) (λ h. cc) (uncounted s e o r t n free) tt
      | _ ↦ λ free b m c h k. absurd k.0
    ]

size_element_commute : (s : ℕ) (a : ObjReply) (t f : ℕ) (o : ElementOp) (r : ObjReply) → clashes (Size s, a) (Element t f o, r) ≡ false →
    RightCommutesBackward Step (Size s, a) (Element t f o, r)
size_element_commute s a t f o r =
    elim a as (λ a. clashes (Size s, a) (Element t f o, r) ≡ false → RightCommutesBackward Step (Size s, a) (Element t f o, r)) [
      | ObjReply.Is n ↦ λ free. two_cells_commute (Size s, ObjReply.Is n) (Element t f o, r) (λ h. cc) tt (uncounted t f o r s n (rw (nat_eq_equiv.symm s t) at free))
      | _ ↦ λ free b m c h k. absurd h.0
    ]

sizes_on_cell : (s t : ℕ) (r a : ObjReply) → RightCommutesBackward CellStep (Size s, r) (Size t, a)
sizes_on_cell s t r a NoState NoState NoState h k = (NoState, k, h)
sizes_on_cell s t r a _ _ _ h k = absurd (first_of (cc, grind arith))

sizes_commute : (s t : ℕ) (r a : ObjReply) → RightCommutesBackward Step (Size s, r) (Size t, a)
sizes_commute s t r a =
    elim (cases_eq s t) [
      | inl e ↦ cell_steps_commute (Size s, r) (Size t, a) (ap Cell.Size e) (sizes_on_cell s t r a)
      | inr n ↦ two_cells_commute (Size s, r) (Size t, a) (λ e. n (cc)) (refl, refl) (refl, refl)
    ]

-- operations that do not clash commute
pub clash_free_commute : (held requested : ObjOp × ObjReply) → clashes held requested ≡ false → RightCommutesBackward Step held requested
clash_free_commute (Account a op, reply) (Account b other, answer) free = accounts_commute a b (op, reply) (other, answer) free
clash_free_commute (Element s e op, reply) (Element t f other, answer) free = elements_commute s e t f (op, reply) (other, answer) free
clash_free_commute (Counter c op, reply) (Counter d other, answer) free = counters_commute c d (op, reply) (other, answer) free
clash_free_commute (Element s e op, reply) (Size t, answer) free = element_size_commute s e op reply t answer free
clash_free_commute (Size s, reply) (Element t f other, answer) free = size_element_commute s reply t f other answer free
clash_free_commute (Size s, reply) (Size t, answer) free = sizes_commute s t reply answer
clash_free_commute (Account a op, reply) (Element t f other, answer) free = two_cells_commute (Account a op, reply) (Element t f other, answer) (λ h. cc) tt tt
clash_free_commute (Account a op, reply) (Counter d other, answer) free = two_cells_commute (Account a op, reply) (Counter d other, answer) (λ h. cc) tt tt
clash_free_commute (Account a op, reply) (Size t, answer) free = two_cells_commute (Account a op, reply) (Size t, answer) (λ h. cc) (refl, refl) tt
clash_free_commute (Element s e op, reply) (Account b other, answer) free = two_cells_commute (Element s e op, reply) (Account b other, answer) (λ h. cc) tt tt
clash_free_commute (Element s e op, reply) (Counter d other, answer) free = two_cells_commute (Element s e op, reply) (Counter d other, answer) (λ h. cc) tt tt
clash_free_commute (Counter c op, reply) (Account b other, answer) free = two_cells_commute (Counter c op, reply) (Account b other, answer) (λ h. cc) tt tt
clash_free_commute (Counter c op, reply) (Element t f other, answer) free = two_cells_commute (Counter c op, reply) (Element t f other, answer) (λ h. cc) tt tt
clash_free_commute (Counter c op, reply) (Size t, answer) free = two_cells_commute (Counter c op, reply) (Size t, answer) (λ h. cc) (refl, refl) tt
clash_free_commute (Size s, reply) (Account b other, answer) free = two_cells_commute (Size s, reply) (Account b other, answer) (λ h. cc) tt (refl, refl)
clash_free_commute (Size s, reply) (Counter d other, answer) free = two_cells_commute (Size s, reply) (Counter d other, answer) (λ h. cc) tt (refl, refl)

-- operations that are locked on no cell of both do not clash
has_changes_nothing : (r a : ObjReply) → changes_told (element_class Has r) a ≡ false
has_changes_nothing ObjReply.Yes a = elim a as (λ a. changes_told (element_class Has ObjReply.Yes) a ≡ false) [ ObjReply.Is n ↦ refl | _ ↦ refl ]
has_changes_nothing ObjReply.No a = elim a as (λ a. changes_told (element_class Has ObjReply.No) a ≡ false) [ ObjReply.Is n ↦ refl | _ ↦ refl ]
has_changes_nothing r a = refl

-- either the sets differ, or the operation changes nothing
apart_from_size : (s e : ℕ) (o : ElementOp) (r : ObjReply) (t : ℕ) (a : ObjReply) → AreApart (Element s e o) (Size t) →
    (nat_eq s t && changes_told (element_class o r) a) ≡ false
apart_from_size s e Add r t a apart = rw (ne_eqb s t (λ same. apart (Cell.Size t) (1, omega arith, ap Cell.Size same) (0, omega arith, refl))) refl
apart_from_size s e Remove r t a apart = rw (ne_eqb s t (λ same. apart (Cell.Size t) (1, omega arith, ap Cell.Size same) (0, omega arith, refl))) refl
apart_from_size s e Has r t a apart = rw (has_changes_nothing r a) (elim (nat_eq s t) as (λ b. (b && false) ≡ false) [ true ↦ refl | false ↦ refl ])

pub apart_do_not_clash : (held requested : ObjOp × ObjReply) → AreApart held.0 requested.0 → clashes held requested ≡ false
apart_do_not_clash (Account a op, reply) (Account b other, answer) apart =
    let n = apart_on_two_cells (Account a op) (Account b other) apart in
    elim (cases_eq a b) [ inl e ↦ absurd (n (ap Cell.Account e)) | inr m ↦ rw (ne_eqb a b m) refl ]
apart_do_not_clash (Counter c op, reply) (Counter d other, answer) apart =
    let n = apart_on_two_cells (Counter c op) (Counter d other) apart in
    elim (cases_eq c d) [ inl e ↦ absurd (n (ap Cell.Counter e)) | inr m ↦ rw (ne_eqb c d m) refl ]
apart_do_not_clash (Element s e op, reply) (Element t f other, answer) apart =
    let n = apart_on_two_cells (Element s e op) (Element t f other) apart in
    elim (cases_eq s t) [
      | inl p ↦ elim (cases_eq e f) [
        | inl q ↦ absurd (n (λ i. Cell.Element (p i) (q i)))
        | inr m ↦ rw (eq-eqb s t p) (rw (ne_eqb e f m) refl)
      ]
      | inr m ↦ rw (ne_eqb s t m) refl
    ]
apart_do_not_clash (Element s e op, reply) (Size t, answer) apart = apart_from_size s e op reply t answer apart
apart_do_not_clash (Size s, reply) (Element t f other, answer) apart =
    rw (nat_eq_equiv.symm s t) (apart_from_size t f other answer s reply (λ c here there. apart c there here))
apart_do_not_clash (Account a op, reply) (Element t f other, answer) apart = refl
apart_do_not_clash (Account a op, reply) (Counter d other, answer) apart = refl
apart_do_not_clash (Account a op, reply) (Size t, answer) apart = refl
apart_do_not_clash (Element s e op, reply) (Account b other, answer) apart = refl
apart_do_not_clash (Element s e op, reply) (Counter d other, answer) apart = refl
apart_do_not_clash (Counter c op, reply) (Account b other, answer) apart = refl
apart_do_not_clash (Counter c op, reply) (Element t f other, answer) apart = refl
apart_do_not_clash (Counter c op, reply) (Size t, answer) apart = refl
apart_do_not_clash (Size s, reply) (Account b other, answer) apart = refl
apart_do_not_clash (Size s, reply) (Counter d other, answer) apart = refl
apart_do_not_clash (Size s, reply) (Size t, answer) apart = refl
