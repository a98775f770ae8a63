-- The inverse of an operation takes the step of its cell back, by one of four kinds of change.
use Rattle.std.proofs.Common.{◌≡◌, ℕ, ◌+◌, ◌-◌, ◌%◌, ◌^◌, ◌<◌, ◌≤◌, Bool, true, false, Option, Some, None, is_some, refl, sym, subst, ap, arith}
use Rattle.mlt_tx_meaning.proofs.Names.{AccountOp, Open, Close, Deposit, Withdraw, CounterOp, Up, Down, Read, ElementOp, ObjOp, Account, Element, Counter, Size, ObjReply, AccountStep, IsAccount, max_balance, CellState, CellStep, AccountState, ElementState, CounterState, NoState, CounterStep, ElementStep, cell_of, RecChange, ToGhost, Plus, Minus, inverse_of, size_inverse_of, CanChange, HasWhatIsUndone, IsElementRecord, IsRecord, counter_of_record, record_after, state_of_record, Presence, Added, Removed, account_presence, element_presence, presence_of}
use Rattle.mlt_object_base.specs.{declared.record.RecChange.TheVariants.Revive, Effects.account_inverse_of, Effects.counter_inverse_of, Effects.element_inverse_of}
use Rattle.mlt_tx_meaning.proofs.Replies.{ForResizes}

-- ---- the step that is taken back

-- a change of a record takes the state of its cell back to the one before, can be made, and leaves a record
abbrev pub GoesBack : {S : Type 0} → (Option ℕ → S) → (Option ℕ → Type 0) → S → Option RecChange → Option ℕ → Type 0
GoesBack state can before change live = (state (record_after change live) ≡ before) × can (record_after change live) × CanChange change live

account_back : (op : AccountOp) (reply : ObjReply) (before live : Option ℕ) → IsAccount live → AccountStep before op reply live
    → GoesBack (λ live. live) IsAccount before (account_inverse_of op reply) live
account_back Open ObjReply.Opened None live can step = (refl, tt, ap is_some (sym step.1))
account_back Open ObjReply.Opened (Some b) live can step = absurd step.0
account_back Close ObjReply.Closed (Some b) live can step = (ap Some (sym step.0), omega arith, sym step.1)
account_back Close ObjReply.Closed None live can step = absurd step.0
account_back (Deposit n) ObjReply.Done (Some b) live can step =
    let legal = step.0 in
    let back : (b + n + (2 ^ 64 - n)) % 2 ^ 64 ≡ b = omega (arith, legal.0, legal.1) in
    let low : b ≤ max_balance = omega (arith, legal.1) in
    subst (λ (live : Option ℕ). GoesBack (λ live. live) IsAccount (Some b) (Some (Minus n)) live) step.1 (ap Some back, omega (arith, back, low), refl)
account_back (Deposit n) ObjReply.Done None live can step = absurd step.0
account_back (Withdraw n) ObjReply.Done (Some b) live can step =
    let legal = step.0 in
    let back : (b - n + n) % 2 ^ 64 ≡ b = omega (arith, legal.0, legal.1, legal.2) in
    subst (λ (live : Option ℕ). GoesBack (λ live. live) IsAccount (Some b) (Some (Plus n)) live) step.1 (ap Some back, omega (arith, back, legal.1), refl)
account_back (Withdraw n) ObjReply.Done None live can step = absurd step.0
account_back _ _ before live can step = (sym step.1, can, tt)

element_back : (op : ElementOp) (reply : ObjReply) (before : Bool) (live : Option ℕ) → IsElementRecord live → ElementStep before op reply (is_some live)
    → GoesBack is_some IsElementRecord before (element_inverse_of op reply) live
element_back ElementOp.Add ObjReply.Added false live can step = (refl, tt, sym step.1)
element_back ElementOp.Add ObjReply.Added true live can step = absurd step.0
element_back ElementOp.Remove ObjReply.Removed true None can step = (refl, refl, refl)
element_back ElementOp.Remove ObjReply.Removed true (Some v) can step = absurd (cc step.1)
element_back ElementOp.Remove ObjReply.Removed false live can step = absurd step.0
element_back _ _ before live can step = (sym step.1, can, tt)

counter_back : (op : CounterOp) (reply : ObjReply) (before : ℕ) (live : Option ℕ) (c : ℕ) → counter_of_record live < 2 ^ 64 → HasWhatIsUndone (Counter c op, reply) live → CounterStep before op reply (counter_of_record live)
    → GoesBack counter_of_record (λ live. counter_of_record live < 2 ^ 64) before (counter_inverse_of op reply) live
counter_back (Up n) ObjReply.Done before None c can has step = absurd (cc has)
counter_back (Up n) ObjReply.Done before (Some v) c can has step =
    let legal = step.0 in
    let now : (before + n) % 2 ^ 64 ≡ v = step.1 in
    let back : (v + (2 ^ 64 - n)) % 2 ^ 64 ≡ before = omega (arith, legal.0, legal.1, now) in
    (back, omega (arith, back, legal.1), refl)
counter_back (Down n) ObjReply.Done before None c can has step = absurd (cc has)
counter_back (Down n) ObjReply.Done before (Some v) c can has step =
    let legal = step.0 in
    let now : (before + (2 ^ 64 - n)) % 2 ^ 64 ≡ v = step.1 in
    let back : (v + n) % 2 ^ 64 ≡ before = omega (arith, legal.0, legal.1, now) in
    (back, omega (arith, back, legal.1), refl)
counter_back Read ObjReply.Done before live c can has step = absurd step.0
counter_back _ _ before live c can has step = (sym step.1, can, tt)

pub inverse_back : (item : ObjOp × ObjReply) (before : CellState) (live : Option ℕ) → IsRecord (cell_of item.0) live → HasWhatIsUndone item live
    → CellStep before item (state_of_record (cell_of item.0) live)
    → GoesBack (state_of_record (cell_of item.0)) (IsRecord (cell_of item.0)) before (inverse_of item) live
inverse_back (Account a op, reply) (AccountState s) live can has step = let back = account_back op reply s live can step in (ap AccountState back.0, back.1, back.2)
inverse_back (Element s e op, reply) (ElementState p) live can has step = let back = element_back op reply p live can step in (ap ElementState back.0, back.1, back.2)
inverse_back (Counter c op, reply) (CounterState v) live can has step = let back = counter_back op reply v live c can has step in (ap CounterState back.0, back.1, back.2)
inverse_back (Size s, reply) NoState live can has step = (refl, can, tt)
inverse_back _ _ live can has step = absurd (first_of (cc, grind arith))

-- ---- the kinds of changes

-- A fact about what was done to the presence of a key, and what undoes that, is shown for the kinds that there are.
pub record ForInverses (F : Option Presence → Option RecChange → Type 0) : Type 0 where
  pub added : F (Some Added) (Some ToGhost)
  pub removed : F (Some Removed) (Some Revive)
  pub lowered : (n : ℕ) → F None (Some (Minus n))
  pub raised : (n : ℕ) → F None (Some (Plus n))
  pub stays : F None None

account_inverses : (op : AccountOp) (reply : ObjReply) (F : Option Presence → Option RecChange → Type 0) → ForInverses F → F (account_presence op reply) (account_inverse_of op reply)
account_inverses Open ObjReply.Opened F each = each.added
account_inverses Close ObjReply.Closed F each = each.removed
account_inverses (Deposit n) ObjReply.Done F each = each.lowered n
account_inverses (Withdraw n) ObjReply.Done F each = each.raised n
account_inverses _ _ F each = each.stays

element_inverses : (op : ElementOp) (reply : ObjReply) (F : Option Presence → Option RecChange → Type 0) → ForInverses F → F (element_presence op reply) (element_inverse_of op reply)
element_inverses ElementOp.Add ObjReply.Added F each = each.added
element_inverses ElementOp.Remove ObjReply.Removed F each = each.removed
element_inverses _ _ F each = each.stays

counter_inverses : (op : CounterOp) (reply : ObjReply) (F : Option Presence → Option RecChange → Type 0) → ForInverses F → F None (counter_inverse_of op reply)
counter_inverses (Up n) ObjReply.Done F each = each.lowered n
counter_inverses (Down n) ObjReply.Done F each = each.raised n
counter_inverses _ _ F each = each.stays

pub by_inverse : (item : ObjOp × ObjReply) (F : Option Presence → Option RecChange → Type 0) → ForInverses F → F (presence_of item) (inverse_of item)
by_inverse (Account a op, reply) F each = account_inverses op reply F each
by_inverse (Element s e op, reply) F each = element_inverses op reply F each
by_inverse (Counter c op, reply) F each = counter_inverses op reply F each
by_inverse (Size s, reply) F each = each.stays

-- and one about what undoes a change of the size record of a set
pub by_size_inverse : (item : ObjOp × ObjReply) (F : Option RecChange → Type 0) → ForResizes F → F (size_inverse_of item)
by_size_inverse (Element s e ElementOp.Add, ObjReply.Added) F each = each.lowered
by_size_inverse (Element s e ElementOp.Remove, ObjReply.Removed) F each = each.raised
by_size_inverse _ F each = each.stays
