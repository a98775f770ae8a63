-- What an operation is told of a record and changes of it: a step of its cell, by one of five kinds of change.
use Rattle.std.proofs.Common.{◌≡◌, ℕ, ◌+◌, ◌-◌, ◌%◌, ◌^◌, ◌<◌, ◌≤◌, Bool, true, false, cond, Option, Some, None, is_some, nat_eq, nat_lt, refl, sym, subst, arith, eqb-true, ltb-true}
use Rattle.mlt_tx_meaning.proofs.Names.{Cell, AccountOp, Open, Close, Deposit, Withdraw, Balance, CounterOp, Up, Down, Read, ElementOp, ObjOp, Account, Element, Counter, Size, ObjReply, AccountStep, IsAccount, max_balance, CellStep, CounterStep, ElementStep, cell_of, RecChange, ToGhost, Plus, Minus, reply_of, size_change_of, HasWhatIsUndone, IsElementRecord, IsRecord, counter_of_record, record_after, state_of_record, Presence, Added, Removed, account_amount, account_presence, amount_of, counter_amount, element_presence, presence_of}
use Rattle.mlt_object_base.specs.{declared.record.RecChange.TheVariants.Add, declared.record.RecChange.TheVariants.Set, Effects.account_reply_of, Effects.counter_reply_of, Effects.element_reply_of, Effects.size_reply_of}

-- ---- the step of the cell

-- the reply and the change are a step of an account, and leave a record that it can have
abbrev StepsAccount : AccountOp → Option ℕ → ObjReply × Option RecChange → Type 0
StepsAccount op live r = AccountStep live op r.0 (record_after r.1 live) × IsAccount (record_after r.1 live)

account_steps : (op : AccountOp) (live : Option ℕ) → IsAccount live → account_amount op < 2 ^ 64 → StepsAccount op live (account_reply_of op live)
account_steps Open None can small = ((tt, refl), omega arith)
account_steps Open (Some v) can small = ((can, refl), can)
account_steps Close None can small = ((tt, refl), tt)
account_steps Close (Some v) can small =
    elim (nat_eq v 0) as (λ b. nat_eq v 0 ≡ b → StepsAccount Close (Some v) (cond b (ObjReply.Closed, Some ToGhost) (ObjReply.NotEmpty, None))) [
      | true ↦ λ is. ((eqb-true v 0 is, refl), tt)
      | false ↦ λ is. let some : 1 ≤ v = grind (arith, is) in (((some, can), refl), can)
    ] refl
account_steps (Deposit n) None can small = ((small, refl), tt)
account_steps (Deposit n) (Some v) can small =
    elim (nat_lt max_balance (v + n)) as (λ b. nat_lt max_balance (v + n) ≡ b → StepsAccount (Deposit n) (Some v) (cond b (ObjReply.Over, None) (ObjReply.Done, Some (Set (v + n))))) [
      | true ↦ λ is. (((small, can, ltb-true max_balance (v + n) is), refl), can)
      | false ↦ λ is. let fits : v + n ≤ max_balance = grind (arith, is) in (((small, fits), refl), fits)
    ] refl
account_steps (Withdraw n) None can small = ((small, refl), tt)
account_steps (Withdraw n) (Some v) can small =
    elim (nat_lt v n) as (λ b. nat_lt v n ≡ b → StepsAccount (Withdraw n) (Some v) (cond b (ObjReply.Short, None) (ObjReply.Done, Some (Set (v - n))))) [
      | true ↦ λ is. (((small, can, ltb-true v n is), refl), can)
      | false ↦ λ is. let enough : n ≤ v = grind (arith, is) in let less : v - n ≤ max_balance = omega arith in (((small, can, enough), refl), less)
    ] refl
account_steps Balance None can small = ((tt, refl), tt)
account_steps Balance (Some v) can small = (((can, refl), refl), can)

abbrev StepsElement : ElementOp → Option ℕ → ObjReply × Option RecChange → Type 0
StepsElement op live r = ElementStep (is_some live) op r.0 (is_some (record_after r.1 live)) × IsElementRecord (record_after r.1 live)

element_steps : (op : ElementOp) (live : Option ℕ) → IsElementRecord live → StepsElement op live (element_reply_of op (is_some live))
element_steps ElementOp.Add None can = ((tt, refl), refl)
element_steps ElementOp.Add (Some v) can = ((tt, refl), can)
element_steps ElementOp.Remove None can = ((tt, refl), tt)
element_steps ElementOp.Remove (Some v) can = ((tt, refl), tt)
element_steps ElementOp.Has None can = ((tt, refl), tt)
element_steps ElementOp.Has (Some v) can = ((tt, refl), can)

abbrev StepsCounter : CounterOp → Option ℕ → ObjReply × Option RecChange → Type 0
StepsCounter op live r = CounterStep (counter_of_record live) op r.0 (counter_of_record (record_after r.1 live)) × (counter_of_record (record_after r.1 live) < 2 ^ 64)

counter_steps : (op : CounterOp) (live : Option ℕ) → counter_of_record live < 2 ^ 64 → counter_amount op < 2 ^ 64 → StepsCounter op live (counter_reply_of op live)
counter_steps (Up n) None can small = (((small, can), omega arith), small)
counter_steps (Up n) (Some v) can small = (((small, can), refl), omega arith)
counter_steps (Down n) None can small = (((small, can), omega arith), omega arith)
counter_steps (Down n) (Some v) can small = (((small, can), refl), omega arith)
counter_steps Read None can small = (((can, refl), refl), can)
counter_steps Read (Some v) can small = (((can, refl), refl), can)

-- a size is told, and stays
abbrev StepsSize : ℕ → Option ℕ → ObjReply × Option RecChange → Type 0
StepsSize s live r = CellStep (state_of_record (Cell.Size s) live) (Size s, r.0) (state_of_record (Cell.Size s) (record_after r.1 live)) × IsRecord (Cell.Size s) (record_after r.1 live)

size_steps : (s : ℕ) (live : Option ℕ) → IsRecord (Cell.Size s) live → StepsSize s live (size_reply_of live)
size_steps s None can = (tt, can)
size_steps s (Some v) can = (tt, can)

-- an operation that is told its reply makes the step of its cell, and leaves a record that the cell can have
abbrev pub StepsByRecord : ObjOp → Option ℕ → Type 0
StepsByRecord op live =
    CellStep (state_of_record (cell_of op) live) (op, (reply_of op live).0) (state_of_record (cell_of op) (record_after (reply_of op live).1 live))
    × IsRecord (cell_of op) (record_after (reply_of op live).1 live)

pub reply_steps : (op : ObjOp) (live : Option ℕ) → IsRecord (cell_of op) live → amount_of op < 2 ^ 64 → StepsByRecord op live
reply_steps (Account a op) live can small = account_steps op live can small
reply_steps (Element s e op) live can small = element_steps op live can
reply_steps (Counter c op) live can small = counter_steps op live can small
reply_steps (Size s) live can small = size_steps s live can

-- ---- the kinds of changes

-- it is the cell of a counter, or that of a set's size: their records say a number, and no operation removes them
abbrev pub IsCount : Cell → Type 0
IsCount (Cell.Account a) = ⊥
IsCount (Cell.Element s e) = ⊥
IsCount (Cell.Counter c) = Unit {0}
IsCount (Cell.Size s) = Unit {0}

-- A fact about what was done to the presence of a key, and to its record, is shown for the five kinds that there are.
pub record ForReplies (op : ObjOp) (F : Option Presence → Option RecChange → Type 0) : Type 0 where
  pub added : (v : ℕ) → F (Some Added) (Some (Add v))
  pub removed : F (Some Removed) (Some ToGhost)
  pub updated : (v : ℕ) → F None (Some (Set v))
  pub counted : IsCount (cell_of op) → (v : ℕ) → F None (Some (Add v))
  pub stays : F None None

account_replies : (a : ℕ) (op : AccountOp) (live : Option ℕ) (F : Option Presence → Option RecChange → Type 0) → ForReplies (Account a op) F
    → F (account_presence op (account_reply_of op live).0) (account_reply_of op live).1
account_replies a Open None F each = each.added 0
account_replies a Open (Some v) F each = each.stays
account_replies a Close None F each = each.stays
account_replies a Close (Some v) F each =
    elim (nat_eq v 0) as (λ b. let r : ObjReply × Option RecChange = cond b (ObjReply.Closed, Some ToGhost) (ObjReply.NotEmpty, None) in F (account_presence Close r.0) r.1) [ true ↦ each.removed | false ↦ each.stays ]
account_replies a (Deposit n) None F each = each.stays
account_replies a (Deposit n) (Some v) F each =
    elim (nat_lt max_balance (v + n)) as (λ b. let r : ObjReply × Option RecChange = cond b (ObjReply.Over, None) (ObjReply.Done, Some (Set (v + n))) in F (account_presence (Deposit n) r.0) r.1) [ true ↦ each.stays | false ↦ each.updated (v + n) ]
account_replies a (Withdraw n) None F each = each.stays
account_replies a (Withdraw n) (Some v) F each =
    elim (nat_lt v n) as (λ b. let r : ObjReply × Option RecChange = cond b (ObjReply.Short, None) (ObjReply.Done, Some (Set (v - n))) in F (account_presence (Withdraw n) r.0) r.1) [ true ↦ each.stays | false ↦ each.updated (v - n) ]
account_replies a Balance None F each = each.stays
account_replies a Balance (Some v) F each = each.stays

element_replies : (s e : ℕ) (op : ElementOp) (present : Bool) (F : Option Presence → Option RecChange → Type 0) → ForReplies (Element s e op) F
    → F (element_presence op (element_reply_of op present).0) (element_reply_of op present).1
element_replies s e ElementOp.Add false F each = each.added 0
element_replies s e ElementOp.Add true F each = each.stays
element_replies s e ElementOp.Remove true F each = each.removed
element_replies s e ElementOp.Remove false F each = each.stays
element_replies s e ElementOp.Has true F each = each.stays
element_replies s e ElementOp.Has false F each = each.stays

counter_replies : (c : ℕ) (op : CounterOp) (live : Option ℕ) (F : Option Presence → Option RecChange → Type 0) → ForReplies (Counter c op) F
    → F None (counter_reply_of op live).1
counter_replies c (Up n) None F each = each.counted tt n
counter_replies c (Up n) (Some v) F each = each.updated ((v + n) % 2 ^ 64)
counter_replies c (Down n) None F each = each.counted tt ((2 ^ 64 - n) % 2 ^ 64)
counter_replies c (Down n) (Some v) F each = each.updated ((v + (2 ^ 64 - n)) % 2 ^ 64)
counter_replies c Read None F each = each.stays
counter_replies c Read (Some v) F each = each.stays

size_replies : (s : ℕ) (live : Option ℕ) (F : Option Presence → Option RecChange → Type 0) → ForReplies (Size s) F → F None (size_reply_of live).1
size_replies s None F each = each.stays
size_replies s (Some v) F each = each.stays

pub by_reply : (op : ObjOp) (live : Option ℕ) (F : Option Presence → Option RecChange → Type 0) → ForReplies op F
    → F (presence_of (op, (reply_of op live).0)) (reply_of op live).1
by_reply (Account a op) live F each = account_replies a op live F each
by_reply (Element s e op) live F each = element_replies s e op (is_some live) F each
by_reply (Counter c op) live F each = counter_replies c op live F each
by_reply (Size s) live F each = size_replies s live F each

-- So is a fact about what is done to the size record of a set, for the kinds of that.
pub record ForResizes (F : Option RecChange → Type 0) : Type 0 where
  pub raised : F (Some (Plus 1))
  pub lowered : F (Some (Minus 1))
  pub stays : F None

pub by_size_change : (item : ObjOp × ObjReply) (found : Option ℕ) (F : Option RecChange → Type 0) → F (Some (Add 1)) → ForResizes F → F (size_change_of item found)
by_size_change (Element s e ElementOp.Add, ObjReply.Added) None F made each = made
by_size_change (Element s e ElementOp.Add, ObjReply.Added) (Some v) F made each = each.raised
by_size_change (Element s e ElementOp.Remove, ObjReply.Removed) found F made each = each.lowered
by_size_change _ found F made each = each.stays

-- ---- what counters need to be counted back

-- no operation adds or removes a count
pub count_says_nothing : (item : ObjOp × ObjReply) (c : Cell) → cell_of item.0 ≡ c → IsCount c → presence_of item ≡ None
count_says_nothing (Counter c op, reply) d same on = refl
count_says_nothing (Size s, reply) d same on = refl
count_says_nothing (Account a op, reply) d same on = absurd (subst IsCount (sym same) on)
count_says_nothing (Element s e op, reply) d same on = absurd (subst IsCount (sym same) on)

-- an operation that is told its reply leaves what it needs to be counted back
pub reply_leaves_counters : (op : ObjOp) (live : Option ℕ) → HasWhatIsUndone (op, (reply_of op live).0) (record_after (reply_of op live).1 live)
reply_leaves_counters (Account a op) live = tt
reply_leaves_counters (Element s e op) live = tt
reply_leaves_counters (Counter c (Up n)) None = refl
reply_leaves_counters (Counter c (Up n)) (Some v) = refl
reply_leaves_counters (Counter c (Down n)) None = refl
reply_leaves_counters (Counter c (Down n)) (Some v) = refl
reply_leaves_counters (Counter c Read) live = tt
reply_leaves_counters (Size s) live = tt
