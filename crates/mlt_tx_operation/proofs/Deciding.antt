-- What an operation may decide on
use Rattle.std.proofs.Common.{◌≡◌, ℕ, ◌+◌, ◌-◌, Bool, true, false, nat_lt, ◌==◌, cond, Option, None, Some, refl, sym, ap, ◌∙◌}
use Rattle.mlt_tx_operation.proofs.Names.{false≢true, Mode, Shared, Exclusive, ElementOp, ObjOp, Element, ObjReply, RecChange, Revive}
use Rattle.mlt_object_kinds.specs.{declared.account.AccountOp.AccountOp, declared.counter.CounterOp.TheVariants.Up, declared.counter.CounterOp.TheVariants.Down, declared.counter.CounterOp.TheVariants.Read, declared.operation.ObjOp.TheVariants.Account, declared.operation.ObjOp.TheVariants.Counter, declared.operation.ObjOp.TheVariants.Size, Accounts.max_balance}
use Rattle.mlt_object_kinds.specs.declared.account.AccountOp.TheVariants.{Open, Close, Deposit, Withdraw, Balance}
use Rattle.mlt_object_base.specs.{declared.record.RecChange.TheVariants.Set, declared.record.RecChange.TheVariants.ToGhost, Effects.account_reply_of, Effects.mode_of, Effects.reply_of}
use Rattle.mlt_tx_two_records.proofs.Asking.{is_revival}

either : (b : Bool) (x y : ObjReply × Option RecChange) → is_revival x.1 ≡ false → is_revival y.1 ≡ false → is_revival (cond b x y).1 ≡ false
either true x y first second = first
either false x y first second = second

-- an account asks for no revival
account_never : (op : AccountOp) (found : Option ℕ) → is_revival (account_reply_of op found).1 ≡ false
account_never Open None = refl
account_never Open (Some v) = refl
account_never Close None = refl
account_never Close (Some v) = either (v == 0) (ObjReply.Closed, Some ToGhost) (ObjReply.NotEmpty, None) refl refl
account_never (Deposit n) None = refl
account_never (Deposit n) (Some v) = either (nat_lt max_balance (v + n)) (ObjReply.Over, None) (ObjReply.Done, Some (Set (v + n))) refl refl
account_never (Withdraw n) None = refl
account_never (Withdraw n) (Some v) = either (nat_lt v n) (ObjReply.Short, None) (ObjReply.Done, Some (Set (v - n))) refl refl
account_never Balance None = refl
account_never Balance (Some v) = refl

-- an operation asks for no revival
never : (op : ObjOp) (found : Option ℕ) → is_revival (reply_of op found).1 ≡ false
never (Account a op) found = account_never op found
never (Element s e ElementOp.Add) None = refl
never (Element s e ElementOp.Add) (Some v) = refl
never (Element s e ElementOp.Remove) None = refl
never (Element s e ElementOp.Remove) (Some v) = refl
never (Element s e ElementOp.Has) None = refl
never (Element s e ElementOp.Has) (Some v) = refl
never (Counter c (Up n)) None = refl
never (Counter c (Up n)) (Some v) = refl
never (Counter c (Down n)) None = refl
never (Counter c (Down n)) (Some v) = refl
never (Counter c Read) None = refl
never (Counter c Read) (Some v) = refl
never (Size s) None = refl
never (Size s) (Some v) = refl

-- **Only what takes a removal back asks for a revival.**
pub never_revives : (op : ObjOp) (found : Option ℕ) (reply : ObjReply) → reply_of op found ≡ (reply, Some Revive) → ⊥
never_revives op found reply is = false≢true (sym (never op found) ∙ ap (λ (r : ObjReply × Option RecChange). is_revival r.1) is)

-- whether the mode allows the change
abbrev allows : Mode → Option RecChange → Bool
allows Exclusive change = true
allows Shared None = true
allows Shared (Some change) = false

allowed : (op : ObjOp) (found : Option ℕ) → allows (mode_of op) (reply_of op found).1 ≡ true
allowed (Account a Open) found = refl
allowed (Account a Close) found = refl
allowed (Account a (Deposit n)) found = refl
allowed (Account a (Withdraw n)) found = refl
allowed (Account a Balance) None = refl
allowed (Account a Balance) (Some v) = refl
allowed (Element s e ElementOp.Add) found = refl
allowed (Element s e ElementOp.Remove) found = refl
allowed (Element s e ElementOp.Has) None = refl
allowed (Element s e ElementOp.Has) (Some v) = refl
allowed (Counter c (Up n)) found = refl
allowed (Counter c (Down n)) found = refl
allowed (Counter c Read) None = refl
allowed (Counter c Read) (Some v) = refl
allowed (Size s) None = refl
allowed (Size s) (Some v) = refl

exclusive_by : (mode : Mode) (change : RecChange) → allows mode (Some change) ≡ true → mode ≡ Exclusive
exclusive_by Exclusive change may = refl
exclusive_by Shared change may = absurd (false≢true may)

-- **What changes its record locks the bucket exclusively.**
pub changes_exclusively : (op : ObjOp) (found : Option ℕ) (reply : ObjReply) (change : RecChange) → reply_of op found ≡ (reply, Some change) → mode_of op ≡ Exclusive
changes_exclusively op found reply change is =
    exclusive_by (mode_of op) change (sym (ap (λ (r : ObjReply × Option RecChange). allows (mode_of op) r.1) is) ∙ allowed op found)
