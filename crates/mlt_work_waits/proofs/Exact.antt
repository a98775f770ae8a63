-- The table of those that may clash has exactly these
use Rattle.std.proofs.Common.{◌≡◌, Bool, true, false, not, ◌&&◌, ◌==◌, refl, MatchBool}
use Rattle.mlt_object_kinds.specs.declared.{account.AccountOp.AccountOp, counter.CounterOp.CounterOp, counter.CounterOp.TheVariants.Up, counter.CounterOp.TheVariants.Down, counter.CounterOp.TheVariants.Read, element.ElementOp.ElementOp, element.ElementOp.TheVariants.Add, element.ElementOp.TheVariants.Remove, element.ElementOp.TheVariants.Has, operation.ObjOp.ObjOp, operation.ObjOp.TheVariants.Account, operation.ObjOp.TheVariants.Element, operation.ObjOp.TheVariants.Counter, operation.ObjOp.TheVariants.Size, operation.ObjReply.ObjReply}
use Rattle.mlt_object_kinds.specs.declared.account.AccountOp.TheVariants.{Open, Close, Deposit, Withdraw, Balance}
use Rattle.mlt_object_conflicts.specs.{AccountTable.account_class, AccountTable.account_marks, CounterTable.counter_class, CounterTable.counter_marks, ElementTable.element_class, ElementTable.element_marks, Clashes.marked_classes, Sizes.changes_told}
use Rattle.mlt_work_waits.specs.Queues.{MayClash, NeverClash, is_one, may_clash, reads_account, reads_counter, reads_element}

-- some replies are marked
abbrev AreMarked : (ObjReply → ObjReply → Bool) → Type 0
AreMarked marked = (r : ObjReply) × (s : ObjReply) × (marked r s ≡ true)

abbrev PassAll : (ObjReply → ObjReply → Bool) → Type 0
PassAll marked = (r s : ObjReply) → marked r s ≡ false

-- what is exact of one object is so where it is asked beside whether both are of one
where_same : (same may : Bool) (marked : ObjReply → ObjReply → Bool) → MatchBool may (AreMarked marked) (PassAll marked)
    → MatchBool (same && may) (AreMarked (λ r s. same && marked r s)) (PassAll (λ r s. same && marked r s))
where_same true may marked exact = exact
where_same false may marked exact = λ r s. refl

abbrev account_marked : AccountOp → AccountOp → ObjReply → ObjReply → Bool
account_marked op other r s = marked_classes account_marks (account_class op r) (account_class other s)

balances_pass : PassAll (account_marked Balance Balance)
balances_pass ObjReply.Missing ObjReply.Missing = refl
balances_pass ObjReply.Missing (ObjReply.Is v) = refl
balances_pass ObjReply.Missing other = refl
balances_pass (ObjReply.Is v) ObjReply.Missing = refl
balances_pass (ObjReply.Is v) (ObjReply.Is w) = refl
balances_pass (ObjReply.Is v) other = refl
balances_pass other s = refl

accounts : (op other : AccountOp)
    → MatchBool (not (reads_account op && reads_account other)) (AreMarked (account_marked op other)) (PassAll (account_marked op other))
accounts Open Open = (ObjReply.Opened, ObjReply.Exists, refl)
accounts Open Close = (ObjReply.Opened, ObjReply.Closed, refl)
accounts Open (Deposit n) = (ObjReply.Opened, ObjReply.Done, refl)
accounts Open (Withdraw n) = (ObjReply.Opened, ObjReply.Done, refl)
accounts Open Balance = (ObjReply.Opened, ObjReply.Is 0, refl)
accounts Close Open = (ObjReply.Closed, ObjReply.Opened, refl)
accounts Close Close = (ObjReply.Closed, ObjReply.Missing, refl)
accounts Close (Deposit n) = (ObjReply.Closed, ObjReply.Missing, refl)
accounts Close (Withdraw n) = (ObjReply.Closed, ObjReply.Missing, refl)
accounts Close Balance = (ObjReply.Closed, ObjReply.Missing, refl)
accounts (Deposit n) Open = (ObjReply.Missing, ObjReply.Opened, refl)
accounts (Deposit n) Close = (ObjReply.Done, ObjReply.Closed, refl)
accounts (Deposit n) (Deposit m) = (ObjReply.Done, ObjReply.Over, refl)
accounts (Deposit n) (Withdraw m) = (ObjReply.Done, ObjReply.Done, refl)
accounts (Deposit n) Balance = (ObjReply.Done, ObjReply.Is 0, refl)
accounts (Withdraw n) Open = (ObjReply.Missing, ObjReply.Opened, refl)
accounts (Withdraw n) Close = (ObjReply.Done, ObjReply.Closed, refl)
accounts (Withdraw n) (Deposit m) = (ObjReply.Done, ObjReply.Done, refl)
accounts (Withdraw n) (Withdraw m) = (ObjReply.Done, ObjReply.Short, refl)
accounts (Withdraw n) Balance = (ObjReply.Done, ObjReply.Is 0, refl)
accounts Balance Open = (ObjReply.Missing, ObjReply.Opened, refl)
accounts Balance Close = (ObjReply.Is 0, ObjReply.Closed, refl)
accounts Balance (Deposit n) = (ObjReply.Is 0, ObjReply.Done, refl)
accounts Balance (Withdraw n) = (ObjReply.Is 0, ObjReply.Done, refl)
accounts Balance Balance = balances_pass

abbrev element_marked : ElementOp → ElementOp → ObjReply → ObjReply → Bool
element_marked op other r s = marked_classes element_marks (element_class op r) (element_class other s)

looks_pass : PassAll (element_marked Has Has)
looks_pass ObjReply.Yes ObjReply.Yes = refl
looks_pass ObjReply.Yes ObjReply.No = refl
looks_pass ObjReply.Yes other = refl
looks_pass ObjReply.No ObjReply.Yes = refl
looks_pass ObjReply.No ObjReply.No = refl
looks_pass ObjReply.No other = refl
looks_pass other s = refl

elements : (op other : ElementOp)
    → MatchBool (not (reads_element op && reads_element other)) (AreMarked (element_marked op other)) (PassAll (element_marked op other))
elements Add Add = (ObjReply.Added, ObjReply.Present, refl)
elements Add Remove = (ObjReply.Added, ObjReply.Removed, refl)
elements Add Has = (ObjReply.Added, ObjReply.Yes, refl)
elements Remove Add = (ObjReply.Removed, ObjReply.Added, refl)
elements Remove Remove = (ObjReply.Removed, ObjReply.Absent, refl)
elements Remove Has = (ObjReply.Removed, ObjReply.No, refl)
elements Has Add = (ObjReply.No, ObjReply.Added, refl)
elements Has Remove = (ObjReply.Yes, ObjReply.Removed, refl)
elements Has Has = looks_pass

abbrev counter_marked : CounterOp → CounterOp → ObjReply → ObjReply → Bool
counter_marked op other r s = marked_classes counter_marks (counter_class op r) (counter_class other s)

-- by any two of these changes
ups_pass : PassAll (counter_marked (Up 0) (Up 0))
ups_pass ObjReply.Done ObjReply.Done = refl
ups_pass ObjReply.Done other = refl
ups_pass other s = refl

reads_pass : PassAll (counter_marked Read Read)
reads_pass (ObjReply.Is v) (ObjReply.Is w) = refl
reads_pass (ObjReply.Is v) other = refl
reads_pass other s = refl

counters : (op other : CounterOp)
    → MatchBool (is_one (reads_counter op) (reads_counter other)) (AreMarked (counter_marked op other)) (PassAll (counter_marked op other))
counters (Up n) (Up m) = ups_pass
counters (Up n) (Down m) = ups_pass
counters (Down n) (Up m) = ups_pass
counters (Down n) (Down m) = ups_pass
counters (Up n) Read = (ObjReply.Done, ObjReply.Is 0, refl)
counters (Down n) Read = (ObjReply.Done, ObjReply.Is 0, refl)
counters Read (Up m) = (ObjReply.Is 0, ObjReply.Done, refl)
counters Read (Down m) = (ObjReply.Is 0, ObjReply.Done, refl)
counters Read Read = reads_pass

abbrev size_marked : ElementOp → ObjReply → ObjReply → Bool
size_marked op r s = changes_told (element_class op r) s

looks_keep : PassAll (size_marked Has)
looks_keep ObjReply.Yes (ObjReply.Is n) = refl
looks_keep ObjReply.Yes other = refl
looks_keep ObjReply.No (ObjReply.Is n) = refl
looks_keep ObjReply.No other = refl
looks_keep other s = refl

sizes : (op : ElementOp) → MatchBool (not (reads_element op)) (AreMarked (size_marked op)) (PassAll (size_marked op))
sizes Add = (ObjReply.Added, ObjReply.Is 0, refl)
sizes Remove = (ObjReply.Removed, ObjReply.Is 0, refl)
sizes Has = looks_keep

sizes_turned : (op : ElementOp) → MatchBool (not (reads_element op)) (AreMarked (λ s r. size_marked op r s)) (PassAll (λ s r. size_marked op r s))
sizes_turned Add = (ObjReply.Is 0, ObjReply.Added, refl)
sizes_turned Remove = (ObjReply.Is 0, ObjReply.Removed, refl)
sizes_turned Has = λ s r. looks_keep r s

-- **They may clash exactly where the table says so.**
pub table_is_exact : (held requested : ObjOp) → MatchBool (may_clash held requested) (MayClash held requested) (NeverClash held requested)
table_is_exact (Account a op) (Account b other) = where_same (a == b) _ (account_marked op other) (accounts op other)
table_is_exact (Element s e op) (Element t f other) = where_same (s == t && e == f) _ (element_marked op other) (elements op other)
table_is_exact (Counter c op) (Counter d other) = where_same (c == d) _ (counter_marked op other) (counters op other)
table_is_exact (Element s e op) (Size t) = where_same (s == t) _ (size_marked op) (sizes op)
table_is_exact (Size s) (Element t f op) = where_same (s == t) _ (λ r answer. size_marked op answer r) (sizes_turned op)
table_is_exact held requested = λ r s. refl
