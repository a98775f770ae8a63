-- Which classes of accounts right commute backward: one tactic serves every pair.
use Rattle.std.proofs.Common.{◌≡◌, ℕ, ◌+◌, ◌-◌, ◌≤◌, ◌<◌, ◌^◌, Option, None, Some, true, false, arith, ap}
use Rattle.mlt_object_kinds.specs.{Accounts.max_balance, AccountLaws.level, AccountLaws.level_injective}
use Rattle.mlt_object_conflicts.proofs.Names.{AccountOp, Deposit, Withdraw, AccountClass, Opened, account_marks, account_breach, account_item}
use Rattle.mlt_object_conflicts.specs.declared.accounts.AccountClass.TheVariants.{Exists, Closed, NotEmpty, Deposited, Over, Withdrawn, Short, Balance, Missing}

-- where a class with its amount is legal
abbrev pub Legal : AccountClass → ℕ → Option ℕ → Type 0
Legal Opened n None = Unit {0}
Legal Exists n (Some b) = b ≤ max_balance
Legal Closed n (Some b) = b ≡ 0
Legal NotEmpty n (Some b) = (1 ≤ b) × (b ≤ max_balance)
Legal Deposited n (Some b) = b + n ≤ max_balance
Legal Over n (Some b) = (b ≤ max_balance) × (max_balance < b + n)
Legal Withdrawn n (Some b) = (b ≤ max_balance) × (n ≤ b)
Legal Short n (Some b) = (b ≤ max_balance) × (b < n)
Legal Balance n (Some b) = (b ≤ max_balance) × (b ≡ n)
Legal Missing n None = Unit {0}
Legal _ n _ = ⊥

-- what it leaves there
abbrev pub after : AccountClass → ℕ → Option ℕ → Option ℕ
after Opened n s = Some 0
after Closed n s = None
after Deposited n (Some b) = Some (b + n)
after Withdrawn n (Some b) = Some (b - n)
after _ n s = s

abbrev Commute : AccountClass → AccountClass → ℕ → ℕ → Option ℕ → Type 0
Commute p q n k s =
    account_marks p q ≡ false → Legal p n s → Legal q k (after p n s) →
    Legal q k s × Legal p n (after q k s) × (level (after q k (after p n s)) ≡ level (after p n (after q k s)))

at_none : (p q : AccountClass) (n k : ℕ) → Commute p q n k None
at_none p q n k =
    elim p as (λ p. Commute p q n k None) [
      | Opened ↦ elim q as (λ q. Commute Opened q n k None) [ Opened ↦ λ e h i. first_of (omega arith, cc) | _ ↦ λ e h i. first_of (omega arith, cc) ]
      | p ↦ elim q as (λ q. Commute p q n k None) [ Opened ↦ λ e h i. first_of (omega arith, cc) | _ ↦ λ e h i. first_of (omega arith, cc) ]
    ]

at_some : (p q : AccountClass) (n k b : ℕ) → Commute p q n k (Some b)
at_some p q n k b =
    elim p as (λ p. Commute p q n k (Some b)) [
      | Opened ↦ elim q as (λ q. Commute Opened q n k (Some b)) [ Opened ↦ λ e h i. first_of (omega arith, cc) | _ ↦ λ e h i. first_of (omega arith, cc) ]
      | p ↦ elim q as (λ q. Commute p q n k (Some b)) [ Opened ↦ λ e h i. first_of (omega arith, cc) | _ ↦ λ e h i. first_of (omega arith, cc) ]
    ]

rows_commute : (p q : AccountClass) (n k : ℕ) (s : Option ℕ) → Commute p q n k s
rows_commute p q n k s = elim s as (λ s. Commute p q n k s) [ None ↦ at_none p q n k | Some b ↦ at_some p q n k b ]

-- classes that are not marked right commute backward
pub account_rows_commute : (p q : AccountClass) → account_marks p q ≡ false → (n k : ℕ) (s : Option ℕ) → Legal p n s → Legal q k (after p n s) →
    Legal q k s × Legal p n (after q k s) × (after q k (after p n s) ≡ after p n (after q k s))
account_rows_commute p q free n k s h i = let t = rows_commute p q n k s free h i in (t.0, t.1, level_injective _ _ t.2)

-- the amount is one
abbrev pub Fits : AccountOp → Type 0
Fits (Deposit n) = n < 2 ^ 64
Fits (Withdraw n) = n < 2 ^ 64
Fits _ = Unit {0}

-- the amount that a class has in its row
abbrev pub amount_in : AccountClass → ℕ → ℕ
amount_in Deposited n = n
amount_in Over n = n
amount_in Withdrawn n = n
amount_in Short n = n
amount_in Balance n = n
amount_in _ n = 0

abbrev pub Breaks : AccountClass → AccountClass → ℕ × ℕ × Option ℕ → Type 0
Breaks p q x =
    account_marks p q ≡ true →
    (Legal p (amount_in p x.0) x.2 × Legal q (amount_in q x.1) (after p (amount_in p x.0) x.2)) ×
    (Legal q (amount_in q x.1) x.2 → Legal p (amount_in p x.0) (after q (amount_in q x.1) x.2) →
    level (after q (amount_in q x.1) (after p (amount_in p x.0) x.2)) ≡ level (after p (amount_in p x.0) (after q (amount_in q x.1) x.2)) → ⊥)

breaks : (p q : AccountClass) → Breaks p q (account_breach p q)
breaks p q =
    elim p as (λ p. Breaks p q (account_breach p q)) [
      | Opened ↦ elim q as (λ q. Breaks Opened q (account_breach Opened q)) [ Opened ↦ λ e. first_of (omega arith, cc) | _ ↦ λ e. first_of (omega arith, cc) ]
      | p ↦ elim q as (λ q. Breaks p q (account_breach p q)) [ Opened ↦ λ e. first_of (omega arith, cc) | _ ↦ λ e. first_of (omega arith, cc) ]
    ]

-- the amounts of the breaches are amounts
abbrev BreachFits : AccountClass → AccountClass → Type 0
BreachFits p q = Fits (account_item p (account_breach p q).0).0 × Fits (account_item q (account_breach p q).1).0

pub breach_fits : (p q : AccountClass) → BreachFits p q
breach_fits p q =
    elim p as (λ p. BreachFits p q) [
      | Opened ↦ elim q as (λ q. BreachFits Opened q) [ Opened ↦ first_of (omega arith, grind arith) | _ ↦ first_of (omega arith, grind arith) ]
      | p ↦ elim q as (λ q. BreachFits p q) [ Opened ↦ first_of (omega arith, grind arith) | _ ↦ first_of (omega arith, grind arith) ]
    ]

-- marked classes break at their breach
pub account_rows_break : (p q : AccountClass) → account_marks p q ≡ true → let x = account_breach p q in let n = amount_in p x.0 in let k = amount_in q x.1 in
    Legal p n x.2 × Legal q k (after p n x.2) × (Legal q k x.2 → Legal p n (after q k x.2) → after q k (after p n x.2) ≡ after p n (after q k x.2) → ⊥)
account_rows_break p q marked = let t = breaks p q marked in (t.0.0, t.0.1, λ h i e. t.1 h i (ap level e))
