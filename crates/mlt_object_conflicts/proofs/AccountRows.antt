-- The rows of accounts are those of the table of operations and replies.
use Rattle.std.proofs.Common.{◌≡◌, ℕ, Option, None, Some, refl, arith}
use Rattle.mlt_object_conflicts.proofs.Names.{IsLegalOnAccount, account_after, AccountOp, Deposit, Withdraw, ObjReply, Is, account_class}
use Rattle.mlt_object_kinds.specs.declared.{account.AccountOp.TheVariants.Open, account.AccountOp.TheVariants.Balance, operation.ObjReply.TheVariants.Opened}
use Rattle.mlt_object_conflicts.proofs.{AccountPairs.Legal, AccountPairs.after, AccountPairs.Fits, Rows.RowIsLegal, Rows.row_after, Rows.HasRows}

-- the amount of an operation, or the value that it was told
abbrev pub amount : AccountOp → ObjReply → ℕ
amount (Deposit n) reply = n
amount (Withdraw n) reply = n
amount Balance (Is v) = v
amount _ _ = 0

abbrev RowLegal : AccountOp → ObjReply → Option ℕ → Type 0
RowLegal o r s = RowIsLegal account_class IsLegalOnAccount account_after amount Fits Legal after (account_class o r) (amount o r) s

abbrev Into : AccountOp → ObjReply → Option ℕ → Type 0
Into o r s = IsLegalOnAccount o r s → RowLegal o r s × Fits o

abbrev From : AccountOp → ObjReply → Option ℕ → Type 0
From o r s = RowLegal o r s → Fits o → IsLegalOnAccount o r s

abbrev Next : AccountOp → ObjReply → Option ℕ → Type 0
Next o r s = RowLegal o r s → account_after o r s ≡ row_after account_class IsLegalOnAccount account_after amount Fits Legal after (account_class o r) (amount o r) s

into : (o : AccountOp) (r : ObjReply) (s : Option ℕ) → Into o r s
into o r s =
    elim o as (λ o. Into o r s) [
      | Open ↦ elim r as (λ r. Into Open r s) [
        | Opened ↦ elim s as (λ s. Into Open Opened s) [ None ↦ λ h. grind arith | Some b ↦ λ h. grind arith ]
        | r ↦ elim s as (λ s. Into Open r s) [ None ↦ λ h. grind arith | Some b ↦ λ h. grind arith ]
      ]
      | o ↦ elim r as (λ r. Into o r s) [
        | Opened ↦ elim s as (λ s. Into o Opened s) [ None ↦ λ h. grind arith | Some b ↦ λ h. grind arith ]
        | r ↦ elim s as (λ s. Into o r s) [ None ↦ λ h. grind arith | Some b ↦ λ h. grind arith ]
      ]
    ]

from : (o : AccountOp) (r : ObjReply) (s : Option ℕ) → From o r s
from o r s =
    elim o as (λ o. From o r s) [
      | Open ↦ elim r as (λ r. From Open r s) [
        | Opened ↦ elim s as (λ s. From Open Opened s) [ None ↦ λ h f. grind arith | Some b ↦ λ h f. grind arith ]
        | r ↦ elim s as (λ s. From Open r s) [ None ↦ λ h f. grind arith | Some b ↦ λ h f. grind arith ]
      ]
      | o ↦ elim r as (λ r. From o r s) [
        | Opened ↦ elim s as (λ s. From o Opened s) [ None ↦ λ h f. grind arith | Some b ↦ λ h f. grind arith ]
        | r ↦ elim s as (λ s. From o r s) [ None ↦ λ h f. grind arith | Some b ↦ λ h f. grind arith ]
      ]
    ]

next : (o : AccountOp) (r : ObjReply) (s : Option ℕ) → Next o r s
next o r s =
    elim o as (λ o. Next o r s) [
      | Open ↦ elim r as (λ r. Next Open r s) [
        | Opened ↦ elim s as (λ s. Next Open Opened s) [ None ↦ λ h. refl | Some b ↦ λ h. refl ]
        | r ↦ elim s as (λ s. Next Open r s) [ None ↦ λ h. refl | Some b ↦ λ h. refl ]
      ]
      | o ↦ elim r as (λ r. Next o r s) [
        | Opened ↦ elim s as (λ s. Next o Opened s) [ None ↦ λ h. refl | Some b ↦ λ h. refl ]
        | r ↦ elim s as (λ s. Next o r s) [ None ↦ λ h. refl | Some b ↦ λ h. refl ]
      ]
    ]

pub account_has_rows : HasRows account_class IsLegalOnAccount account_after amount Fits Legal after
account_has_rows = record { into = into; from = from; next = next }
