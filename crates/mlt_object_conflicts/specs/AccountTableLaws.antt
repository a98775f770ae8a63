-- Each class of accounts has an operation that is told its reply in some state.
use Rattle.std.specs.Prelude.{None, Some, refl}
use Rattle.std.proofs.Common.{arith}
use Rattle.mlt_object_kinds.specs.Accounts.{AccountStep, max_balance}
use Rattle.mlt_object_conflicts.specs.{declared.accounts.AccountClass.AccountClass, AccountTable.account_class, AccountTable.account_item, Tables.HasLegalItem}
use Rattle.mlt_object_conflicts.specs.declared.accounts.AccountClass.TheVariants.{Opened, Exists, Closed, NotEmpty, Deposited, Over, Withdrawn, Short, Balance, Missing}

pub account_legal_item : (class : AccountClass) → HasLegalItem AccountStep account_class class
account_legal_item Opened = (None, account_item Opened 0, Some 0, refl, (tt, refl))
account_legal_item Exists = (Some 0, account_item Exists 0, Some 0, refl, (omega arith, refl))
account_legal_item Closed = (Some 0, account_item Closed 0, None, refl, (refl, refl))
account_legal_item NotEmpty =
    (Some 1, account_item NotEmpty 0, Some 1, refl, ((omega arith, omega arith), refl))
account_legal_item Deposited =
    (Some 0, account_item Deposited 0, Some 0, refl, ((omega arith, omega arith), refl))
account_legal_item Over = (
  Some max_balance,
  account_item Over 1,
  Some max_balance,
  refl,
  ((omega arith, omega arith, omega arith), refl),
)
account_legal_item Withdrawn = (
  Some 0,
  account_item Withdrawn 0,
  Some 0,
  refl,
  ((omega arith, omega arith, omega arith), refl),
)
account_legal_item Short =
    (Some 0, account_item Short 1, Some 0, refl, ((omega arith, omega arith, omega arith), refl))
account_legal_item Balance =
    (Some 0, account_item Balance 0, Some 0, refl, ((omega arith, refl), refl))
account_legal_item Missing = (None, account_item Missing 0, None, refl, (tt, refl))
