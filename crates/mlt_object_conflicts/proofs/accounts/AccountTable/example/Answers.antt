use Rattle.std.proofs.Common.{◌≡◌, ℕ, true, Option, sym, subst}
use Rattle.mlt_object_conflicts.proofs.Names.{AccountStep, account_class, account_item, account_marks, paired, IsOfClass, BreaksAt}
use Rattle.mlt_object_conflicts.proofs.AccountExact.{account_breach_breaks}
use Rattle.mlt_object_conflicts.proofs.accounts.AccountTable.example.Goals as goal

pub returns-clause-breaks : goal.returns-clause-breaks
returns-clause-breaks c =
    let held = c.args.held in
    let requested = c.args.requested in
    let marked : account_marks held requested ≡ true = sym c.if-not-conflicts.ensures.table in
    let Breaks : ℕ × ℕ × Option ℕ → Type 0 = λ x.
    IsOfClass account_class (account_item held x.0) held × IsOfClass account_class (account_item requested x.1) requested ×
    BreaksAt (paired AccountStep) x.2 (account_item held x.0) (account_item requested x.1) in
    rw (c.item-first.ensures, c.item-second.ensures) (subst Breaks (sym c.breach-held_amount.ensures) (account_breach_breaks held requested marked))
