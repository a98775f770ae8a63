use Rattle.std.proofs.Common.{◌≡◌, ◌∙◌, ℕ, Some, Result, Ok, Err, OnOk, ap, subst, sym}
use Rattle.mlt_types.specs.declared.{cell.Cell.Cell, refusal.Refusal.Refusal}
use Rattle.mlt_object_kinds.{proofs.BaseLaws.state_beside, proofs.BaseLaws.state_here, specs.Bases.Base, specs.Bases.SameBut, specs.Bases.state_at, specs.Bases.with_state, specs.Cells.CellState.AccountState}
use Rattle.mlt_object_base.specs.Records.{state_of_record}
use Rattle.mlt_manager_invariant.proofs.copying.copy_cell.Goals as goal

module _ (old new : Base) (account value : ℕ) where
  abbrev IsPut : Type 0
  IsPut = new ≡ with_state old (Cell.Account account) (AccountState (Some value))

  holds : (r : Result (Unit {0}) Refusal) (one : Cell) → one ≡ Cell.Account account → OnOk r IsPut → OnOk r (state_at new one ≡ state_of_record one (Some value))
  holds (Ok done) one is put =
      subst (λ (c : Cell). state_at new c ≡ state_of_record c (Some value)) (sym is)
      (ap (λ (b : Base). state_at b (Cell.Account account)) put ∙ state_here old (Cell.Account account) (AccountState (Some value)) tt)
  holds (Err reason) one is put = tt

  others : (r : Result (Unit {0}) Refusal) (one : Cell) → one ≡ Cell.Account account → OnOk r IsPut → OnOk r (SameBut old new one)
  others (Ok done) one is put =
      subst (SameBut old new) (sym is)
      (λ other apart. ap (λ (b : Base). state_at b other) put ∙ state_beside old (Cell.Account account) (AccountState (Some value)) other apart)
  others (Err reason) one is put = tt

pub returns-in-Account-clause-holds : goal.returns-in-Account-clause-holds
returns-in-Account-clause-holds c = holds c.args.base.now c.put_account.new.self c.in-Account.account c.args.value c.put_account.result c.args.cell.now c.in-Account.is c.put_account.ensures.holds

pub returns-in-Account-clause-others : goal.returns-in-Account-clause-others
returns-in-Account-clause-others c = others c.args.base.now c.put_account.new.self c.in-Account.account c.args.value c.put_account.result c.args.cell.now c.in-Account.is c.put_account.ensures.holds
