use Rattle.mlt_object_base.proofs.Texts.{accounts_text}
use Rattle.mlt_object_base.proofs.accounts.Accounts.push_text.Goals as goal

pub returns-clause-text : goal.returns-clause-text
returns-clause-text c =
    accounts_text c.push_accounts.result _ _ c.self.inside.balances.entries c.args.self.now c.self.view_is c.push_accounts.ensures.text c.push_accounts.ensures.by_number
