use Rattle.std.proofs.Common.{◌≡◌, ◌++◌, flat_map, string_bytes}
use Rattle.mlt_object_base.proofs.Names.{account_line}
use Rattle.mlt_object_base.proofs.text.push_accounts.Given as goal

-- what is written, and the lines of what is left, are what stood there and all lines
abbrev pub invariant-loop-account : goal.invariant-loop-account
invariant-loop-account l = string_bytes l.text ++ flat_map account_line l.account-iterator ≡ string_bytes l.initial.text ++ flat_map account_line l.balances.entries
