-- Claim handles of a counter.
use Rattle.std.specs.Prelude.{◌≡◌}
use Rattle.mlt_work.specs.declared.claim_handles.{ClaimView.ClaimView, ClientCounter.ClientCounter, ClaimHandle.ClaimHandle}

-- the handle draws from this counter
abbrev pub IsOf : ClientCounter → ClaimHandle → Type 0
IsOf counter claim_handle = claim_handle.seat.table_id ≡ counter.table.shared.table_id

-- both handles draw from one counter
abbrev pub IsBeside : ClaimHandle → ClaimHandle → Type 0
IsBeside before after = after.seat.table_id ≡ before.seat.table_id

-- what the handle knows
abbrev pub view_of : ClaimHandle → ClaimView
view_of claim_handle = claim_handle.seat.me.0
