-- What the clean pages, and the history, fix: the base, and the reply to each operation.
use Rattle.std.proofs.Common.{◌≡◌, ℕ, ◌<◌, ◌^◌, Option, Some, None, sym, subst, arith}
use Rattle.mlt_tx_meaning.proofs.Names.{IsInRange, AccountOp, Open, Close, Deposit, Withdraw, Balance, CounterOp, Up, Down, Read, ObjOp, Account, Element, Counter, Size, ObjReply, AccountStep, Base, Step, empty_base, CellState, CellStep, AccountState, ElementState, CounterState, NoState, CounterStep, cell_of, Means, reply_of, record_after, state_of_record, base_functional, base_injective, IsHistory, no_lists, live_records, account_amount, amount_of, counter_amount, PagesMeanHistory, AbstractState, record_of}
use Rattle.mlt_object_kinds.{proofs.BaseLaws.base_one_answer, proofs.BaseLaws.step_to, specs.Bases.with_state}
use Rattle.mlt_object_base.proofs.{Meanings.one_meaning, OperationChanges.tells_size}
use Rattle.mlt_order.proofs.Growing.{follow_to_one}
use Rattle.mlt_tx_meaning.{specs.Presences.IsOpInRange, proofs.Replies.reply_steps}

-- an operation that is a step has an amount in range
account_small : (op : AccountOp) (reply : ObjReply) (s t : Option ℕ) → AccountStep s op reply t → account_amount op < 2 ^ 64
account_small Open reply s t step = omega arith
account_small Close reply s t step = omega arith
account_small Balance reply s t step = omega arith
account_small (Deposit n) ObjReply.Done (Some b) t step = step.0.0
account_small (Deposit n) ObjReply.Over (Some b) t step = step.0.0
account_small (Deposit n) ObjReply.Missing None t step = step.0
account_small (Deposit n) _ _ t step = absurd step.0
account_small (Withdraw n) ObjReply.Done (Some b) t step = step.0.0
account_small (Withdraw n) ObjReply.Short (Some b) t step = step.0.0
account_small (Withdraw n) ObjReply.Missing None t step = step.0
account_small (Withdraw n) _ _ t step = absurd step.0

counter_small : (op : CounterOp) (reply : ObjReply) (s t : ℕ) → CounterStep s op reply t → counter_amount op < 2 ^ 64
counter_small (Up n) ObjReply.Done s t step = step.0.0
counter_small (Up n) _ s t step = absurd step.0
counter_small (Down n) ObjReply.Done s t step = step.0.0
counter_small (Down n) _ s t step = absurd step.0
counter_small Read reply s t step = omega arith

step_small : (op : ObjOp) (reply : ObjReply) (s t : CellState) → CellStep s (op, reply) t → amount_of op < 2 ^ 64
step_small (Account a op) reply (AccountState s) (AccountState t) step = account_small op reply s t step
step_small (Element s e op) reply (ElementState p) (ElementState q) step = omega arith
step_small (Counter c op) reply (CounterState s) (CounterState t) step = counter_small op reply s t step
step_small (Size s) reply NoState NoState step = omega arith
step_small _ reply _ _ step = absurd (first_of (cc, grind arith))

module _ (state : AbstractState) (op : ObjOp) (h : PagesMeanHistory state) (range : IsInRange (cell_of op)) where
  -- the reply by the record is a step,
  steps_by_record : amount_of op < 2 ^ 64 → (after : Base) × Step state.base (op, (reply_of op (record_of state op)).0) after
  steps_by_record small =
      let r = reply_of op (record_of state op) in
      let after = state_of_record (cell_of op) (record_after r.1 (record_of state op)) in
      let cell = (reply_steps op (record_of state op) (h.records.means.can_be (cell_of op) range) small).0 in
      (with_state state.base (cell_of op) after, step_to state.base (op, r.0) after (subst (λ (s : CellState). CellStep s (op, r.0) after) (sym (h.records.means.holds (cell_of op) range)) cell) (tells_size (live_records state.pages) state.base op h.records.means range))

  -- and no other reply is
  pub step_fixes : (reply : ObjReply) (after : Base) → Step state.base (op, reply) after → reply ≡ (reply_of op (record_of state op)).0
  step_fixes reply after step =
      let by_record = steps_by_record (step_small op reply _ _ step.0) in
      (base_one_answer state.base after by_record.0 op reply (reply_of op (record_of state op)).0 step by_record.1).0

pub step_there : (state : AbstractState) (op : ObjOp) → PagesMeanHistory state → IsOpInRange op → (after : Base) × Step state.base (op, (reply_of op (record_of state op)).0) after
step_there state op h is = steps_by_record state op h is.cell is.amount

pub pages_fix : (state : AbstractState) (other : Base) → PagesMeanHistory state → Means (live_records state.pages) other → other ≡ state.base
pages_fix state other h means = one_meaning (live_records state.pages) other state.base means h.records.means

pub history_fixes : (state : AbstractState) (other : Base) → PagesMeanHistory state → IsHistory Step empty_base state.history other → other ≡ state.base
history_fixes state other h leads = follow_to_one Step base_functional base_injective state.history no_lists empty_base other state.base leads h.records.history
