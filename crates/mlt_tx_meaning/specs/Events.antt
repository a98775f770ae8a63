-- What the events of transactions make of an abstract state, and what they ask.
use Rattle.std.specs.Prelude.{ℕ, ◌≡◌, ◌≢◌, ◌+◌, Bool, true, false, List, [], ◌∷◌, ◌++◌, Contains}
use Rattle.std.specs.Ordering.{nat_cmp}
use Rattle.std.specs.FinMap as map
use Rattle.std.specs.FinSet as set
use Rattle.mlt_page.specs.declared.page.Page.{Page}
use Rattle.mlt_object_kinds.specs.{Bases.Base, Bases.empty_base, declared.operation.ObjOp.ObjOp, declared.operation.ObjReply.ObjReply}
use Rattle.mlt_order.specs.Histories.Entry.{Begun, Did, TookBack, Committed, Closed}
use Rattle.mlt_object_conflicts.specs.Clashes.{clashes}
use Rattle.mlt_tx_meaning.specs.{Presences.IsOpInRange, AbstractStates.AbstractState, AbstractStates.lists_in}

-- nothing has begun
abbrev pub new_state : (ℕ → ℕ) → ℕ → ℕ → map.FinMap nat_cmp Page → (ℕ → Bool) → AbstractState
new_state bits root max_depth pages undoing = record {
  bits = bits;
  root = root;
  max_depth = max_depth;
  pages = pages;
  begun = 0;
  active = set.empty;
  undoing = undoing;
  history = [];
  base = empty_base;
}

-- the next number is given out
abbrev pub with_begun : AbstractState → (ℕ → Bool) → AbstractState
with_begun state undoing = record state {
  begun = state.begun + 1;
  active = set.insert state.active (state.begun + 1);
  undoing = undoing;
  history = state.history ++ Begun (state.begun + 1) ∷ [];
}

-- transaction tx commits, or is closed
abbrev pub with_committed : AbstractState → ℕ → (ℕ → Bool) → AbstractState
with_committed state tx undoing = record state {
  active = set.remove state.active tx;
  undoing = undoing;
  history = state.history ++ Committed tx ∷ [];
}

abbrev pub with_closed : AbstractState → ℕ → (ℕ → Bool) → AbstractState
with_closed state tx undoing = record state {
  active = set.remove state.active tx;
  undoing = undoing;
  history = state.history ++ Closed tx ∷ [];
}

-- transaction tx did the item
abbrev pub with_done : AbstractState → ℕ → ObjOp × ObjReply → map.FinMap nat_cmp Page → Base → AbstractState
with_done state tx item pages base = record state {
  pages = pages;
  history = state.history ++ Did tx item ∷ [];
  base = base;
}

-- the last item of transaction tx is taken back
abbrev pub with_undone : AbstractState → ℕ → map.FinMap nat_cmp Page → Base → AbstractState
with_undone state tx pages base = record state {
  pages = pages;
  history = state.history ++ TookBack tx ∷ [];
  base = base;
}

-- the transaction is open
abbrev pub IsOpenAt : AbstractState → ℕ → Type 0
IsOpenAt state tx = set.contains state.active tx ≡ true

-- transaction tx may do the item: it is open, its abort has not begun, and nobody else holds a clash
pub record MayDo (state : AbstractState) (tx : ℕ) (item : ObjOp × ObjReply) : Type 0 where
  pub is_open : IsOpenAt state tx
  pub forward : state.undoing tx ≡ false
  pub in_range : IsOpInRange item.0
  pub free : (j : ℕ) (held : ObjOp × ObjReply) → j ≢ tx → Contains ((lists_in state).held j) held → clashes held item ≡ false

-- the item is the next one that transaction tx takes back
pub record MayUndo (state : AbstractState) (tx : ℕ) (item : ObjOp × ObjReply) : Type 0 where
  pub is_open : IsOpenAt state tx
  pub backward : state.undoing tx ≡ true
  pub rest : List (ObjOp × ObjReply)
  pub last : (lists_in state).transcripts tx ≡ rest ++ item ∷ []
