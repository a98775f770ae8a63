-- The base to which the history of a manager leads, its clean pages, and what a step does to them
use Rattle.std.specs.Prelude.{ℕ, ◌≡◌, List, [], ◌∷◌, ◌++◌, Option, Some, length, replicate}
use Rattle.std.specs.Ordering.{nat_cmp}
use Rattle.std.specs.FinMap as map
use Rattle.mlt_page.specs.declared.page.Page.{Page}
use Rattle.mlt_object_kinds.specs.{Bases.Base, Bases.Step, Bases.empty_base, declared.operation.ObjOp.ObjOp, declared.operation.ObjReply.ObjReply}
use Rattle.mlt_order.specs.{Histories.IsHistory, Runs.Runs}
use Rattle.mlt_trace.specs.{Entries.entries_of, declared.item.TraceItem.TraceItem}
use Rattle.mlt_object_locks.specs.Locks.{IsLowestClash}
use Rattle.mlt_hash_form.specs.File.{depth_of, header_of}
use Rattle.mlt_object_base.specs.declared.request.Request.TheVariants.{Do}
use Rattle.mlt_event.specs.declared.answer.Answer.{Answer}
use Rattle.mlt_tx.specs.{declared.transaction.At.At, declared.transaction.Transaction.Transaction, Tables.KeepsImage, Tables.KeepsNoImage}
use Rattle.mlt_manager.specs.{Answers.IsOpenAt, Managers.ManagerFields}

-- the history leads to this base from the empty one
abbrev pub HasBase : {P : Type 0} → ManagerFields P → Base → Type 0
HasBase m base = IsHistory Step empty_base (entries_of m.shared.history.items) base

-- the clean pages: each first image that is kept, and any other page as it is stored
pub record HasCleanPages {P : Type 0} (m : ManagerFields P) (clean : map.FinMap nat_cmp Page)
    : Type 0 where
  pub put_back : (number : ℕ) (first : Option Page)
      → KeepsImage m.txs number first → map.get clean number ≡ first
  pub as_stored : (number : ℕ) → KeepsNoImage m.txs number
      → map.get clean number ≡ map.get m.shared.pages.store.pages number

-- what the page of this number is on the clean pages
pub record HasCleanPage {P : Type 0} (m : ManagerFields P) (number : ℕ) (page : Option Page)
    : Type 0 where
  pub clean : map.FinMap nat_cmp Page
  pub is_clean : HasCleanPages m clean
  pub has : map.get clean number ≡ page

-- the depth of the directory, as the header has it on the clean pages
pub record HasDepth {P : Type 0} (m : ManagerFields P) (depth : ℕ) : Type 0 where
  pub clean : map.FinMap nat_cmp Page
  pub is_clean : HasCleanPages m clean
  pub header : map.get clean m.root.page ≡ Some (Page.Head (header_of (map.get clean m.root.page)))
  pub is_depth : depth_of (map.get clean) m.root.page ≡ depth

-- what is clean stays clean, and the history and what is held stay
pub record KeepsWhatCounts {P : Type 0} (old new : ManagerFields P) : Type 0 where
  pub clean : (clean : map.FinMap nat_cmp Page) → HasCleanPages old clean → HasCleanPages new clean
  pub items : new.shared.history.items ≡ old.shared.history.items
  pub held : new.shared.objects.held ≡ old.shared.objects.held

-- this operation is pending
abbrev pub IsPendingWith : ObjOp → At → Type 0
IsPendingWith op (At.Pending o) = o.request ≡ Do op
IsPendingWith op other = ⊥

-- the item would be a step of the base, and clashes with what another transaction holds: this is the lowest such one
pub record IsBlockedBy {P : Type 0} (m : ManagerFields P) (tx : ℕ) (item : ObjOp × ObjReply)
    (by : ℕ) : Type 0 where
  pub steps : (base : Base) → HasBase m base → (next : Base) × Step base item next
  pub lowest : IsLowestClash m.shared.objects.held tx item by

-- the pending operation, with this reply, is blocked
pub record BlocksPending {P : Type 0} (m : ManagerFields P) (tx : ℕ) (item : ObjOp × ObjReply)
    (by : ℕ) : Type 0 where
  pub pending : IsOpenAt m.txs tx (IsPendingWith item.0)
  pub blocked : IsBlockedBy m tx item by

-- the base has made this step, and the history has it
pub record AddsStep {P : Type 0} (old new : ManagerFields P) (tx : ℕ) (item : ObjOp × ObjReply)
    : Type 0 where
  pub items : new.shared.history.items ≡ old.shared.history.items ++ TraceItem.Op tx item ∷ []
  pub leads : (base : Base) → HasBase old base
      → (next : Base) × Step base item next × HasBase new next

-- the pending operation is done
pub record MakesStep {P : Type 0} (old new : ManagerFields P) (tx : ℕ) (item : ObjOp × ObjReply)
    : Type 0 where
  pub pending : IsOpenAt old.txs tx (IsPendingWith item.0)
  pub adds : AddsStep old new tx item

-- The last operation of the transaction is taken back, and these are left: the base is one from which it leads to what it
-- was, and the history has these items more.
pub record TakesStepBack {P : Type 0} (old new : ManagerFields P) (tx : ℕ)
    (left : List (ObjOp × ObjReply)) (last : ObjOp × ObjReply) (added : List TraceItem)
    : Type 0 where
  pub one : Transaction
  pub there : map.get old.txs tx ≡ Some one
  pub entries : one.undo.entries ≡ left ++ last ∷ []
  pub stands : (next : Transaction) → map.get new.txs tx ≡ Some next → next.undo.entries ≡ left
  pub items : new.shared.history.items ≡ old.shared.history.items ++ added
  pub leads : (base : Base) → HasBase old base
      → (before : Base) × Step before last base × HasBase new before

-- What a step does that was told this. Done: the base makes its step, and the history has it.
-- Blocked: it would be a step, but clashes with what another holds. Undone, Aborted: the base is
-- one from which the last operation leads to what it was. Else, and where Blocked: what is clean,
-- the history and what is held stay.
abbrev pub LeavesBase : {P : Type 0} → Answer → ManagerFields P → ManagerFields P → ℕ → Type 0
LeavesBase (Answer.Done reply) old new tx = (op : ObjOp) × MakesStep old new tx (op, reply)
LeavesBase (Answer.Blocked by) old new tx =
    KeepsWhatCounts old new × ((item : ObjOp × ObjReply) × BlocksPending old tx item by)
LeavesBase Answer.Undone old new tx =
    (left : List (ObjOp × ObjReply)) × (last : ObjOp × ObjReply)
    × TakesStepBack old new tx left last (TraceItem.Back tx ∷ [])
LeavesBase Answer.Aborted old new tx =
    (last : ObjOp × ObjReply)
    × TakesStepBack old new tx [] last (TraceItem.Back tx ∷ TraceItem.Abort tx ∷ [])
LeavesBase other old new tx = KeepsWhatCounts old new

-- What a whole operation does that was told this. Done: the base makes its step. Blocked: it would
-- be a step, but clashes with what another holds. Unless Done, what is clean, the history and what
-- is held stay.
abbrev pub WholeLeavesBase : {P : Type 0} → Answer → ManagerFields P → ManagerFields P → ℕ → ObjOp
    → Type 0
WholeLeavesBase (Answer.Done reply) old new tx op = AddsStep old new tx (op, reply)
WholeLeavesBase (Answer.Blocked by) old new tx op =
    KeepsWhatCounts old new × ((reply : ObjReply) × IsBlockedBy old tx (op, reply) by)
WholeLeavesBase other old new tx op = KeepsWhatCounts old new

-- The last operations of the transaction are taken back, one after another: the base is one from which they lead to what it
-- was, and the history has an item for each of them, and then these.
pub record TakesStepsBack {P : Type 0} (old new : ManagerFields P) (tx : ℕ)
    (left : List (ObjOp × ObjReply)) (added : List TraceItem) : Type 0 where
  pub one : Transaction
  pub there : map.get old.txs tx ≡ Some one
  pub taken : List (ObjOp × ObjReply)
  pub entries : one.undo.entries ≡ left ++ taken
  pub items : new.shared.history.items
      ≡ old.shared.history.items ++ (replicate (length taken) (TraceItem.Back tx) ++ added)
  pub leads : (base : Base) → HasBase old base
      → (before : Base) × Runs Step before taken base × HasBase new before

-- What a whole undoing does that was told this: the last operations of the transaction are taken
-- back, one after another, and all of them where it is Aborted.
abbrev pub UndoingLeavesBase : {P : Type 0} → Answer → ManagerFields P → ManagerFields P → ℕ → Type 0
UndoingLeavesBase Answer.Aborted old new tx = TakesStepsBack old new tx [] (TraceItem.Abort tx ∷ [])
UndoingLeavesBase (Answer.Waiting page by) old new tx =
    (left : List (ObjOp × ObjReply)) × TakesStepsBack old new tx left []
UndoingLeavesBase other old new tx = ⊥
