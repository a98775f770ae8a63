-- What a manager of transactions holds
use Rattle.std.specs.Prelude.{ℕ, ◌+◌, Bool, true, false, Option, None, Some, length}
use Rattle.std.specs.Ordering.{nat_cmp}
use Rattle.std.specs.FinMap as map
use Rattle.std.specs.FinSet as set
use Rattle.mlt_object_kinds.specs.Bases.{Base}
use Rattle.mlt_trace.specs.Entries.{entries_of}
use Rattle.mlt_hash_access.specs.{CleanPages.RunningImages, CleanPages.clean_pages, Running.AllRunning}
use Rattle.mlt_page_subtx.specs.Images.{Images}
use Rattle.mlt_tx_meaning.specs.AbstractStates.{AbstractState}
use Rattle.mlt_tx.specs.declared.{shared.SharedState.SharedState, transaction.At.At, transaction.Transaction.Transaction}

-- what the laws see of a manager, with its first images and its base
pub record State : Type 0 where
  -- the function from keys to pseudokeys, the page of the header, how deep the directory may get, and how many operations
  -- a transaction may have
  pub bits : ℕ → ℕ
  pub root : ℕ
  pub max_depth : ℕ
  pub max_ops : ℕ
  -- the pages with their locks, the object locks and the history
  pub shared : SharedState
  -- The open transactions, the first images that each of them keeps, and their numbers. The numbers up to `begun` were
  -- given out.
  pub txs : map.FinMap nat_cmp Transaction
  pub images : RunningImages
  pub active : set.FinSet nat_cmp
  pub begun : ℕ
  -- the base that the history leads to
  pub base : Base

-- the running subtransactions of a state
abbrev pub all_of : State → AllRunning
all_of s = record {
  images = s.images;
  locks = s.shared.pages.locks;
  store = s.shared.pages.store;
}

-- whether the abort of a transaction has begun that is at this
abbrev pub is_undoing : At → Bool
is_undoing (At.Undoing inverting) = true
is_undoing other = false

abbrev pub is_undoing_at : Option Transaction → Bool
is_undoing_at None = false
is_undoing_at (Some t) = is_undoing t.at

-- of each number, whether its abort has begun
abbrev pub undoing_of : map.FinMap nat_cmp Transaction → ℕ → Bool
undoing_of txs i = is_undoing_at (map.get txs i)

-- the abstract state of a state: its clean pages and its history
abbrev pub abstract_state_of : State → AbstractState
abstract_state_of s = record {
  bits = s.bits;
  root = s.root;
  max_depth = s.max_depth;
  pages = clean_pages s.images s.shared.pages.store.pages;
  begun = s.begun;
  active = s.active;
  undoing = undoing_of s.txs;
  history = entries_of s.shared.history.items;
  base = s.base;
}

-- the images of a transaction, if it is open
abbrev pub images_kept : Option Transaction → Option Images
images_kept None = None
images_kept (Some t) = Some t.subtx.images

-- for how many items of the history a transaction has room: one that closes it, one for each operation that may be taken
-- back, and two for a pending one, which may be done and taken back
abbrev pub pending_room : At → ℕ
pending_room (At.Pending o) = 2
pending_room other = 0

abbrev pub room_of : Transaction → ℕ
room_of t = 1 + length t.undo.entries + pending_room t.at
