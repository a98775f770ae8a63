-- A transaction that runs alone: what it may rely on, and what each of its steps keeps
use Rattle.std.specs.Prelude.{ℕ, ◌≡◌, ◌≢◌, ◌≤◌, false, Option, refl}
use Rattle.std.specs.Coded.{Coded, code_by, coded×}
use Rattle.std.specs.FinMap as map
use Rattle.std.specs.FinSet as set
use Rattle.mlt_page.specs.{declared.page.Page.Page, Stores.PageStore, Stores.coded_store}
use Rattle.mlt_hash_form.specs.{Held.over, declared.root.Root.Root}
use Rattle.mlt_page_locks.specs.LockTables.{LockTable, coded_table, is_holder}
use Rattle.mlt_page_subtx.specs.Images.{Running, coded_running}
use Rattle.mlt_hash_access.specs.LocalStates.{MayStep, LocalState, page_before}
use Rattle.mlt_hash.specs.{Walks.WalkContext, Walks.Before, declared.answer.WalkAnswer.WalkAnswer}

-- the transaction may step, and nobody else holds a page
pub record IsAlone (m : LocalState) : Type 0 where
  pub may : MayStep m
  pub alone : (u : ℕ) → u ≢ m.running.tx → is_holder m.locks u ≡ false
  pub places : 1 ≤ m.locks.max_open

-- it holds no page, and has written none
pub record IsIdle (m : LocalState) : Type 0 where
  pub unwritten : m.running.images ≡ map.empty
  pub unheld : m.locks.held ≡ map.empty

-- the pages as they were before the transaction wrote any: where it is alone, the clean pages
abbrev pub pages_before : LocalState → ℕ → Option Page
pages_before m = page_before m.running.images m.store.pages

-- the same with what a walk wrote over them before it went on to its key
abbrev pub pages_since : Before → LocalState → ℕ → Option Page
pages_since since m = over (pages_before m) since.written

-- what each step keeps: whose it is, how many places and pages there may be, and the clean pages
pub record KeepsBefore (old new : LocalState) : Type 0 where
  pub tx : new.running.tx ≡ old.running.tx
  pub max_open : new.locks.max_open ≡ old.locks.max_open
  pub max_pages : new.store.max_pages ≡ old.store.max_pages
  pub pages : (q : ℕ) → pages_before new q ≡ pages_before old q

-- what a walk goes by that did this before, where no transaction is open, so that no ghost keeps its room
abbrev pub context_of : Before → (ℕ → ℕ) → ℕ → ℕ → LocalState → WalkContext
context_of since bits root max_depth m = record {
  bits = bits;
  active = set.empty;
  root = root;
  max_depth = max_depth;
  tx = m.running.tx;
  before = since;
}

-- the same of a transaction that has this root
abbrev pub context_alone : {P : Type 0} → Before → (P → ℕ → ℕ) → Root P → LocalState → WalkContext
context_alone since bits_of root m = context_of since (bits_of root.pseudo) root.page root.max_depth m

-- the walk was not told to wait
abbrev pub HasNotWaited : WalkAnswer → Type 0
HasNotWaited (WalkAnswer.Waiting page by) = ⊥
HasNotWaited other = Unit {0}

-- a state is stored as the triple of its parts
abbrev pub coded_local : Coded LocalState
coded_local =
    code_by (Running × (LockTable × PageStore))
    (coded× coded_running (coded× coded_table coded_store))
    (λ m. (m.running, (m.locks, m.store)))
    (λ p. record { running = p.0; locks = p.1.0; store = p.1.1 })
    (λ _. refl)
