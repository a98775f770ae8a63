-- What a contract sees of a manager, and what is always true of it
use Rattle.std.specs.Prelude.{ℕ, ◌≡◌, ◌<◌, ◌≤◌, ◌+◌, ◌^◌, refl}
use Rattle.std.specs.{Coded.Coded, Coded.code_by, Coded.coded×, Coded.coded_ℕ, Ordering.nat_cmp}
use Rattle.std.specs.FinMap as map
use Rattle.std.specs.FinSet as set
use Rattle.mlt_object_kinds.specs.Bases.{Base}
use Rattle.mlt_trace.specs.Numbers.{commit_count}
use Rattle.mlt_hash_form.specs.declared.root.Root.{Root}
use Rattle.mlt_hash_access.specs.CleanPages.{RunningImages}
use Rattle.mlt_tx.specs.{declared.shared.SharedState.SharedState, contracts.shared.SharedState.the_row as shared_row, contracts.transaction.Transaction.the_row as transaction_row, Tables.Table}
use Rattle.mlt_manager_invariant.specs.{Sound.IsSound, States.State, Traced.IsTraced}

-- what contracts see of a manager
pub record ManagerFields (P : Type 0) : Type 0 where
  -- how many transactions may be open, how many numbers are given out in all, how many pages there may be, and how many
  -- operations a transaction may have
  pub max_open : ℕ
  pub max_ids : ℕ
  pub max_pages : ℕ
  pub max_ops : ℕ
  -- where the hash file begins, how deep its directory may get, and the function from keys to pseudokeys
  pub root : Root P
  -- the pages with their locks, the object locks, and the history
  pub shared : SharedState
  -- the open transactions, and their numbers
  pub txs : Table
  pub active : set.FinSet nat_cmp
  -- how many numbers were given out, how many transactions committed, and how many events there were
  pub begun : ℕ
  pub commits : ℕ
  pub events : ℕ

-- the state of the laws, with these first images and this base
abbrev pub state_of : {P : Type 0} → (P → ℕ → ℕ) → ManagerFields P → RunningImages → Base → State
state_of bits_of m images base = record {
  bits = bits_of m.root.pseudo;
  root = m.root.page;
  max_depth = m.root.max_depth;
  max_ops = m.max_ops;
  shared = m.shared;
  txs = m.txs;
  images = images;
  active = m.active;
  begun = m.begun;
  base = base;
}

-- it is within its limits, and it counts its commits
pub record IsWithinLimits {P : Type 0} (m : ManagerFields P) : Type 0 where
  pub locks_for : m.shared.pages.locks.max_open ≡ m.max_open
  pub pages_for : m.shared.pages.store.max_pages ≡ m.max_pages
  pub few_open : map.len m.txs ≤ m.max_open
  pub open_in_set : set.len m.active ≡ map.len m.txs
  pub set_holds : m.max_open ≤ 64
  pub few_ids : m.begun ≤ m.max_ids
  pub ids_fit : m.max_ids < 2 ^ 63
  pub ops_fit : m.max_ops ≤ 1024
  pub ended : m.commits + map.len m.txs ≤ m.begun
  pub counted : m.commits ≡ commit_count m.shared.history.items

-- What is always true of a manager. The first images are those that its transactions keep, and the base is the one to
-- which its history leads.
pub record IsManager {P : Type 0} (bits_of : P → ℕ → ℕ) (m : ManagerFields P) : Type 0 where
  pub images : RunningImages
  pub base : Base
  pub sound : IsSound (state_of bits_of m images base)
  pub traced : IsTraced (state_of bits_of m images base)
  pub limits : IsWithinLimits m

-- a manager is stored as the tuple of its parts
abbrev pub manager_code : {P : Type 0} → Coded P → Coded (ManagerFields P)
manager_code {P = P} pseudo =
    code_by (ℕ × (ℕ × (ℕ × (ℕ × (ℕ × (ℕ × (P
    × (SharedState × (Table × (set.FinSet nat_cmp × (ℕ × (ℕ × ℕ))))))))))))
    (coded× coded_ℕ (coded× coded_ℕ (coded× coded_ℕ (coded× coded_ℕ
    (coded× coded_ℕ (coded× coded_ℕ (coded× pseudo
    (coded× shared_row.coded (coded× (map.code coded_ℕ transaction_row.coded)
    (coded× (set.code coded_ℕ) (coded× coded_ℕ (coded× coded_ℕ coded_ℕ))))))))))))
    (λ m. (
      m.max_open,
      (
        m.max_ids,
        (
          m.max_pages,
          (
            m.max_ops,
            (
              m.root.page,
              (
                m.root.max_depth,
                (
                  m.root.pseudo,
                  (m.shared, (m.txs, (m.active, (m.begun, (m.commits, m.events))))),
                ),
              ),
            ),
          ),
        ),
      ),
    ))
    (λ p. record {
      max_open = p.0;
      max_ids = p.1.0;
      max_pages = p.1.1.0;
      max_ops = p.1.1.1.0;
      root = record { page = p.1.1.1.1.0; max_depth = p.1.1.1.1.1.0; pseudo = p.1.1.1.1.1.1.0 };
      shared = p.1.1.1.1.1.1.1.0;
      txs = p.1.1.1.1.1.1.1.1.0;
      active = p.1.1.1.1.1.1.1.1.1.0;
      begun = p.1.1.1.1.1.1.1.1.1.1.0;
      commits = p.1.1.1.1.1.1.1.1.1.1.1.0;
      events = p.1.1.1.1.1.1.1.1.1.1.1.1;
    })
    (λ _. refl)
