-- What is always true of a manager stays so, where one transaction changes
use Rattle.mlt_manager.proofs.Names.{zero, false≢true, nat_cmp_total, Base, commit_count, RunningImages, SharedState, Transaction, IsSound, IsTraced, IsManager, ManagerFields, state_of, counted}
use Rattle.std.proofs.Common.{suc, ◌≡◌, ◌≤◌, ℕ, ◌+◌, ◌-◌, true, false, Some, is_some, refl, sym, ap, subst, ◌∙◌, arith, nat_cmp}
use Rattle.std.specs.FinMap as map
use Rattle.std.specs.FinSet as set
use Rattle.mlt_manager.proofs.Counts.{KeepsCounts}

-- a table with one entry more, changed or fewer
pub len_added : {X : Type 0} (m : map.FinMap nat_cmp X) (k : ℕ) (x : X) → is_some (map.get m k) ≡ false → map.len (map.insert m k x) ≡ map.len m + 1
len_added m k x none = grind (arith, none, map.len-insert nat_cmp_total m k x)

pub len_changed : {X : Type 0} (m : map.FinMap nat_cmp X) (k : ℕ) (x : X) → is_some (map.get m k) ≡ true → map.len (map.insert m k x) ≡ map.len m
len_changed m k x some = grind (arith, some, map.len-insert nat_cmp_total m k x)

pub len_removed : {X : Type 0} (m : map.FinMap nat_cmp X) (k : ℕ) → is_some (map.get m k) ≡ true → map.len (map.remove m k) ≡ map.len m - 1
len_removed m k some = grind (arith, some, map.len-remove nat_cmp_total m k)

pub nobody : {X : Type 0} (m : map.FinMap nat_cmp X) (k : ℕ) → is_some (map.get m k) ≡ true → map.len m ≡ 0 → ⊥
nobody {X} m k some is =
    let empty : m ≡ map.empty = map.empty_of_len m is in
    false≢true (sym (ap is_some (ap (λ (t : map.FinMap nat_cmp X). map.get t k) empty ∙ map.get-empty {X = X} nat_cmp k)) ∙ some)

positive : (n : ℕ) → (n ≡ 0 → ⊥) → 1 ≤ n
positive zero not = absurd (not refl)
positive (suc n) not = omega arith

some_len : {X : Type 0} (m : map.FinMap nat_cmp X) (k : ℕ) → is_some (map.get m k) ≡ true → 1 ≤ map.len m
some_len m k some = positive (map.len m) (nobody m k some)

-- a set with one number more or fewer
pub set_added : (s : set.FinSet nat_cmp) (k : ℕ) → set.contains s k ≡ false → set.len (set.insert s k) ≡ set.len s + 1
set_added s k none = grind (arith, none, set.len-insert nat_cmp_total s k)

pub set_removed : (s : set.FinSet nat_cmp) (k : ℕ) → set.contains s k ≡ true → set.len (set.remove s k) ≡ set.len s - 1
set_removed s k some = grind (arith, some, set.len-remove nat_cmp_total s k)

-- the same manager
pub same_manager : {P : Type 0} (bits_of : P → ℕ → ℕ) (m core : ManagerFields P) → m ≡ core → IsManager bits_of core → IsManager bits_of m
same_manager bits_of m core same h = subst (IsManager bits_of) (sym same) h

-- what is always true, with the limits apart
pub record IsStill {P : Type 0} (bits_of : P → ℕ → ℕ) (m : ManagerFields P) : Type 0 where
  pub images : RunningImages
  pub base : Base
  pub sound : IsSound (state_of bits_of m images base)
  pub traced : IsTraced (state_of bits_of m images base)

module _ {P : Type 0} (bits_of : P → ℕ → ℕ) (m : ManagerFields P) (h : IsManager bits_of m) where
  -- one more event
  pub counted_keeps : IsManager bits_of (counted m)
  counted_keeps = record {
    images = h.images;
    base = h.base;
    sound = h.sound;
    traced = h.traced;
    limits = assumption h.limits;
  }

  pub is_counted : (m' : ManagerFields P) → m' ≡ counted m → IsManager bits_of m'
  is_counted m' same = same_manager bits_of m' (counted m) same counted_keeps

  -- an open transaction has changed
  module _ (tx : ℕ) (before after : Transaction) (shared : SharedState) (was : map.get m.txs tx ≡ Some before) (counts : KeepsCounts m.shared shared) where
    same_len : map.len (map.insert m.txs tx after) ≡ map.len m.txs
    same_len = len_changed m.txs tx after (ap is_some was)

    pub changed_keeps : IsStill bits_of (record m { shared = shared; txs = map.insert m.txs tx after }) → IsManager bits_of (record m { shared = shared; txs = map.insert m.txs tx after })
    changed_keeps still = record {
      images = still.images;
      base = still.base;
      sound = still.sound;
      traced = still.traced;
      limits = record {
        locks_for = counts.locks ∙ h.limits.locks_for;
        pages_for = counts.pages ∙ h.limits.pages_for;
        few_open = omega (arith, h.limits.few_open, same_len);
        open_in_set = h.limits.open_in_set ∙ sym same_len;
        set_holds = h.limits.set_holds;
        few_ids = h.limits.few_ids;
        ids_fit = h.limits.ids_fit;
        ops_fit = h.limits.ops_fit;
        ended = omega (arith, h.limits.ended, same_len);
        counted = h.limits.counted ∙ sym counts.commits;
      };
    }

  -- an open transaction is open no more
  module _ (tx commits : ℕ) (before : Transaction) (shared : SharedState) (was : map.get m.txs tx ≡ Some before) where
    one_fewer : map.len (map.remove m.txs tx) ≡ map.len m.txs - 1
    one_fewer = len_removed m.txs tx (ap is_some was)

    one_fewer_open : set.len (set.remove m.active tx) ≡ set.len m.active - 1
    one_fewer_open = set_removed m.active tx (h.sound.opened tx ∙ ap is_some was)

    some_open : 1 ≤ map.len m.txs
    some_open = some_len m.txs tx (ap is_some was)

    pub removed_keeps : shared.pages.locks.max_open ≡ m.shared.pages.locks.max_open → shared.pages.store.max_pages ≡ m.shared.pages.store.max_pages
        → commits ≡ commit_count shared.history.items → commits ≤ m.commits + 1
        → IsStill bits_of (record m { shared = shared; txs = map.remove m.txs tx; active = set.remove m.active tx })
        → IsManager bits_of (record m { shared = shared; txs = map.remove m.txs tx; active = set.remove m.active tx; commits = commits })
    removed_keeps locks pages count few still = record {
      images = still.images;
      base = still.base;
      sound = still.sound;
      traced = still.traced;
      limits = record {
        locks_for = locks ∙ h.limits.locks_for;
        pages_for = pages ∙ h.limits.pages_for;
        few_open = omega (arith, h.limits.few_open, one_fewer);
        open_in_set = omega (arith, h.limits.open_in_set, one_fewer, one_fewer_open);
        set_holds = h.limits.set_holds;
        few_ids = h.limits.few_ids;
        ids_fit = h.limits.ids_fit;
        ops_fit = h.limits.ops_fit;
        ended = omega (arith, h.limits.ended, one_fewer, some_open, few);
        counted = count;
      };
    }
