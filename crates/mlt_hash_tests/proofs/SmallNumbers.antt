-- Locks of small numbers are few.
use Rattle.std.proofs.Common.{◌≡◌, ℕ, zero, suc, ◌≤◌, ◌<◌, ◌+◌, true, is_some, sym, ap, subst, ◌∙◌, arith, nat_cmp}
use Rattle.std.{specs.Cmp.nat_cmp_total, proofs.lemmas.Bool.Decides.nat_tests}
use Rattle.std.specs.FinMap as map
use Rattle.mlt_types.specs.declared.mode.Mode.{Mode}
use Rattle.mlt_page_locks.{proofs.Maps.get_inserted, proofs.Maps.get_removed, proofs.Maps.same_entries, proofs.LockLaws.can_read-granted, proofs.LockLaws.can_read-released, proofs.LockLaws.not_some, specs.Requests.Answers, specs.Requests.granted, specs.Requests.released, specs.Requests.with_page, specs.declared.page_locks.Grant.Grant, specs.declared.page_locks.Grant.TheVariants.Held, specs.declared.page_locks.Grant.TheVariants.Waiting}
use Rattle.mlt_page_locks.specs.LockTables.{no_locks, Modes, LockTable, pages_of, HasAtMost}
use Rattle.mlt_hash_tests.specs.Desks.{IsSmall, IsOfSmallNumbers}

-- a map whose keys are below n, or so far above b, has at most twice n entries
keys_within : {X : Type 0} (n b : ℕ) (m : map.FinMap nat_cmp X) → ((k : ℕ) → is_some (map.get m k) ≡ true → n ≤ k → (b ≤ k) × (k < b + n)) → map.len m ≤ n + n
keys_within {X = X} zero b m within =
    let none : m ≡ map.empty = same_entries m map.empty (λ q. not_some (map.get m q) (λ some. let it = within q some (omega arith) in absurd (omega (arith, it.0, it.1))) ∙ sym (map.get-empty {X = X} nat_cmp q)) in
    grind (arith, ap map.len none, map.len-empty nat_cmp X)
keys_within (suc n) b m within =
    let once = map.remove m n in
    let fewer : map.len (map.remove once (b + n)) ≤ n + n = keys_within n b (map.remove once (b + n)) (λ k some more. grind (arith, nat_tests, get_removed m n k, get_removed once (b + n) k, within k)) in
    grind (arith, map.len-remove nat_cmp_total m n, map.len-remove nat_cmp_total once (b + n))

pub few_of_small_numbers : (table : LockTable) → IsOfSmallNumbers table → HasAtMost 32 table
few_of_small_numbers table small = record {
  holders = keys_within 16 4096 table.held small.holders;
  pages = λ tx. keys_within 16 4096 (pages_of table tx) (small.pages tx);
}

pub small_none : (n : ℕ) → IsOfSmallNumbers (no_locks n)
small_none n = record {
  holders = λ tx holds. grind (arith, map.get-empty {X = Modes} nat_cmp tx);
  pages = λ tx q reads. grind (arith, map.get-empty {X = Modes} nat_cmp tx, map.get-empty {X = Mode} nat_cmp q);
}

small_granted : (table : LockTable) (tx q : ℕ) (mode : Mode) → IsOfSmallNumbers table → IsSmall tx → IsSmall q → IsOfSmallNumbers (granted table tx q mode)
small_granted table tx q mode small tx_small q_small = record {
  holders = λ u holds. grind (arith, nat_tests, get_inserted table.held tx (with_page (pages_of table tx) q mode) u, small.holders u, tx_small);
  pages = λ u p reads. grind (arith, nat_tests, can_read-granted table tx q mode u p, small.pages u p, q_small);
}

pub small_released : (table : LockTable) (tx : ℕ) → IsOfSmallNumbers table → IsOfSmallNumbers (released table tx)
small_released table tx small = record {
  holders = λ u holds. grind (arith, nat_tests, get_removed table.held tx u, small.holders u);
  pages = λ u p reads. grind (arith, nat_tests, can_read-released table tx u p, small.pages u p);
}

pub small_answered : (old : LockTable) (tx q : ℕ) (mode : Mode) (grant : Grant) (new : LockTable) → IsOfSmallNumbers old → IsSmall tx → IsSmall q → Answers old tx q mode grant new → IsOfSmallNumbers new × (new.max_open ≡ old.max_open)
small_answered old tx q mode Held new small tx_small q_small is =
    (subst (λ (t : LockTable). IsOfSmallNumbers t) (sym is.1) (small_granted old tx q mode small tx_small q_small), ap (λ (t : LockTable). t.max_open) is.1)
small_answered old tx q mode (Waiting by) new small tx_small q_small is =
    (subst (λ (t : LockTable). IsOfSmallNumbers t) (sym is.1) small, ap (λ (t : LockTable). t.max_open) is.1)
