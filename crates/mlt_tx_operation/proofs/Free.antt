-- Locks where nobody else holds a page
use Rattle.std.proofs.Common.{◌≡◌, ℕ, false, Option, None, Some, is_some, unwrap_or, refl, sym, ap, ◌∙◌, inl, inr, arith, nat_cmp}
use Rattle.std.specs.FinMap as map
use Rattle.mlt_tx_operation.proofs.Names.{false≢true, Mode, Exclusive, Shared, can_write, pages_of, released, NobodyHolds}
use Rattle.std.proofs.lemmas.Bool.{cases_eq, Decides.nat_tests}
use Rattle.mlt_page_subtx.proofs.ImageLaws.{not_true}
use Rattle.mlt_page_locks.{specs.LockTables.LockTable, specs.LockTables.Modes, specs.LockTables.can_read, specs.LockTables.is_holder, specs.Requests.IsNobody, specs.Requests.conflicts, specs.Requests.granted, specs.Requests.with_page, proofs.LockLaws.can_read-granted, proofs.LockLaws.conflicts-exclusive, proofs.LockLaws.conflicts-shared, proofs.LockLaws.writer_reads, proofs.Maps.get_inserted, proofs.Maps.get_removed, proofs.Maps.same_entries}

-- nobody but tx reads a page
abbrev pub NoOtherReads : ℕ → LockTable → Type 0
NoOtherReads tx locks = (u q : ℕ) → (u ≡ tx → ⊥) → can_read locks u q ≡ false

none_by : (held : Option Modes) (q : ℕ) → is_some held ≡ false → is_some (map.get (unwrap_or held map.empty) q) ≡ false
none_by None q is = ap is_some (map.get-empty {X = Mode} nat_cmp q)
none_by (Some modes) q is = absurd (false≢true (sym is))

-- where nobody holds a page, nobody reads one,
pub nobody_reads : (locks : LockTable) (tx : ℕ) → NobodyHolds locks → NoOtherReads tx locks
nobody_reads locks tx free u q ne = none_by (map.get locks.held u) q (free u)

-- and nobody writes one
pub nobody_writes : (locks : LockTable) (u q : ℕ) → NobodyHolds locks → can_write locks u q ≡ false
nobody_writes locks u q free =
    not_true (can_write locks u q) (λ writes. false≢true (sym (none_by (map.get locks.held u) q (free u)) ∙ writer_reads locks u q writes))

-- Then no lock of tx is refused,
pub nobody_stands : (locks : LockTable) (tx q : ℕ) (mode : Mode) → NoOtherReads tx locks → IsNobody (conflicts locks tx q mode)
nobody_stands locks tx q Exclusive free u =
    elim (cases_eq u tx) [
      | inl own ↦ grind (arith, nat_tests, conflicts-exclusive locks tx q u, own)
      | inr other ↦ grind (arith, nat_tests, conflicts-exclusive locks tx q u, free u q other)
    ]
nobody_stands locks tx q Shared free u =
    elim (cases_eq u tx) [
      | inl own ↦ grind (arith, nat_tests, conflicts-shared locks tx q u, own)
      | inr other ↦
          let none : can_write locks u q ≡ false = not_true (can_write locks u q) (λ writes. false≢true (sym (free u q other) ∙ writer_reads locks u q writes)) in
          grind (arith, nat_tests, conflicts-shared locks tx q u, none)
    ]

-- and it is still so once one is granted.
pub nobody_still : (locks : LockTable) (tx q : ℕ) (mode : Mode) → NoOtherReads tx locks → NoOtherReads tx (granted locks tx q mode)
nobody_still locks tx q mode free u p other = grind (arith, nat_tests, can_read-granted locks tx q mode u p, free u p other)

-- who ends gives back what it was granted
pub released-granted : (locks : LockTable) (tx q : ℕ) (mode : Mode) → released (granted locks tx q mode) tx ≡ released locks tx
released-granted locks tx q mode =
    let modes : Modes = with_page (pages_of locks tx) q mode in
    let same : map.remove (map.insert locks.held tx modes) tx ≡ map.remove locks.held tx =
    same_entries (map.remove (map.insert locks.held tx modes) tx) (map.remove locks.held tx) (λ u.
    grind (arith, nat_tests, get_removed (map.insert locks.held tx modes) tx u, get_removed locks.held tx u, get_inserted locks.held tx modes u)) in
    λ i. record { held = same i; max_open = locks.max_open }

none_held : (held : Option Modes) → is_some held ≡ false → held ≡ None
none_held None is = refl
none_held (Some modes) is = absurd (false≢true (sym is))

-- and who holds nothing has nothing to give back
pub released_nothing : (locks : LockTable) (tx : ℕ) → is_holder locks tx ≡ false → released locks tx ≡ locks
released_nothing locks tx none =
    let gone : map.get locks.held tx ≡ None = none_held (map.get locks.held tx) none in
    let same : map.remove locks.held tx ≡ locks.held =
    same_entries (map.remove locks.held tx) locks.held (λ u.
    elim (cases_eq u tx) [
      | inl own ↦ grind (arith, nat_tests, get_removed locks.held tx u, own, gone)
      | inr other ↦ grind (arith, nat_tests, get_removed locks.held tx u, other)
    ]) in
    λ i. record { held = same i; max_open = locks.max_open }
