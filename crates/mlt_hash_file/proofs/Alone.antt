-- A transaction that runs alone: what each of its steps keeps, and what it reads of the store
use Rattle.std.proofs.Common.{◌≡◌, ◌≢◌, ℕ, ◌≤◌, false, Option, None, unwrap_or, refl, sym, ap, subst, ◌∙◌, inl, inr, arith, nat_cmp, rules}
use Rattle.std.specs.FinMap as map
use Rattle.mlt_hash_file.proofs.Names.{Before, LocalState, MayStep, Leaves, HasWritten, view_of, view_over, IsAlone, KeepsBefore, pages_before, pages_since, Agrees, over, page_at, writer_reads, get_inserted, LockTable, Modes, Exclusive, nat_tests}
use Rattle.mlt_types.specs.declared.mode.Mode.{Mode}
use Rattle.mlt_page_locks.specs.Requests.{IsLowest, conflicts, granted, is_against, with_page}
use Rattle.mlt_page_locks.specs.LockTables.{allows_write, is_holder, pages_of}
use Rattle.mlt_page_subtx.proofs.ImageLaws.{not_there}
use Rattle.mlt_hash_access.{proofs.LocalStates.is_locked, proofs.LocalStates.is_made, proofs.LocalStates.is_written, proofs.OwnSteps.step_keeps_tx, proofs.Rebased.written_over, proofs.Since.agrees_over, proofs.Since.over_since, specs.LocalStates.IsCleanFor, specs.PageSteps.LocksAtMost, specs.PageSteps.TouchesOnePage, specs.PageSteps.WritesAtMost, specs.Views.IsUnwrittenSince}

-- the others have no place among the locks,
pub no_place : (m : LocalState) (u : ℕ) → IsAlone m → u ≢ m.running.tx → map.get m.locks.held u ≡ None
no_place m u alone ne = not_there (map.get m.locks.held u) (alone.alone u ne)

-- so they hold no page in any mode
no_mode : (m : LocalState) (u q : ℕ) → IsAlone m → u ≢ m.running.tx → map.get (pages_of m.locks u) q ≡ None
no_mode m u q alone ne = ap (λ (o : Option Modes). map.get (unwrap_or o map.empty) q) (no_place m u alone ne) ∙ map.get-empty {X = Mode} nat_cmp q

-- so nothing stands against a lock
pub nobody_to_wait_for : (m : LocalState) (q by : ℕ) (mode : Mode) → IsAlone m → IsLowest (conflicts m.locks m.running.tx q mode) by → ⊥
nobody_to_wait_for m q by mode alone lowest =
    let free : by ≢ m.running.tx → is_against (map.get (pages_of m.locks by) q) mode ≡ false = λ differ. ap (λ (o : Option Mode). is_against o mode) (no_mode m by q alone differ) in
    grind (arith, nat_tests, free, lowest.has_it)

-- what stood before is clean
pub before_is_clean : (m : LocalState) → MayStep m → IsCleanFor m (pages_before m)
before_is_clean m may = record { seen = λ q free. refl; there = λ q some. grind (arith, may.images_there q, some) }

-- and over that its own writes are what is in the store
written_over_before : (m : LocalState) (q : ℕ) → MayStep m → over (pages_before m) (view_of m).own q ≡ page_at m.store.pages q
written_over_before m q may = grind (arith, may.images_there q, may.images_locked q, writer_reads m.locks m.running.tx q)

-- **A walk that went on to its key sees what stood then,**
pub sees_since : (since : Before) (m : LocalState) → MayStep m → Agrees (view_over since.written m).seen (pages_since since m)
sees_since since m may = agrees_over since.written m (pages_before m) may (before_is_clean m may)

-- **and with its own writes over that it sees the store.**
pub store_is_since : (since : Before) (m : LocalState) → MayStep m → HasWritten since.written (view_of m) → over (pages_since since m) (view_over since.written m).own ≡ page_at m.store.pages
store_is_since since m may written i q = (written_over (since.written q) ((view_of m).own q) (pages_before m q) (λ some. (written q some).1) ∙ written_over_before m q may) i

-- so where it has written nothing since, the store is as it was then
pub unwritten_store : (since : Before) (m : LocalState) → MayStep m → HasWritten since.written (view_of m) → IsUnwrittenSince since.written (view_over since.written m) → page_at m.store.pages ≡ pages_since since m
unwritten_store since m may written unwritten = sym (store_is_since since m may written) ∙ over_since since.written (view_over since.written m) unwritten (pages_since since m) (sees_since since m may)

-- what a step keeps apart from the pages
record KeepsBounds (old new : LocalState) : Type 0 where
  max_open : new.locks.max_open ≡ old.locks.max_open
  max_pages : new.store.max_pages ≡ old.store.max_pages
  holders : (u : ℕ) → u ≢ old.running.tx → is_holder new.locks u ≡ is_holder old.locks u

holder_granted : (locks : LockTable) (tx q : ℕ) (mode : Mode) (u : ℕ) → u ≢ tx → is_holder (granted locks tx q mode) u ≡ is_holder locks u
holder_granted locks tx q mode u ne = grind (arith, nat_tests, get_inserted locks.held tx (with_page (pages_of locks tx) q mode) u)

lock_keeps : (old new : LocalState) (q : ℕ) → LocksAtMost old new q → KeepsBounds old new
lock_keeps old new q (inl same) = search rules
lock_keeps old new q (inr lock) =
    subst (KeepsBounds old) (sym (is_locked old new q lock.0 lock.1)) (record { max_open = refl; max_pages = refl; holders = holder_granted old.locks old.running.tx q lock.0 })

write_keeps : (old mid new : LocalState) (q : ℕ) → KeepsBounds old mid → WritesAtMost mid new q → KeepsBounds old new
write_keeps old mid new q keeps (inl same) = subst (KeepsBounds old) (sym same) keeps
write_keeps old mid new q keeps (inr write) =
    subst (KeepsBounds old) (sym (is_written mid new q write.0 write.1)) (record { max_open = keeps.max_open; max_pages = keeps.max_pages; holders = keeps.holders })

step_keeps : (old new : LocalState) → TouchesOnePage old new → KeepsBounds old new
step_keeps old new (q, inl step) = write_keeps old step.0 new q (lock_keeps old step.0 q step.1) step.2
step_keeps old new (q, inr make) =
    subst (KeepsBounds old) (sym (is_made old new q make.0 make.1)) (record { max_open = refl; max_pages = refl; holders = holder_granted old.locks old.running.tx q Exclusive })

-- **A transaction is alone still once it has made a step,**
pub alone_after_step : (old new : LocalState) → IsAlone old → Leaves old new → IsAlone new
alone_after_step old new alone leaves =
    let keeps = step_keeps old new leaves.touches in
    record {
      may = leaves.may;
      alone = λ u ne. let differs : u ≢ old.running.tx = λ same. ne (same ∙ sym (step_keeps_tx old new leaves.touches)) in keeps.holders u differs ∙ alone.alone u differs;
      places = subst (λ (n : ℕ). 1 ≤ n) (sym keeps.max_open) alone.places;
    }

-- **and the pages stand as they stood before.**
pub step_keeps_before : (old new : LocalState) → IsAlone old → Leaves old new → KeepsBefore old new
step_keeps_before old new alone leaves =
    let keeps = step_keeps old new leaves.touches in
    let clean : IsCleanFor new (pages_before old) = leaves.clean (pages_before old) (before_is_clean old alone.may) in
    let pages : (q : ℕ) → pages_before new q ≡ pages_before old q = λ q. sym (clean.seen q (λ u ne. ap allows_write (no_mode new u q (alone_after_step old new alone leaves) ne))) in
    search (rules, step_keeps_tx old new leaves.touches)

pub keeps_both : (old mid new : LocalState) → KeepsBefore old mid → KeepsBefore mid new → KeepsBefore old new
keeps_both old mid new first next = search rules
