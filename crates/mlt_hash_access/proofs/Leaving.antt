-- What steps leave, by what they do. The crates of splits and walks cite these.
use Rattle.std.proofs.Common.{◌≡◌, ℕ, refl, inl, inr}
use Rattle.mlt_hash_access.proofs.Names.{Mode, Page, Running, MayStep, LocalState, local, Leaves, LocksPage, MakesLockedPage, TouchesOnePage, WritesHeldPage}
use Rattle.mlt_hash_access.{specs.declared.locked_store.LockedStore.LockedStore, proofs.LocalStates.clean_after_step, proofs.LocalStates.may_after_step}

-- what touches one page leaves clean what was clean, and the transaction may go on
pub leaves : (old new : LocalState) → MayStep old → TouchesOnePage old new → Leaves old new
leaves old new may touches = record {
  touches = touches;
  may = may_after_step old new may touches;
  clean = λ clean is. clean_after_step old new clean may touches is;
}

-- the same state, part by part
pub same_local : (running running' : Running) (pages pages' : LockedStore) → running ≡ running' → pages ≡ pages' → local running pages ≡ local running' pages'
same_local running running' pages pages' same alike i = local (same i) (alike i)

-- a step that did nothing,
pub leaves_it : (old new : LocalState) → MayStep old → new ≡ old → Leaves old new
leaves_it old new may same = leaves old new may (0, inl (old, inl refl, inl same))

-- that made a page,
pub leaves_by_making : (old new : LocalState) (q : ℕ) (page : Page) → MayStep old → MakesLockedPage old new q page → Leaves old new
leaves_by_making old new q page may makes = leaves old new may (q, inr (page, makes))

-- that locked one and went no further,
pub leaves_by_locking : (old mid new : LocalState) (q : ℕ) (mode : Mode) → MayStep old → LocksPage old mid q mode → new ≡ mid → Leaves old new
leaves_by_locking old mid new q mode may locks same = leaves old new may (q, inl (mid, inr (mode, locks), inl same))

-- that locked one and wrote it,
pub leaves_by_rewriting : (old mid new : LocalState) (q : ℕ) (mode : Mode) (page : Page) → MayStep old → LocksPage old mid q mode → WritesHeldPage mid new q page → Leaves old new
leaves_by_rewriting old mid new q mode page may locks writes = leaves old new may (q, inl (mid, inr (mode, locks), inr (page, writes)))

-- or wrote one that was held
pub leaves_by_writing : (old new : LocalState) (q : ℕ) (page : Page) → MayStep old → WritesHeldPage old new q page → Leaves old new
leaves_by_writing old new q page may writes = leaves old new may (q, inl (old, inl refl, inr (page, writes)))
