-- What a transaction's own step leaves of what it saw and wrote
use Rattle.std.proofs.Common.{◌≡◌, ℕ, true, Option, None, Some, is_some, sym, ap, ◌∙◌, inl, inr}
use Rattle.mlt_hash_access.proofs.Names.{cases_eq, Mode, Page, page_at, Running, seen_as, MayStep, LocalState, LocksAtMost, LocksPage, TouchesOnePage, WritesAtMost, MakesPage, ReadsPage, View, view_of}
use Rattle.mlt_hash_access.proofs.Views.{lock_reads, make_makes, write_writes}

-- a page that is locked is there, and is read
pub lock_reads_some : (old new : LocalState) (q : ℕ) (mode : Mode) → MayStep old → LocksPage old new q mode → (page : Page) × ReadsPage (view_of old) (view_of new) q mode (Some page)
lock_reads_some old new q mode may step =
    let page = seen_as (page_at old.store.pages q) step.there in
    (page.0, lock_reads old new q mode page.0 may step page.1)

-- what a view sees the later one sees
abbrev SeesMore : View → View → Type 0
SeesMore old new = (q : ℕ) (first : Option Page) → old.seen q ≡ Some first → new.seen q ≡ Some first

same_sees : (old new : LocalState) → new ≡ old → SeesMore (view_of old) (view_of new)
same_sees old new same q first sees = ap (λ m. (view_of m).seen q) same ∙ sees

lock_sees : (old new : LocalState) (q : ℕ) → MayStep old → LocksAtMost old new q → SeesMore (view_of old) (view_of new)
lock_sees old new q may (inl same) = same_sees old new same
lock_sees old new q may (inr lock) = (lock_reads_some old new q lock.0 may lock.1).1.before

write_sees : (old new : LocalState) (q : ℕ) → WritesAtMost old new q → SeesMore (view_of old) (view_of new)
write_sees old new q (inl same) p first sees = same_sees old new same p first sees
write_sees old new q (inr write) p first sees = (write_writes old new q write.0 write.1).seen p ∙ sees

make_sees : (old new : View) (q : ℕ) (page : Page) → MakesPage old new q page → SeesMore old new
make_sees old new q page makes p first sees =
    elim (cases_eq p q) [
      | inl here ↦ let none : None ≡ Some first = sym makes.fresh ∙ sym (ap old.seen here) ∙ sees in cc
      | inr elsewhere ↦ makes.seen_others p elsewhere ∙ sees
    ]

-- **A transaction's own step lets what it sees only grow.**
pub own_step_sees_more : (old new : LocalState) (q : ℕ) (first : Option Page) → MayStep old → TouchesOnePage old new → (view_of old).seen q ≡ Some first → (view_of new).seen q ≡ Some first
own_step_sees_more old new q first may (p, inl step) sees = write_sees step.0 new p step.2 q first (lock_sees old step.0 p may step.1 q first sees)
own_step_sees_more old new q first may (p, inr make) sees = make_sees (view_of old) (view_of new) p make.0 (make_makes old new p make.0 may make.1) q first sees

-- what a view has written the later one has
abbrev WritesMore : View → View → Type 0
WritesMore old new = (q : ℕ) → is_some (old.own q) ≡ true → is_some (new.own q) ≡ true

same_writes : (old new : LocalState) → new ≡ old → WritesMore (view_of old) (view_of new)
same_writes old new same q own = ap (λ (m : LocalState). is_some ((view_of m).own q)) same ∙ own

lock_writes : (old new : LocalState) (q : ℕ) → MayStep old → LocksAtMost old new q → WritesMore (view_of old) (view_of new)
lock_writes old new q may (inl same) p own = same_writes old new same p own
lock_writes old new q may (inr lock) p own = ap is_some ((lock_reads_some old new q lock.0 may lock.1).1.own p) ∙ own

write_writes_on : (old new : LocalState) (q : ℕ) → WritesAtMost old new q → WritesMore (view_of old) (view_of new)
write_writes_on old new q (inl same) p own = same_writes old new same p own
write_writes_on old new q (inr write) p own =
    let writes = write_writes old new q write.0 write.1 in
    elim (cases_eq p q) [
      | inl here ↦ ap (λ p. is_some ((view_of new).own p)) here ∙ ap is_some writes.here
      | inr elsewhere ↦ ap is_some (writes.others p elsewhere) ∙ own
    ]

make_writes : (old new : View) (q : ℕ) (page : Page) → MakesPage old new q page → WritesMore old new
make_writes old new q page makes p own =
    elim (cases_eq p q) [
      | inl here ↦ ap (λ p. is_some (new.own p)) here ∙ ap is_some makes.own_here
      | inr elsewhere ↦ ap is_some (makes.own_others p elsewhere) ∙ own
    ]

-- **What it has written stays written.**
pub own_step_writes_more : (old new : LocalState) → MayStep old → TouchesOnePage old new → WritesMore (view_of old) (view_of new)
own_step_writes_more old new may (p, inl step) q own = write_writes_on step.0 new p step.2 q (lock_writes old step.0 p may step.1 q own)
own_step_writes_more old new may (p, inr make) q own = make_writes (view_of old) (view_of new) p make.0 (make_makes old new p make.0 may make.1) q own

lock_keeps_tx : (old new : LocalState) (q : ℕ) → LocksAtMost old new q → new.running.tx ≡ old.running.tx
lock_keeps_tx old new q (inl same) = ap (λ (m : LocalState). m.running.tx) same
lock_keeps_tx old new q (inr lock) = ap (λ (r : Running). r.tx) lock.1.running

write_keeps_tx : (old new : LocalState) (q : ℕ) → WritesAtMost old new q → new.running.tx ≡ old.running.tx
write_keeps_tx old new q (inl same) = ap (λ (m : LocalState). m.running.tx) same
write_keeps_tx old new q (inr write) = ap (λ (r : Running). r.tx) write.1.running

-- its transaction stays the one that it is
pub step_keeps_tx : (old new : LocalState) → TouchesOnePage old new → new.running.tx ≡ old.running.tx
step_keeps_tx old new (q, inl step) = write_keeps_tx step.0 new q step.2 ∙ lock_keeps_tx old step.0 q step.1
step_keeps_tx old new (q, inr make) = ap (λ (r : Running). r.tx) make.1.running
