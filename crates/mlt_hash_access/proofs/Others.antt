-- What a step of one transaction leaves of the others': their locks, the pages that they hold, and what they wrote
use Rattle.std.proofs.Common.{◌≡◌, ◌≢◌, ℕ, Bool, false, true, cond, Option, None, Some, is_some, refl, sym, ap, subst, ◌∙◌, inl, inr, arith}
use Rattle.std.specs.FinMap as map
use Rattle.mlt_hash_access.proofs.Names.{cases_eq, false≢true, nat_tests, Mode, Exclusive, Page, Pages, PageStore, page_at, get_inserted, KeepsOthers, LockTable, Modes, allows_write, can_read, can_write, pages_of, Running, image_of, or_image, MayStep, LocalState, page_before, LocksAtMost, TouchesOnePage, WritesAtMost, page_written, view_of}
use Rattle.mlt_page_locks.proofs.LockLaws.{granted_keeps_others}
use Rattle.mlt_page_subtx.specs.Images.{AreThere}
use Rattle.mlt_hash_access.{specs.LocalStates.beside, specs.PageSteps.LocksPage, specs.PageSteps.MakesLockedPage, specs.PageSteps.WritesHeldPage, specs.Views.IsSameView, proofs.LocalStates.fresh_is_free, proofs.LocalStates.may_after_lock_at_most, proofs.LocalStates.there_after_insert}

-- a step on pages of the transaction tx: others' locks stay, and so do the pages that they hold, and no page goes
record LeavesOthers (tx : ℕ) (old new : LocalState) : Type 0 where
  locks : KeepsOthers tx old.locks new.locks
  pages : (u p : ℕ) → u ≢ tx → can_read old.locks u p ≡ true → page_at new.store.pages p ≡ page_at old.store.pages p
  there : (p : ℕ) → is_some (page_at old.store.pages p) ≡ true → is_some (page_at new.store.pages p) ≡ true
  running : new.running.tx ≡ old.running.tx

-- who reads pages by these locks reads the same by those that have the same pages
reads_alike : (old new : LockTable) (u p : ℕ) → pages_of new u ≡ pages_of old u → can_read new u p ≡ can_read old u p
reads_alike old new u p same = ap (λ (modes : Modes). is_some (map.get modes p)) same

leaves_nothing : (old new : LocalState) → new ≡ old → LeavesOthers old.running.tx old new
leaves_nothing old new same = subst (λ (m : LocalState). LeavesOthers old.running.tx old m) (sym same) (record { locks = λ u ne. refl; pages = λ u p ne reads. refl; there = λ p some. some; running = refl })

lock_leaves : (old new : LocalState) (q : ℕ) (mode : Mode) → LocksPage old new q mode → LeavesOthers old.running.tx old new
lock_leaves old new q mode step =
    let pages : new.store.pages ≡ old.store.pages = ap (λ (s : PageStore). s.pages) step.store in
    record {
      locks = subst (λ (locks : LockTable). KeepsOthers old.running.tx old.locks locks) (sym step.locks) (granted_keeps_others old.locks old.running.tx q mode);
      pages = λ u p ne reads. ap (λ (pages : Pages). page_at pages p) pages;
      there = λ p some. ap (λ (pages : Pages). is_some (page_at pages p)) pages ∙ some;
      running = ap (λ (r : Running). r.tx) step.running;
    }

-- a page stays for those who don't hold the one that is put in
unheld_stays : (locks : LockTable) (pages : Pages) (q : ℕ) (page : Page) (u p : ℕ) → (can_read locks u q ≡ true → ⊥) → can_read locks u p ≡ true → page_at (map.insert pages q page) p ≡ page_at pages p
unheld_stays locks pages q page u p unheld reads =
    elim (cases_eq p q) [
      | inl here ↦ absurd (unheld (subst (λ p. can_read locks u p ≡ true) here reads))
      | inr elsewhere ↦ grind (arith, nat_tests, get_inserted pages q page p)
    ]

write_leaves : (old new : LocalState) (q : ℕ) (page : Page) → MayStep old → WritesHeldPage old new q page → LeavesOthers old.running.tx old new
write_leaves old new q page may step =
    let pages : new.store.pages ≡ map.insert old.store.pages q page = ap (λ (s : PageStore). s.pages) step.store in
    record {
      locks = λ u ne. ap (λ (locks : LockTable). pages_of locks u) step.locks;
      pages = λ u p ne reads. ap (λ (pages : Pages). page_at pages p) pages ∙ unheld_stays old.locks old.store.pages q page u p (λ held. ne (sym (may.compatible old.running.tx u q step.held held))) reads;
      there = λ p some. ap (λ (pages : Pages). is_some (page_at pages p)) pages ∙ there_after_insert old.store.pages q page p some;
      running = ap (λ (r : Running). r.tx) step.running;
    }

make_leaves : (old new : LocalState) (q : ℕ) (page : Page) → MayStep old → MakesLockedPage old new q page → LeavesOthers old.running.tx old new
make_leaves old new q page may step =
    let pages : new.store.pages ≡ map.insert old.store.pages q page = ap (λ (s : PageStore). s.pages) step.store in
    record {
      locks = subst (λ (locks : LockTable). KeepsOthers old.running.tx old.locks locks) (sym step.locks) (granted_keeps_others old.locks old.running.tx q Exclusive);
      pages = λ u p ne reads. ap (λ (pages : Pages). page_at pages p) pages ∙ unheld_stays old.locks old.store.pages q page u p (λ held. false≢true (sym (fresh_is_free old.locks old.store.pages u q may.locks_there step.fresh) ∙ held)) reads;
      there = λ p some. ap (λ (pages : Pages). is_some (page_at pages p)) pages ∙ there_after_insert old.store.pages q page p some;
      running = ap (λ (r : Running). r.tx) step.running;
    }

both_leave : (tx : ℕ) (old mid new : LocalState) → LeavesOthers tx old mid → LeavesOthers tx mid new → LeavesOthers tx old new
both_leave tx old mid new first next = record {
  locks = λ u ne. next.locks u ne ∙ first.locks u ne;
  pages = λ u p ne reads. next.pages u p ne (reads_alike old.locks mid.locks u p (first.locks u ne) ∙ reads) ∙ first.pages u p ne reads;
  there = λ p some. next.there p (first.there p some);
  running = next.running ∙ first.running;
}

lock_at_most_leaves : (old new : LocalState) (q : ℕ) → LocksAtMost old new q → LeavesOthers old.running.tx old new
lock_at_most_leaves old new q step =
    elim step [
      | inl same ↦ leaves_nothing old new same
      | inr locks ↦ lock_leaves old new q locks.0 locks.1
    ]

write_at_most_leaves : (old new : LocalState) (q : ℕ) → MayStep old → WritesAtMost old new q → LeavesOthers old.running.tx old new
write_at_most_leaves old new q may step =
    elim step [
      | inl same ↦ leaves_nothing old new same
      | inr writes ↦ write_leaves old new q writes.0 may writes.1
    ]

step_leaves : (old new : LocalState) → MayStep old → TouchesOnePage old new → LeavesOthers old.running.tx old new
step_leaves old new may step =
    elim step.1 [
      | inl both ↦
          let mid = both.0 in
          let first = lock_at_most_leaves old mid step.0 both.1 in
          let next = write_at_most_leaves mid new step.0 (may_after_lock_at_most old mid step.0 may both.1) both.2 in
          both_leave old.running.tx old mid new first (subst (λ (tx : ℕ). LeavesOthers tx mid new) first.running next)
      | inr makes ↦ make_leaves old new step.0 makes.0 may makes.1
    ]

-- **A step leaves the locks of all other transactions,**
pub step_keeps_others : (old new : LocalState) → MayStep old → TouchesOnePage old new → KeepsOthers old.running.tx old.locks new.locks
step_keeps_others old new may step = (step_leaves old new may step).locks

-- the pages that they hold,
pub step_keeps_held_pages : (old new : LocalState) → MayStep old → TouchesOnePage old new → (u p : ℕ) → u ≢ old.running.tx → can_read old.locks u p ≡ true → page_at new.store.pages p ≡ page_at old.store.pages p
step_keeps_held_pages old new may step = (step_leaves old new may step).pages

-- and each page in its place.
pub step_drops_no_page : (old new : LocalState) → MayStep old → TouchesOnePage old new → (p : ℕ) → is_some (page_at old.store.pages p) ≡ true → is_some (page_at new.store.pages p) ≡ true
step_drops_no_page old new may step = (step_leaves old new may step).there

pub same_where_held : {X : Type 0} (b c : Bool) (x y z : X) → c ≡ b → (b ≡ true → y ≡ x) → cond c y z ≡ cond b x z
same_where_held true c x y z same is = ap (λ b. cond b y z) same ∙ is refl
same_where_held false c x y z same is = ap (λ b. cond b y z) same

pub same_view : (old new : LocalState) (running : Running) → MayStep old → TouchesOnePage old new → (running.tx ≢ old.running.tx)
    → IsSameView (view_of (beside old running)) (view_of (beside new running))
same_view old new running may step ne =
    let leaves = step_leaves old new may step in
    let locks = leaves.locks running.tx ne in
    record {
      modes = locks;
      seen = λ q. same_where_held (can_read old.locks running.tx q) (can_read new.locks running.tx q) (Some (page_before running.images old.store.pages q)) (Some (page_before running.images new.store.pages q)) None (reads_alike old.locks new.locks running.tx q locks)
          (λ reads. ap (λ (page : Option Page). Some (or_image (image_of running.images q) page)) (leaves.pages running.tx q ne reads));
      own = λ q. same_where_held (can_read old.locks running.tx q) (can_read new.locks running.tx q) (page_written (image_of running.images q) (page_at old.store.pages q)) (page_written (image_of running.images q) (page_at new.store.pages q)) None (reads_alike old.locks new.locks running.tx q locks)
          (λ reads. ap (page_written (image_of running.images q)) (leaves.pages running.tx q ne reads));
    }

pub same_writes : (old new : LocalState) (running : Running) → MayStep old → TouchesOnePage old new → (running.tx ≢ old.running.tx)
    → AreThere running.images old.store.pages → ((q : ℕ) → is_some (image_of running.images q) ≡ true → can_write old.locks running.tx q ≡ true)
    → AreThere running.images new.store.pages × ((q : ℕ) → is_some (image_of running.images q) ≡ true → can_write new.locks running.tx q ≡ true)
same_writes old new running may step ne there locked =
    let leaves = step_leaves old new may step in (
      λ q some. leaves.there q (there q some),
      λ q some. ap (λ (modes : Modes). allows_write (map.get modes q)) (leaves.locks running.tx ne) ∙ locked q some,
    )
