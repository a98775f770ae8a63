-- The state after each step on a page, and what every step keeps: that its transaction may step, and which pages are clean
use Rattle.std.proofs.Common.{◌≡◌, ◌≢◌, ℕ, ◌<◌, ◌≤◌, false, true, Option, None, is_some, sym, ap, subst, ◌∙◌, inl, inr, arith, nat_cmp}
use Rattle.mlt_hash_access.proofs.Names.{nat_cmp_total, cases_eq, false≢true, nat_tests, Mode, Exclusive, Page, PageStore, Pages, page_at, get_inserted, LockTable, can_read, can_write, page_count, pages_of, IsNobody, conflicts, granted, stronger, with_page, pages_of-granted, Images, image_of, with_image, fresh_has_no_image, image_of-with_image, not_true, IsCleanFor, MayStep, LocalState, page_before, LocksAtMost, LocksPage, MakesLockedPage, TouchesOnePage, WritesAtMost, WritesHeldPage}
use Rattle.std.specs.FinMap as map
use Rattle.mlt_page_locks.{specs.LockTables.AreCompatible, specs.LockTables.HasRoom, proofs.LockLaws.can_write-granted, proofs.LockLaws.compatible_granted, proofs.LockLaws.conflicts-exclusive, proofs.LockLaws.page_count-granted}
use Rattle.mlt_page_subtx.{specs.Images.started, proofs.ImageLaws.there_made, proofs.ImageLaws.there_none, proofs.ImageLaws.there_written, specs.Locking.LocksPagesThere, proofs.LockedPages.locks_there-granted, proofs.LockedPages.locks_there-written}

-- the state once page q is locked
abbrev pub locked : LocalState → ℕ → Mode → LocalState
locked m q mode = record { running = m.running; locks = granted m.locks m.running.tx q mode; store = m.store }

-- once page q, which was there, is written
abbrev pub written : LocalState → ℕ → Page → LocalState
written m q page = record {
  running = record m.running { images = with_image m.running.images q (page_at m.store.pages q) };
  locks = m.locks;
  store = record m.store { pages = map.insert m.store.pages q page };
}

-- and once page q, which was not there, is made and locked
abbrev pub made : LocalState → ℕ → Page → LocalState
made m q page = record {
  running = record m.running { images = map.insert m.running.images q None };
  locks = granted m.locks m.running.tx q Exclusive;
  store = record m.store { pages = map.insert m.store.pages q page };
}

pub is_locked : (old new : LocalState) (q : ℕ) (mode : Mode) → LocksPage old new q mode → new ≡ locked old q mode
is_locked old new q mode step i = record { running = step.running i; locks = step.locks i; store = step.store i }

pub is_written : (old new : LocalState) (q : ℕ) (page : Page) → WritesHeldPage old new q page → new ≡ written old q page
is_written old new q page step i = record { running = step.running i; locks = step.locks i; store = step.store i }

pub is_made : (old new : LocalState) (q : ℕ) (page : Page) → MakesLockedPage old new q page → new ≡ made old q page
is_made old new q page step i = record { running = step.running i; locks = step.locks i; store = step.store i }

-- a page that is not there is locked by nobody
pub fresh_is_free : (locks : LockTable) (pages : Pages) (u q : ℕ) → LocksPagesThere locks pages → page_at pages q ≡ None → can_read locks u q ≡ false
fresh_is_free locks pages u q there fresh = not_true (can_read locks u q) (λ reads. false≢true (sym (ap is_some fresh) ∙ there u q reads))

fresh_has_no_conflict : (m : LocalState) (q : ℕ) → MayStep m → page_at m.store.pages q ≡ None → IsNobody (conflicts m.locks m.running.tx q Exclusive)
fresh_has_no_conflict m q may fresh u = grind (arith, conflicts-exclusive m.locks m.running.tx q u, fresh_is_free m.locks m.store.pages u q may.locks_there fresh)

-- a lock takes no page away
more_pages : (locks : LockTable) (tx q : ℕ) (mode : Mode) → page_count locks tx ≤ page_count (granted locks tx q mode) tx
more_pages locks tx q mode = grind (arith, nat_tests, pages_of-granted locks tx q mode tx, map.len-insert nat_cmp_total (pages_of locks tx) q (stronger (map.get (pages_of locks tx) q) mode))

-- who holds a page is a holder already
same_holders : (locks : LockTable) (tx q p : ℕ) (mode other : Mode) → map.len (granted (granted locks tx q mode) tx p other).held ≡ map.len (granted locks tx q mode).held
same_holders locks tx q p mode other =
    grind (arith, nat_tests, map.len-insert nat_cmp_total (granted locks tx q mode).held tx (with_page (pages_of (granted locks tx q mode) tx) p other), get_inserted locks.held tx (with_page (pages_of locks tx) q mode) tx)

-- so there is room for one more lock of it
room_again : (locks : LockTable) (tx q p : ℕ) (mode other : Mode) → HasRoom (granted locks tx q mode) → page_count (granted locks tx q mode) tx < 300 → HasRoom (granted (granted locks tx q mode) tx p other)
room_again locks tx q p mode other room few = record {
  holders = grind (arith, same_holders locks tx q p mode other, room.holders);
  pages = λ u. grind (arith, nat_tests, page_count-granted (granted locks tx q mode) tx p other u, room.pages u, few);
}

room_locked : (m : LocalState) (q : ℕ) (mode : Mode) → MayStep m → (p : ℕ) (other : Mode) → page_count (granted m.locks m.running.tx q mode) m.running.tx < 300 → HasRoom (granted (granted m.locks m.running.tx q mode) m.running.tx p other)
room_locked m q mode may p other few =
    let before : page_count m.locks m.running.tx < 300 = grind (arith, more_pages m.locks m.running.tx q mode, few) in
    room_again m.locks m.running.tx q p mode other (may.room q mode before) few

may_locked : (m : LocalState) (q : ℕ) (mode : Mode) → MayStep m → IsNobody (conflicts m.locks m.running.tx q mode) → is_some (page_at m.store.pages q) ≡ true → MayStep (locked m q mode)
may_locked m q mode may free there = record {
  compatible = compatible_granted m.locks m.running.tx q mode may.compatible free;
  locks_there = locks_there-granted m.locks m.store.pages m.running.tx q mode may.locks_there there;
  images_locked = λ p some. grind (arith, can_write-granted m.locks m.running.tx q mode m.running.tx p, may.images_locked p some);
  images_there = may.images_there;
  room = room_locked m q mode may;
}

images_locked-written : (locks : LockTable) (tx : ℕ) (images : Images) (q : ℕ) (first : Option Page) → ((p : ℕ) → is_some (image_of images p) ≡ true → can_write locks tx p ≡ true) → can_write locks tx q ≡ true
    → (p : ℕ) → is_some (image_of (with_image images q first) p) ≡ true → can_write locks tx p ≡ true
images_locked-written locks tx images q first locked writes p some =
    elim (cases_eq p q) [
      | inl here ↦ subst (λ p. can_write locks tx p ≡ true) (sym here) writes
      | inr elsewhere ↦ locked p (grind (arith, nat_tests, some, image_of-with_image images q first p))
    ]

may_written : (m : LocalState) (q : ℕ) (page : Page) → MayStep m → can_write m.locks m.running.tx q ≡ true → MayStep (written m q page)
may_written m q page may held = record {
  compatible = may.compatible;
  locks_there = locks_there-written m.locks m.store.pages q page may.locks_there;
  images_locked = images_locked-written m.locks m.running.tx m.running.images q (page_at m.store.pages q) may.images_locked held;
  images_there = there_written m.running.images m.store.pages q page may.images_there;
  room = may.room;
}

images_locked-made : (locks : LockTable) (tx : ℕ) (images : Images) (q : ℕ) → ((p : ℕ) → is_some (image_of images p) ≡ true → can_write locks tx p ≡ true)
    → (p : ℕ) → is_some (image_of (map.insert images q None) p) ≡ true → can_write (granted locks tx q Exclusive) tx p ≡ true
images_locked-made locks tx images q locked p some =
    elim (cases_eq p q) [
      | inl here ↦ grind (arith, nat_tests, can_write-granted locks tx q Exclusive tx p)
      | inr elsewhere ↦
          let writes : can_write locks tx p ≡ true = locked p (grind (arith, nat_tests, some, get_inserted images q None p)) in
          grind (arith, can_write-granted locks tx q Exclusive tx p)
    ]

may_made : (m : LocalState) (q : ℕ) (page : Page) → MayStep m → page_at m.store.pages q ≡ None → MayStep (made m q page)
may_made m q page may fresh =
    let there : is_some (page_at (map.insert m.store.pages q page) q) ≡ true = grind (arith, nat_tests, get_inserted m.store.pages q page q) in
    record {
      compatible = compatible_granted m.locks m.running.tx q Exclusive may.compatible (fresh_has_no_conflict m q may fresh);
      locks_there = locks_there-granted m.locks (map.insert m.store.pages q page) m.running.tx q Exclusive (locks_there-written m.locks m.store.pages q page may.locks_there) there;
      images_locked = images_locked-made m.locks m.running.tx m.running.images q may.images_locked;
      images_there = there_made m.running.images m.store.pages q page may.images_there;
      room = room_locked m q Exclusive may;
    }

-- **A transaction may step again once it has locked a page,**
pub may_after_lock : (old new : LocalState) (q : ℕ) (mode : Mode) → MayStep old → LocksPage old new q mode → MayStep new
may_after_lock old new q mode may step = subst MayStep (sym (is_locked old new q mode step)) (may_locked old q mode may step.free step.there)

-- written one that it holds,
pub may_after_write : (old new : LocalState) (q : ℕ) (page : Page) → MayStep old → WritesHeldPage old new q page → MayStep new
may_after_write old new q page may step = subst MayStep (sym (is_written old new q page step)) (may_written old q page may step.held)

-- or made one.
pub may_after_make : (old new : LocalState) (q : ℕ) (page : Page) → MayStep old → MakesLockedPage old new q page → MayStep new
may_after_make old new q page may step = subst MayStep (sym (is_made old new q page step)) (may_made old q page may step.fresh)

pub may_after_lock_at_most : (old new : LocalState) (q : ℕ) → MayStep old → LocksAtMost old new q → MayStep new
may_after_lock_at_most old new q may step =
    elim step [
      | inl same ↦ subst MayStep (sym same) may
      | inr locks ↦ may_after_lock old new q locks.0 may locks.1
    ]

pub may_after_write_at_most : (old new : LocalState) (q : ℕ) → MayStep old → WritesAtMost old new q → MayStep new
may_after_write_at_most old new q may step =
    elim step [
      | inl same ↦ subst MayStep (sym same) may
      | inr writes ↦ may_after_write old new q writes.0 may writes.1
    ]

pub may_after_step : (old new : LocalState) → MayStep old → TouchesOnePage old new → MayStep new
may_after_step old new may step =
    elim step.1 [
      | inl both ↦ may_after_write_at_most both.0 new step.0 (may_after_lock_at_most old both.0 step.0 may both.1) both.2
      | inr makes ↦ may_after_make old new step.0 makes.0 may makes.1
    ]

-- **A transaction that has done nothing yet may step, where there is room for a lock of it.**
pub may_start : (locks : LockTable) (store : PageStore) (tx : ℕ) → AreCompatible locks → LocksPagesThere locks store.pages → ((q : ℕ) (mode : Mode) → HasRoom (granted locks tx q mode)) → MayStep (record { running = started tx; locks = locks; store = store })
may_start locks store tx compatible there room = record {
  compatible = compatible;
  locks_there = there;
  images_locked = λ q some. absurd (false≢true (sym (ap is_some (map.get-empty {X = Option Page} nat_cmp q)) ∙ some));
  images_there = there_none store.pages;
  room = λ q mode few. room q mode;
}

-- a page with its first image put back is the same after a write,
pub page_before-written : (images : Images) (pages : Pages) (q : ℕ) (page : Page) (p : ℕ) → page_before (with_image images q (page_at pages q)) (map.insert pages q page) p ≡ page_before images pages p
page_before-written images pages q page p = grind (arith, nat_tests, image_of-with_image images q (page_at pages q) p, get_inserted pages q page p)

-- and after another page, or this one, was made
pub page_before-made : (images : Images) (pages : Pages) (q : ℕ) (page : Page) (p : ℕ) → page_at pages q ≡ None → image_of images q ≡ None → page_before (map.insert images q None) (map.insert pages q page) p ≡ page_before images pages p
page_before-made images pages q page p fresh none = grind (arith, nat_tests, get_inserted images q None p, get_inserted pages q page p)

-- others may write what they might
write_of_others : (locks : LockTable) (tx q : ℕ) (mode : Mode) (u p : ℕ) → u ≢ tx → can_write (granted locks tx q mode) u p ≡ can_write locks u p
write_of_others locks tx q mode u p ne = grind (arith, nat_tests, can_write-granted locks tx q mode u p)

-- a page that is there stays there
pub there_after_insert : (pages : Pages) (q : ℕ) (page : Page) (p : ℕ) → is_some (page_at pages p) ≡ true → is_some (page_at (map.insert pages q page) p) ≡ true
there_after_insert pages q page p there = grind (arith, nat_tests, get_inserted pages q page p)

clean_locked : (m : LocalState) (q : ℕ) (mode : Mode) (clean : ℕ → Option Page) → IsCleanFor m clean → IsCleanFor (locked m q mode) clean
clean_locked m q mode clean is = record {
  seen = λ p free. is.seen p (λ u ne. sym (write_of_others m.locks m.running.tx q mode u p ne) ∙ free u ne);
  there = is.there;
}

clean_written : (m : LocalState) (q : ℕ) (page : Page) (clean : ℕ → Option Page) → IsCleanFor m clean → IsCleanFor (written m q page) clean
clean_written m q page clean is = record {
  seen = λ p free. is.seen p free ∙ sym (page_before-written m.running.images m.store.pages q page p);
  there = λ p some. there_after_insert m.store.pages q page p (is.there p some);
}

clean_made : (m : LocalState) (q : ℕ) (page : Page) (clean : ℕ → Option Page) → MayStep m → page_at m.store.pages q ≡ None → IsCleanFor m clean → IsCleanFor (made m q page) clean
clean_made m q page clean may fresh is =
    let none : image_of m.running.images q ≡ None = fresh_has_no_image m.running.images m.store.pages q may.images_there fresh in
    record {
      seen = λ p free.
          is.seen p (λ u ne. sym (write_of_others m.locks m.running.tx q Exclusive u p ne) ∙ free u ne)
          ∙ sym (page_before-made m.running.images m.store.pages q page p fresh none);
      there = λ p some. there_after_insert m.store.pages q page p (is.there p some);
    }

-- **Clean pages stay so for a transaction that locks a page,**
pub clean_after_lock : (old new : LocalState) (q : ℕ) (mode : Mode) (clean : ℕ → Option Page) → LocksPage old new q mode → IsCleanFor old clean → IsCleanFor new clean
clean_after_lock old new q mode clean step is = subst (λ (m : LocalState). IsCleanFor m clean) (sym (is_locked old new q mode step)) (clean_locked old q mode clean is)

-- writes one that it holds,
pub clean_after_write : (old new : LocalState) (q : ℕ) (page : Page) (clean : ℕ → Option Page) → WritesHeldPage old new q page → IsCleanFor old clean → IsCleanFor new clean
clean_after_write old new q page clean step is = subst (λ (m : LocalState). IsCleanFor m clean) (sym (is_written old new q page step)) (clean_written old q page clean is)

-- or makes one.
pub clean_after_make : (old new : LocalState) (q : ℕ) (page : Page) (clean : ℕ → Option Page) → MayStep old → MakesLockedPage old new q page → IsCleanFor old clean → IsCleanFor new clean
clean_after_make old new q page clean may step is = subst (λ (m : LocalState). IsCleanFor m clean) (sym (is_made old new q page step)) (clean_made old q page clean may step.fresh is)

pub clean_after_lock_at_most : (old new : LocalState) (q : ℕ) (clean : ℕ → Option Page) → LocksAtMost old new q → IsCleanFor old clean → IsCleanFor new clean
clean_after_lock_at_most old new q clean step is =
    elim step [
      | inl same ↦ subst (λ (m : LocalState). IsCleanFor m clean) (sym same) is
      | inr locks ↦ clean_after_lock old new q locks.0 clean locks.1 is
    ]

pub clean_after_write_at_most : (old new : LocalState) (q : ℕ) (clean : ℕ → Option Page) → WritesAtMost old new q → IsCleanFor old clean → IsCleanFor new clean
clean_after_write_at_most old new q clean step is =
    elim step [
      | inl same ↦ subst (λ (m : LocalState). IsCleanFor m clean) (sym same) is
      | inr writes ↦ clean_after_write old new q writes.0 clean writes.1 is
    ]

pub clean_after_step : (old new : LocalState) (clean : ℕ → Option Page) → MayStep old → TouchesOnePage old new → IsCleanFor old clean → IsCleanFor new clean
clean_after_step old new clean may step is =
    elim step.1 [
      | inl both ↦ clean_after_write_at_most both.0 new step.0 clean both.2 (clean_after_lock_at_most old both.0 step.0 clean both.1 is)
      | inr makes ↦ clean_after_make old new step.0 makes.0 clean may makes.1 is
    ]
