-- What a step, an end, a roll back, a begin and a close leave of all running subtransactions
use Rattle.std.proofs.Common.{◌≡◌, ◌≢◌, ℕ, ◌≤◌, ◌<◌, ◌+◌, Bool, false, true, cond, Option, None, Some, is_some, unwrap_or, refl, sym, ap, subst, ◌∙◌, inl, inr, arith, nat_cmp}
use Rattle.std.specs.Cmp.{nat_cmp_total}
use Rattle.std.specs.FinMap as map
use Rattle.mlt_hash_access.proofs.Names.{cases_eq, false≢true, nat_tests, Mode, Exclusive, Page, PageStore, Pages, page_at, AreCompatible, KeepsOthers, LockTable, Modes, allows_write, can_read, can_write, page_count, pages_of, granted, released, can_write-granted, writer_reads, get_inserted, get_removed, Images, Running, image_of, or_image, put_back, with_image, not_there, not_true, page_at-put_back, Agrees, MayStep, LocalState, page_before, LocksAtMost, TouchesOnePage, WritesAtMost, page_written, view_of, DropsImages, ImagesAreApart, ImagesAreLocked, ImagesAreThere, RunningImages, clean_pages, image_at, AllMayStep, AllRunning, clean_of, images_by, is_open, local_of}
use Rattle.mlt_page_locks.{specs.LockTables.is_holder, specs.Requests.with_page, proofs.Maps.same_entries}
use Rattle.mlt_page_locks.proofs.LockLaws.{compatible_released, no_holder-released, page_count-granted, pages_of-released, released_keeps_others}
use Rattle.mlt_page_subtx.proofs.ImageLaws.{fresh_has_no_image, with_image-absent}
use Rattle.mlt_hash_form.specs.Held.{own_or_clean, over}
use Rattle.mlt_hash_access.{specs.Views.View, specs.Views.own_at, specs.Views.seen_at, proofs.LocalStates.may_after_lock_at_most, proofs.LocalStates.may_after_step, proofs.OwnSteps.step_keeps_tx, proofs.AllRunning.agrees_with_each, proofs.AllRunning.each_may_step, proofs.Others.same_where_held, proofs.Others.step_drops_no_page, proofs.Others.step_keeps_held_pages, proofs.Others.step_keeps_others}
use Rattle.mlt_hash_access.specs.Running.{HoldsNothing, KeepsRunning, after_begin, after_close, after_end, after_roll_back, after_step}
use Rattle.mlt_hash_access.proofs.CleanLaws.{clean_page-end, clean_pages-roll_back, clean_pages-write, drops_cleared, drops_removed, image_at-insert, images_are_apart, others_stay, same_clean_pages}
use Rattle.mlt_hash_access.proofs.RunningLaws.{images_locked-granted, images_locked-released, images_there-ended, images_there-rolled_back, locks_there-released, locks_there-rolled_back}

-- a transaction that keeps its images, its locks and the pages that it holds has the view that it had
same_view_of : (old new : AllRunning) (u : ℕ) → map.get new.images u ≡ map.get old.images u → pages_of new.locks u ≡ pages_of old.locks u
    → ((q : ℕ) → can_read old.locks u q ≡ true → page_at new.store.pages q ≡ page_at old.store.pages q) → view_of (local_of new u) ≡ view_of (local_of old u)
same_view_of old new u images locks pages i = record { modes = locks i; seen = λ q. seen q i; own = λ q. own q i }
  where
    kept : images_by new u ≡ images_by old u
    kept = ap (λ o. unwrap_or o map.empty) images

    reads : (q : ℕ) → can_read new.locks u q ≡ can_read old.locks u q
    reads q = ap (λ (modes : Modes). is_some (map.get modes q)) locks

    seen : (q : ℕ) → seen_at (local_of new u) q ≡ seen_at (local_of old u) q
    seen q = same_where_held (can_read old.locks u q) (can_read new.locks u q) (Some (page_before (images_by old u) old.store.pages q)) (Some (page_before (images_by new u) new.store.pages q)) None (reads q)
        (λ held i. Some (or_image (image_of (kept i) q) (pages q held i)))

    own : (q : ℕ) → own_at (local_of new u) q ≡ own_at (local_of old u) q
    own q = same_where_held (can_read old.locks u q) (can_read new.locks u q) (page_written (image_of (images_by old u) q) (page_at old.store.pages q)) (page_written (image_of (images_by new u) q) (page_at new.store.pages q)) None (reads q)
        (λ held i. page_written (image_of (kept i) q) (pages q held i))

-- what the events have in common: the images of tx are others, and everything else is
same_images : (images : RunningImages) (tx : ℕ) (own : Images) (u : ℕ) → u ≢ tx → map.get (map.insert images tx own) u ≡ map.get images u
same_images images tx own u ne = grind (arith, nat_tests, get_inserted images tx own u)

is_open-insert : (images : RunningImages) (tx : ℕ) (own : Images) (u : ℕ) → is_some (map.get images u) ≡ true → is_some (map.get (map.insert images tx own) u) ≡ true
is_open-insert images tx own u opened = grind (arith, nat_tests, opened, get_inserted images tx own u)

len-insert_again : (images : RunningImages) (tx : ℕ) (own : Images) → is_some (map.get images tx) ≡ true → map.len (map.insert images tx own) ≡ map.len images
len-insert_again images tx own opened = grind (arith, opened, map.len-insert nat_cmp_total images tx own)

-- a step asks for room for no other transaction
record LeavesHolders (tx : ℕ) (old new : LockTable) : Type 0 where
  others : (u : ℕ) → u ≢ tx → is_holder new u ≡ is_holder old u
  max_open : new.max_open ≡ old.max_open
  pages : page_count new tx ≤ page_count old tx + 1

same_holders : (tx : ℕ) (old new : LockTable) → new ≡ old → LeavesHolders tx old new
same_holders tx old new same = subst (LeavesHolders tx old) (sym same) (record { others = λ u ne. refl; max_open = refl; pages = omega arith })

lock_leaves_holders : (tx : ℕ) (old new : LockTable) (q : ℕ) (mode : Mode) → new ≡ granted old tx q mode → LeavesHolders tx old new
lock_leaves_holders tx old new q mode is = subst (LeavesHolders tx old) (sym is) (record {
  others = λ u ne. grind (arith, nat_tests, get_inserted old.held tx (with_page (pages_of old tx) q mode) u);
  max_open = refl;
  pages = grind (arith, nat_tests, page_count-granted old tx q mode tx);
})

lock_at_most_leaves_holders : (old new : LocalState) (q : ℕ) → LocksAtMost old new q → LeavesHolders old.running.tx old.locks new.locks
lock_at_most_leaves_holders old new q step =
    elim step [
      | inl same ↦ same_holders old.running.tx old.locks new.locks (ap (λ (m : LocalState). m.locks) same)
      | inr locks ↦ lock_leaves_holders old.running.tx old.locks new.locks q locks.0 locks.1.locks
    ]

write_at_most_same_locks : (old new : LocalState) (q : ℕ) → WritesAtMost old new q → new.locks ≡ old.locks
write_at_most_same_locks old new q step =
    elim step [
      | inl same ↦ ap (λ (m : LocalState). m.locks) same
      | inr writes ↦ writes.1.locks
    ]

step_leaves_holders : (old new : LocalState) → TouchesOnePage old new → LeavesHolders old.running.tx old.locks new.locks
step_leaves_holders old new step =
    elim step.1 [
      | inl both ↦ subst (LeavesHolders old.running.tx old.locks) (sym (write_at_most_same_locks both.0 new step.0 both.2)) (lock_at_most_leaves_holders old both.0 step.0 both.1)
      | inr makes ↦ lock_leaves_holders old.running.tx old.locks new.locks step.0 Exclusive makes.1.locks
    ]

-- **A step makes a transaction hold at most one page more.**
pub step_adds_one_page : (old new : LocalState) → TouchesOnePage old new → page_count new.locks old.running.tx ≤ page_count old.locks old.running.tx + 1
step_adds_one_page old new step = (step_leaves_holders old new step).pages

-- a state of the transaction tx
abbrev at : ℕ → Images → LockTable → PageStore → LocalState
at tx images locks store = record { running = record { tx = tx; images = images }; locks = locks; store = store }

step_keeps : (all : AllRunning) (tx : ℕ) (images : Images) (locks : LockTable) (store : PageStore) → AllMayStep all → is_open all tx ≡ true → TouchesOnePage (local_of all tx) (at tx images locks store) → page_count locks tx ≤ 300
    → KeepsRunning tx all (after_step all (at tx images locks store))
step_keeps all tx images locks store may opened step most = record {
  may = record {
    compatible = after.compatible;
    locks_there = after.locks_there;
    images_locked = images_locked;
    images_there = images_there;
    holders_open = holders;
    few_pages = pages;
    few_open = subst (λ n. n ≤ locks.max_open) (sym (len-insert_again all.images tx images opened)) (subst (λ n. map.len all.images ≤ n) (sym leaves.max_open) may.few_open);
  };
  views = λ u ne. same_view_of all (after_step all new) u (same_images all.images tx images u ne) (keeps u ne) (λ q reads. step_keeps_held_pages old new before step u q ne reads);
  images = λ u ne. same_images all.images tx images u ne;
  holders = leaves.others;
}
  where
    old : LocalState
    old = local_of all tx

    new : LocalState
    new = at tx images locks store

    before : MayStep old
    before = each_may_step all tx may opened

    after : MayStep new
    after = may_after_step old new before step

    keeps : KeepsOthers tx all.locks locks
    keeps = step_keeps_others old new before step

    leaves : LeavesHolders tx all.locks locks
    leaves = step_leaves_holders old new step

    own_image : (u q : ℕ) → u ≡ tx → is_some (image_at (map.insert all.images tx images) u q) ≡ true → is_some (image_of images q) ≡ true
    own_image u q mine some = grind (arith, nat_tests, some, image_at-insert all.images tx images u q)

    others_image : (u q : ℕ) → u ≢ tx → is_some (image_at (map.insert all.images tx images) u q) ≡ true → is_some (image_at all.images u q) ≡ true
    others_image u q differ some = grind (arith, nat_tests, some, image_at-insert all.images tx images u q)

    images_locked : ImagesAreLocked (map.insert all.images tx images) locks
    images_locked u q some =
        elim (cases_eq u tx) [
          | inl mine ↦ subst (λ u. can_write locks u q ≡ true) (sym mine) (after.images_locked q (own_image u q mine some))
          | inr differ ↦ ap (λ (modes : Modes). allows_write (map.get modes q)) (keeps u differ) ∙ may.images_locked u q (others_image u q differ some)
        ]

    images_there : ImagesAreThere (map.insert all.images tx images) store.pages
    images_there u q some =
        elim (cases_eq u tx) [
          | inl mine ↦ after.images_there q (own_image u q mine some)
          | inr differ ↦ step_drops_no_page old new before step q (may.images_there u q (others_image u q differ some))
        ]

    holders : (u : ℕ) → is_holder locks u ≡ true → is_some (map.get (map.insert all.images tx images) u) ≡ true
    holders u holds =
        elim (cases_eq u tx) [
          | inl mine ↦ grind (arith, nat_tests, get_inserted all.images tx images u)
          | inr differ ↦ is_open-insert all.images tx images u (may.holders_open u (sym (leaves.others u differ) ∙ holds))
        ]

    pages : (u : ℕ) → page_count locks u ≤ 300
    pages u =
        elim (cases_eq u tx) [
          | inl mine ↦ subst (λ u. page_count locks u ≤ 300) (sym mine) most
          | inr differ ↦ subst (λ n. n ≤ 300) (ap map.len (sym (keeps u differ))) (may.few_pages u)
        ]

some_again : (o : Option Images) → is_some o ≡ true → Some (unwrap_or o map.empty) ≡ o
some_again None some = absurd (false≢true some)
some_again (Some images) some = refl

-- the images of an opened transaction put in again
put_again : (images : RunningImages) (tx : ℕ) → is_some (map.get images tx) ≡ true → map.insert images tx (unwrap_or (map.get images tx) map.empty) ≡ images
put_again images tx opened = same_entries _ _ (λ u.
    let own : Images = unwrap_or (map.get images tx) map.empty in
    elim (cases_eq u tx) [
      | inl mine ↦ subst (λ u. map.get (map.insert images tx own) u ≡ map.get images u) (sym mine) (some_inserted images tx own ∙ some_again (map.get images tx) opened)
      | inr differ ↦ same_images images tx own u differ
    ])
  where
    some_inserted : (images : RunningImages) (tx : ℕ) (own : Images) → map.get (map.insert images tx own) tx ≡ Some own
    some_inserted images tx own = grind (arith, nat_tests, get_inserted images tx own tx)

-- clean pages stay where neither an image nor a page changes,
clean_same : (all : AllRunning) (tx : ℕ) (images : Images) (pages : Pages) → is_open all tx ≡ true → images ≡ images_by all tx → pages ≡ all.store.pages
    → clean_pages (map.insert all.images tx images) pages ≡ clean_pages all.images all.store.pages
clean_same all tx images pages opened is same i = clean_pages ((ap (map.insert all.images tx) is ∙ put_again all.images tx opened) i) (same i)

-- and where a page is written that the transaction holds exclusively
clean_written : (all : AllRunning) (tx : ℕ) (images : Images) (pages : Pages) (locks : LockTable) (q : ℕ) (page : Page) → is_open all tx ≡ true → AreCompatible locks → ImagesAreLocked all.images locks → can_write locks tx q ≡ true
    → images ≡ with_image (images_by all tx) q (page_at all.store.pages q) → pages ≡ map.insert all.store.pages q page → clean_pages (map.insert all.images tx images) pages ≡ clean_pages all.images all.store.pages
clean_written all tx images pages locks q page opened compatible locked writes is now =
    (λ i. clean_pages (map.insert all.images tx (is i)) (now i))
    ∙ clean_pages-write all.images locks all.store.pages tx q (images_by all tx) page compatible locked (sym (some_again (map.get all.images tx) opened)) writes

-- a lock changes no image and no page, and others keep theirs
record OnlyLocks (all : AllRunning) (tx : ℕ) (mid : LocalState) : Type 0 where
  running : mid.running ≡ record { tx = tx; images = images_by all tx }
  store : mid.store ≡ all.store
  locked : ImagesAreLocked all.images mid.locks

only_locks : (all : AllRunning) (tx : ℕ) (mid : LocalState) (q : ℕ) → AllMayStep all → LocksAtMost (local_of all tx) mid q → OnlyLocks all tx mid
only_locks all tx mid q may step =
    elim step [
      | inl same ↦ record {
        running = ap (λ (m : LocalState). m.running) same;
        store = ap (λ (m : LocalState). m.store) same;
        locked = subst (λ (m : LocalState). ImagesAreLocked all.images m.locks) (sym same) may.images_locked;
      }
      | inr locks ↦ record {
        running = locks.1.running;
        store = locks.1.store;
        locked = subst (ImagesAreLocked all.images) (sym locks.1.locks) (images_locked-granted all.images all.locks tx q locks.0 may.images_locked);
      }
    ]

step_clean : (all : AllRunning) (tx : ℕ) (images : Images) (locks : LockTable) (store : PageStore) → AllMayStep all → is_open all tx ≡ true → TouchesOnePage (local_of all tx) (at tx images locks store)
    → clean_pages (map.insert all.images tx images) store.pages ≡ clean_pages all.images all.store.pages
step_clean all tx images locks store may opened step =
    elim step.1 [
      | inl both ↦
          let mid = both.0 in
          let only = only_locks all tx mid step.0 may both.1 in
          elim both.2 [
            | inl same ↦ clean_same all tx images store.pages opened (ap (λ (m : LocalState). m.running.images) same ∙ ap (λ (r : Running). r.images) only.running) (ap (λ (m : LocalState). m.store.pages) same ∙ ap (λ (s : PageStore). s.pages) only.store)
            | inr writes ↦
                let held : can_write mid.locks tx step.0 ≡ true = ap (λ (r : Running). can_write mid.locks r.tx step.0) (sym only.running) ∙ writes.1.held in
                clean_written all tx images store.pages mid.locks step.0 writes.0 opened (may_after_lock_at_most old mid step.0 before both.1).compatible only.locked held
                (ap (λ (r : Running). r.images) writes.1.running ∙ (λ i. with_image ((only.running i).images) step.0 (page_at ((only.store i).pages) step.0)))
                (ap (λ (s : PageStore). s.pages) writes.1.store ∙ ap (λ (s : PageStore). map.insert s.pages step.0 writes.0) only.store)
          ]
      | inr makes ↦
          let q = step.0 in
          let fresh : page_at all.store.pages q ≡ None = makes.1.fresh in
          let none : image_of (images_by all tx) q ≡ None = fresh_has_no_image (images_by all tx) all.store.pages q before.images_there fresh in
          let is_with : map.insert (images_by all tx) q None ≡ with_image (images_by all tx) q (page_at all.store.pages q) =
          sym (ap (with_image (images_by all tx) q) fresh ∙ with_image-absent (images_by all tx) q None none) in
          let writes : can_write locks tx q ≡ true = ap (λ (l : LockTable). can_write l tx q) makes.1.locks ∙ grind (arith, nat_tests, can_write-granted all.locks tx q Exclusive tx q) in
          clean_written all tx images store.pages locks q makes.0 opened (may_after_step old (at tx images locks store) before step).compatible
          (subst (ImagesAreLocked all.images) (sym makes.1.locks) (images_locked-granted all.images all.locks tx q Exclusive may.images_locked)) writes
          (ap (λ (r : Running). r.images) makes.1.running ∙ is_with) (ap (λ (s : PageStore). s.pages) makes.1.store)
    ]
  where
    old : LocalState
    old = local_of all tx

    before : MayStep old
    before = each_may_step all tx may opened

-- the state that a step leads to is one of the transaction that made it
is_at : (all : AllRunning) (tx : ℕ) (new : LocalState) → AllMayStep all → is_open all tx ≡ true → TouchesOnePage (local_of all tx) new → at tx new.running.images new.locks new.store ≡ new
is_at all tx new may opened step i = record {
  running = record { tx = sym (step_keeps_tx (local_of all tx) new step) i; images = new.running.images };
  locks = new.locks;
  store = new.store;
}

own_step : (all : AllRunning) (tx : ℕ) (new : LocalState) → AllMayStep all → is_open all tx ≡ true → TouchesOnePage (local_of all tx) new → TouchesOnePage (local_of all tx) (at tx new.running.images new.locks new.store)
own_step all tx new may opened step = subst (TouchesOnePage (local_of all tx)) (sym (is_at all tx new may opened step)) step

-- **A step on one page leaves the views of all others,**
pub step_leaves_views : (all : AllRunning) (tx : ℕ) (new : LocalState) → AllMayStep all → is_open all tx ≡ true → TouchesOnePage (local_of all tx) new → page_count new.locks tx ≤ 300 → KeepsRunning tx all (after_step all new)
step_leaves_views all tx new may opened step most =
    subst (λ (m : LocalState). KeepsRunning tx all (after_step all m)) (is_at all tx new may opened step) (step_keeps all tx new.running.images new.locks new.store may opened (own_step all tx new may opened step) most)

-- **and the clean pages.**
pub step_leaves_clean : (all : AllRunning) (tx : ℕ) (new : LocalState) → AllMayStep all → is_open all tx ≡ true → TouchesOnePage (local_of all tx) new → clean_of (after_step all new) ≡ clean_of all
step_leaves_clean all tx new may opened step =
    subst (λ (m : LocalState). clean_of (after_step all m) ≡ clean_of all) (is_at all tx new may opened step) (ap page_at (step_clean all tx new.running.images new.locks new.store may opened (own_step all tx new may opened step)))

-- who holds pages once tx has released its own held them before
holds_before : (locks : LockTable) (tx u : ℕ) → is_holder (released locks tx) u ≡ true → is_holder locks u ≡ true
holds_before locks tx u holds = grind (arith, nat_tests, holds, get_removed locks.held tx u)

others_hold : (locks : LockTable) (tx u : ℕ) → u ≢ tx → is_holder (released locks tx) u ≡ is_holder locks u
others_hold locks tx u ne = grind (arith, nat_tests, get_removed locks.held tx u)

pages_released : (locks : LockTable) (tx u : ℕ) → page_count locks u ≤ 300 → page_count (released locks tx) u ≤ 300
pages_released locks tx u most = grind (arith, nat_tests, pages_of-released locks tx u, map.len-empty nat_cmp Mode, most)

no_images_now : (images : RunningImages) (tx : ℕ) → map.get (map.insert images tx map.empty) tx ≡ Some map.empty
no_images_now images tx = grind (arith, nat_tests, get_inserted images tx map.empty tx)

apart : (all : AllRunning) → AllMayStep all → ImagesAreApart all.images
apart all may = images_are_apart all.images all.locks may.compatible may.images_locked

ended_page : (b : Bool) (image : Option (Option Page)) (page clean : Option Page) → (is_some image ≡ true → (b ≡ true) × (is_some page ≡ true)) → cond (is_some image) page clean ≡ own_or_clean (cond b (page_written image page) None) clean
ended_page true None page clean held = refl
ended_page false None page clean held = refl
ended_page true (Some first) (Some page) clean held = refl
ended_page true (Some first) None clean held = absurd (false≢true (held refl).1)
ended_page false (Some first) page clean held = absurd (false≢true (held refl).0)

-- **The end of a subtransaction makes just the pages clean that it has written.**
pub end_clean : (all : AllRunning) (tx : ℕ) → AllMayStep all → clean_of (after_end all tx) ≡ over (clean_of all) (view_of (local_of all tx)).own
end_clean all tx may i q =
    (clean_page-end all.images (map.insert all.images tx map.empty) all.store.pages tx q (apart all may) (drops_cleared all.images tx)
    ∙ ended_page (can_read all.locks tx q) (image_at all.images tx q) (page_at all.store.pages q) (clean_of all q)
    (λ some. (writer_reads all.locks tx q (may.images_locked tx q some), may.images_there tx q some))) i

pub end_keeps : (all : AllRunning) (tx : ℕ) → AllMayStep all → is_open all tx ≡ true → KeepsRunning tx all (after_end all tx)
end_keeps all tx may opened = record {
  may = record {
    compatible = compatible_released all.locks tx may.compatible;
    locks_there = locks_there-released all.locks all.store.pages tx may.locks_there;
    images_locked = images_locked-released all.images (map.insert all.images tx map.empty) all.locks tx may.images_locked (drops_cleared all.images tx);
    images_there = images_there-ended all.images (map.insert all.images tx map.empty) all.store.pages tx may.images_there (drops_cleared all.images tx);
    holders_open = λ u holds. is_open-insert all.images tx map.empty u (may.holders_open u (holds_before all.locks tx u holds));
    few_pages = λ u. pages_released all.locks tx u (may.few_pages u);
    few_open = subst (λ n. n ≤ all.locks.max_open) (sym (len-insert_again all.images tx map.empty opened)) may.few_open;
  };
  views = λ u ne. same_view_of all (after_end all tx) u (same_images all.images tx map.empty u ne) (released_keeps_others all.locks tx u ne) (λ q reads. refl);
  images = λ u ne. same_images all.images tx map.empty u ne;
  holders = λ u ne. others_hold all.locks tx u ne;
}

-- **The pages that are clean then agree with the view of every other.**
pub end_agrees : (all : AllRunning) (tx u : ℕ) → AllMayStep all → is_open all tx ≡ true → is_open all u ≡ true → u ≢ tx → Agrees (view_of (local_of all u)).seen (clean_of (after_end all tx))
end_agrees all tx u may opened other ne =
    let keeps = end_keeps all tx may opened in
    let after : Agrees (view_of (local_of (after_end all tx) u)).seen (clean_of (after_end all tx)) = agrees_with_each (after_end all tx) u keeps.may (is_open-insert all.images tx map.empty u other) in
    subst (λ (view : View). Agrees view.seen (clean_of (after_end all tx))) (keeps.views u ne) after

-- who has ended or was rolled back holds nothing
pub nothing_at_end : (all : AllRunning) (tx : ℕ) → HoldsNothing (after_end all tx) tx
nothing_at_end all tx = record { no_images = no_images_now all.images tx; no_locks = no_holder-released all.locks tx }

pub nothing_after_roll_back : (all : AllRunning) (tx : ℕ) → HoldsNothing (after_roll_back all tx) tx
nothing_after_roll_back all tx = record { no_images = no_images_now all.images tx; no_locks = no_holder-released all.locks tx }

-- **A roll back changes no clean page.**
pub roll_back_clean : (all : AllRunning) (tx : ℕ) → AllMayStep all → clean_of (after_roll_back all tx) ≡ clean_of all
roll_back_clean all tx may = ap page_at (clean_pages-roll_back all.images (map.insert all.images tx map.empty) all.store.pages tx (apart all may) (drops_cleared all.images tx))

pub roll_back_keeps : (all : AllRunning) (tx : ℕ) → AllMayStep all → is_open all tx ≡ true → KeepsRunning tx all (after_roll_back all tx)
roll_back_keeps all tx may opened = record {
  may = record {
    compatible = compatible_released all.locks tx may.compatible;
    locks_there = locks_there-rolled_back all.images all.locks all.store.pages tx may.compatible may.images_locked may.locks_there;
    images_locked = images_locked-released all.images (map.insert all.images tx map.empty) all.locks tx may.images_locked (drops_cleared all.images tx);
    images_there = images_there-rolled_back all.images (map.insert all.images tx map.empty) all.store.pages tx may.images_there (apart all may) (drops_cleared all.images tx);
    holders_open = λ u holds. is_open-insert all.images tx map.empty u (may.holders_open u (holds_before all.locks tx u holds));
    few_pages = λ u. pages_released all.locks tx u (may.few_pages u);
    few_open = subst (λ n. n ≤ all.locks.max_open) (sym (len-insert_again all.images tx map.empty opened)) may.few_open;
  };
  views = λ u ne. same_view_of all (after_roll_back all tx) u (same_images all.images tx map.empty u ne) (released_keeps_others all.locks tx u ne) (λ q reads. put_back_elsewhere u q ne reads);
  images = λ u ne. same_images all.images tx map.empty u ne;
  holders = λ u ne. others_hold all.locks tx u ne;
}
  where
    put_back_elsewhere : (u q : ℕ) → u ≢ tx → can_read all.locks u q ≡ true → page_at (put_back (images_by all tx) all.store.pages) q ≡ page_at all.store.pages q
    put_back_elsewhere u q ne reads =
        let none : image_at all.images tx q ≡ None = not_there _ (not_true _ (λ mine. ne (sym (may.compatible tx u q (may.images_locked tx q mine) reads)))) in
        page_at-put_back (images_by all tx) all.store.pages q ∙ ap (λ o. or_image o (page_at all.store.pages q)) none

-- an image that is kept once tx keeps none was kept before
kept_before : (old new : RunningImages) (tx u q : ℕ) → DropsImages tx old new → is_some (image_at new u q) ≡ true → is_some (image_at old u q) ≡ true
kept_before old new tx u q drops some = grind (arith, nat_tests, some, drops u q)

-- **A transaction that begins changes no clean page,**
pub begin_clean : (all : AllRunning) (tx : ℕ) → AllMayStep all → is_open all tx ≡ false → clean_of (after_begin all tx) ≡ clean_of all
begin_clean all tx may closed =
    let none : (q : ℕ) → image_at all.images tx q ≡ None = λ q. ap (λ o. image_of (unwrap_or o map.empty) q) (not_there (map.get all.images tx) closed) ∙ map.get-empty {X = Option Page} nat_cmp q in
    ap page_at (same_clean_pages all.images (map.insert all.images tx map.empty) all.store.pages (apart all may) (λ u q. others_stay all.images (map.insert all.images tx map.empty) tx q (drops_cleared all.images tx) (none q) u))

pub begin_keeps : (all : AllRunning) (tx : ℕ) → AllMayStep all → map.len all.images < all.locks.max_open → KeepsRunning tx all (after_begin all tx)
begin_keeps all tx may room = record {
  may = record {
    compatible = may.compatible;
    locks_there = may.locks_there;
    images_locked = λ u q some. may.images_locked u q (kept_before all.images (map.insert all.images tx map.empty) tx u q (drops_cleared all.images tx) some);
    images_there = λ u q some. may.images_there u q (kept_before all.images (map.insert all.images tx map.empty) tx u q (drops_cleared all.images tx) some);
    holders_open = λ u holds. is_open-insert all.images tx map.empty u (may.holders_open u holds);
    few_pages = may.few_pages;
    few_open = grind (arith, room, map.len-insert nat_cmp_total all.images tx map.empty);
  };
  views = λ u ne. same_view_of all (after_begin all tx) u (same_images all.images tx map.empty u ne) refl (λ q reads. refl);
  images = λ u ne. same_images all.images tx map.empty u ne;
  holders = λ u ne. refl;
}

pub nothing_at_begin : (all : AllRunning) (tx : ℕ) → AllMayStep all → is_open all tx ≡ false → HoldsNothing (after_begin all tx) tx
nothing_at_begin all tx may closed = record {
  no_images = no_images_now all.images tx;
  no_locks = not_true (is_holder all.locks tx) (λ holds. false≢true (sym closed ∙ may.holders_open tx holds));
}

others_left : (images : RunningImages) (tx u : ℕ) → u ≢ tx → map.get (map.remove images tx) u ≡ map.get images u
others_left images tx u ne = grind (arith, nat_tests, get_removed images tx u)

-- **nor does one that closes.**
pub close_clean : (all : AllRunning) (tx : ℕ) → AllMayStep all → HoldsNothing all tx → clean_of (after_close all tx) ≡ clean_of all
close_clean all tx may nothing =
    let none : (q : ℕ) → image_at all.images tx q ≡ None = λ q. ap (λ o. image_of (unwrap_or o map.empty) q) nothing.no_images ∙ map.get-empty {X = Option Page} nat_cmp q in
    ap page_at (same_clean_pages all.images (map.remove all.images tx) all.store.pages (apart all may) (λ u q. others_stay all.images (map.remove all.images tx) tx q (drops_removed all.images tx) (none q) u))

pub close_keeps : (all : AllRunning) (tx : ℕ) → AllMayStep all → HoldsNothing all tx → KeepsRunning tx all (after_close all tx)
close_keeps all tx may nothing = record {
  may = record {
    compatible = may.compatible;
    locks_there = may.locks_there;
    images_locked = λ u q some. may.images_locked u q (kept_before all.images (map.remove all.images tx) tx u q (drops_removed all.images tx) some);
    images_there = λ u q some. may.images_there u q (kept_before all.images (map.remove all.images tx) tx u q (drops_removed all.images tx) some);
    holders_open = λ u holds. ap is_some (others_left all.images tx u (λ same. false≢true (sym nothing.no_locks ∙ ap (is_holder all.locks) (sym same) ∙ holds))) ∙ may.holders_open u holds;
    few_pages = may.few_pages;
    few_open = grind (arith, may.few_open, map.len-remove nat_cmp_total all.images tx);
  };
  views = λ u ne. same_view_of all (after_close all tx) u (others_left all.images tx u ne) refl (λ q reads. refl);
  images = λ u ne. others_left all.images tx u ne;
  holders = λ u ne. refl;
}
