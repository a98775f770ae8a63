-- All running subtransactions at once: each of them may step, and which pages are clean for it
use Rattle.std.proofs.Common.{◌≡◌, ℕ, ◌≤◌, ◌<◌, true, Option, None, is_some, List, [], ◌∷◌, length, eqb, refl, sym, ap, subst, ◌∙◌, inl, arith, nat_cmp}
use Rattle.std.specs.List.{list_any}
use Rattle.mlt_hash_access.proofs.Names.{unsigned_tied, find, false≢true, nat_tests, Mode, Page, PageStore, page_at, Modes, page_count, granted, Images, RunningImages, image_at, page_at-put_back, Agrees, MayStep, AllMayStep, AllRunning, clean_of, images_by, is_open, local_of, view_of}
use Rattle.std.specs.FinMap as map
use Rattle.mlt_page_locks.{specs.LockTables.HasRoom, proofs.LockLaws.few_none, proofs.LockLaws.room_to_grant}
use Rattle.mlt_hash_access.{proofs.CleanLaws.clean_page_there, proofs.CleanLaws.clean_page_unwritten, proofs.CleanLaws.clean_view, specs.LocalStates.IsCleanFor, specs.Running.nobody_running, proofs.Views.agrees}
use Rattle.mlt_page_subtx.proofs.LockedPages.{locks_there-none}

-- the numbers of a list of entries
abbrev numbers_of : List (ℕ × Images) → List ℕ
numbers_of [] = []
numbers_of (e ∷ es) = e.0 ∷ numbers_of es

among_numbers : (es : List (ℕ × Images)) (k : ℕ) → list_any (λ n. eqb n k) (numbers_of es) ≡ is_some (find nat_cmp k es)
among_numbers [] k = refl
among_numbers (e ∷ es) k = grind (arith, nat_tests, among_numbers es k, unsigned_tied k e.0)

length-numbers_of : (es : List (ℕ × Images)) → length (numbers_of es) ≡ length es
length-numbers_of [] = refl
length-numbers_of (e ∷ es) = grind (arith, length-numbers_of es)

-- who is opened has a number in the list
is_among : (images : RunningImages) (tx : ℕ) → is_some (map.get images tx) ≡ true → list_any (λ n. eqb n tx) (numbers_of (map.entries images)) ≡ true
is_among images tx opened = among_numbers (map.entries images) tx ∙ ap is_some (sym (map.get-entries images tx)) ∙ opened

-- there is room for a lock of each opened transaction that holds fewer than 300 pages
room_for_each : (all : AllRunning) (tx : ℕ) → AllMayStep all → is_open all tx ≡ true → (q : ℕ) (mode : Mode) → page_count all.locks tx < 300 → HasRoom (granted all.locks tx q mode)
room_for_each all tx may opened q mode few =
    let most : length (numbers_of (map.entries all.images)) ≤ all.locks.max_open =
    subst (λ n. n ≤ all.locks.max_open) (map.len-entries all.images ∙ sym (length-numbers_of (map.entries all.images))) may.few_open in
    room_to_grant all.locks tx q mode (numbers_of (map.entries all.images)) (λ u holds. is_among all.images u (may.holders_open u holds)) (is_among all.images tx opened) most may.few_pages (inl few)

-- **Each opened transaction may step.**
pub each_may_step : (all : AllRunning) (tx : ℕ) → AllMayStep all → is_open all tx ≡ true → MayStep (local_of all tx)
each_may_step all tx may opened = record {
  compatible = may.compatible;
  locks_there = may.locks_there;
  images_locked = may.images_locked tx;
  images_there = may.images_there tx;
  room = room_for_each all tx may opened;
}

-- **The clean pages are clean for each transaction.**
pub clean_for_each : (all : AllRunning) (tx : ℕ) → AllMayStep all → IsCleanFor (local_of all tx) (clean_of all)
clean_for_each all tx may = record {
  seen = λ q free. clean_view all.images all.locks all.store.pages tx q may.images_locked free ∙ page_at-put_back (images_by all tx) all.store.pages q;
  there = λ q. clean_page_there all.images all.store.pages q may.images_there;
}

-- **They agree with the view of each open transaction.**
pub agrees_with_each : (all : AllRunning) (tx : ℕ) → AllMayStep all → is_open all tx ≡ true → Agrees (view_of (local_of all tx)).seen (clean_of all)
agrees_with_each all tx may opened = agrees (local_of all tx) (clean_of all) (each_may_step all tx may opened) (clean_for_each all tx may)

image_of_nobody : (tx q : ℕ) → image_at map.empty tx q ≡ None
image_of_nobody tx q = grind (arith, map.get-empty {X = Images} nat_cmp tx, map.get-empty {X = Option Page} nat_cmp q)

-- **Before the first transaction begins, all may step,**
pub first_may_step : (max_open : ℕ) (store : PageStore) → AllMayStep (nobody_running max_open store)
first_may_step max_open store =
    let there = locks_there-none max_open store.pages in
    record {
      compatible = λ t u q writes reads. absurd (false≢true (grind (arith, reads, map.get-empty {X = Modes} nat_cmp u, map.get-empty {X = Mode} nat_cmp q)));
      locks_there = there;
      images_locked = λ tx q some. absurd (false≢true (sym (ap is_some (image_of_nobody tx q)) ∙ some));
      images_there = λ tx q some. absurd (false≢true (sym (ap is_some (image_of_nobody tx q)) ∙ some));
      holders_open = λ tx holds. absurd (false≢true (sym (ap is_some (map.get-empty {X = Modes} nat_cmp tx)) ∙ holds));
      few_pages = λ tx. omega (arith, (few_none max_open).pages tx);
      few_open = grind (arith, map.len-empty nat_cmp Images);
    }

-- and the pages of the store are clean.
pub first_clean : (max_open : ℕ) (store : PageStore) → clean_of (nobody_running max_open store) ≡ page_at store.pages
first_clean max_open store i q = clean_page_unwritten map.empty store.pages q (λ tx. image_of_nobody tx q) i
