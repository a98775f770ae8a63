-- What the view of a state has, what each step changes of it, and what follows for the clean pages
use Rattle.std.proofs.Common.{◌≡◌, ◌≢◌, ℕ, ◌≤◌, ◌+◌, Bool, false, true, cond, Option, None, Some, is_some, refl, sym, ap, subst, ◌∙◌, inl, inr, arith, ◌↔◌}
use Rattle.mlt_hash_access.proofs.Names.{nat_cmp_total, cases_eq, false≢true, nat_tests, Mode, Exclusive, Page, Pages, page_at, get_inserted, LockTable, can_read, can_write, page_count, pages_of, granted, stronger, with_page, pages_of-granted, writer_reads, Images, image_of, with_image, fresh_has_no_image, image_of-with_image, not_true, Agrees, over, own_or_clean, IsCleanFor, MayStep, LocalState, page_before, LocksPage, MakesLockedPage, WritesHeldPage, MakesPage, ReadsHeldPage, ReadsPage, View, WritesPage, own_at, seen_at, view_of}
use Rattle.std.specs.FinMap as map
use Rattle.mlt_types.specs.declared.mode.Mode.TheVariants.{Shared}
use Rattle.mlt_page.proofs.Numbered.{page_inserted}
use Rattle.mlt_page_locks.{specs.LockTables.Modes, specs.LockTables.allows_write, proofs.LockLaws.can_read-granted}
use Rattle.mlt_page_subtx.specs.Images.{or_image}
use Rattle.mlt_hash_form.{specs.File.Writes, proofs.HeldPages.writes_over}
use Rattle.mlt_hash_access.specs.Views.{SeesPage, page_written}
use Rattle.mlt_hash_access.proofs.LocalStates.{fresh_is_free, is_locked, is_made, is_written, locked, made, page_before-made, page_before-written, written}

some_if : {X : Type 0} (b : Bool) (x y : X) → cond b (Some x) None ≡ Some y → (b ≡ true) × (x ≡ y)
some_if true x y e = (refl, cc)
some_if false x y e = let none : None ≡ Some y = e in (cc, cc)

-- a page of the view is held, and the clean page is what the transaction sees with its image put back
pub seen_is_held : (m : LocalState) (q : ℕ) (first : Option Page) → seen_at m q ≡ Some first → (can_read m.locks m.running.tx q ≡ true) × (page_before m.running.images m.store.pages q ≡ first)
seen_is_held m q first sees = some_if (can_read m.locks m.running.tx q) (page_before m.running.images m.store.pages q) first sees

pub seen_held : (m : LocalState) (q : ℕ) → can_read m.locks m.running.tx q ≡ true → seen_at m q ≡ Some (page_before m.running.images m.store.pages q)
seen_held m q held = ap (λ b. cond b (Some (page_before m.running.images m.store.pages q)) None) held

pub seen_free : (m : LocalState) (q : ℕ) → can_read m.locks m.running.tx q ≡ false → seen_at m q ≡ None
seen_free m q free = ap (λ b. cond b (Some (page_before m.running.images m.store.pages q)) None) free

pub own_held : (m : LocalState) (q : ℕ) → can_read m.locks m.running.tx q ≡ true → own_at m q ≡ page_written (image_of m.running.images q) (page_at m.store.pages q)
own_held m q held = ap (λ b. cond b (page_written (image_of m.running.images q) (page_at m.store.pages q)) None) held

pub own_free : (m : LocalState) (q : ℕ) → can_read m.locks m.running.tx q ≡ false → own_at m q ≡ None
own_free m q free = ap (λ b. cond b (page_written (image_of m.running.images q) (page_at m.store.pages q)) None) free

-- **What a transaction saw is on the clean pages.**
pub agrees : (m : LocalState) (clean : ℕ → Option Page) → MayStep m → IsCleanFor m clean → Agrees (view_of m).seen clean
agrees m clean may is q first sees =
    let held = seen_is_held m q first sees in
    is.seen q (λ u ne. not_true (can_write m.locks u q) (λ writes. ne (may.compatible u m.running.tx q writes held.0))) ∙ held.1

-- clean pages that agree have, with the transaction's writes, the page that was read
pub reads_over : (old new : View) (q : ℕ) (mode : Mode) (page : Option Page) (clean : ℕ → Option Page) → ReadsPage old new q mode page → Agrees new.seen clean → over clean old.own q ≡ page
reads_over old new q mode page clean reads agree = ap (own_or_clean (old.own q)) (agree q reads.first reads.here) ∙ reads.reads

-- a page that was made is on no clean pages that agree,
pub made_is_not_clean : (old new : View) (q : ℕ) (page : Page) (clean : ℕ → Option Page) → MakesPage old new q page → Agrees new.seen clean → clean q ≡ None
made_is_not_clean old new q page clean makes agree = agree q None makes.seen_here

-- these agreed before,
pub agrees_before_make : (old new : View) (q : ℕ) (page : Page) (clean : ℕ → Option Page) → MakesPage old new q page → Agrees new.seen clean → Agrees old.seen clean
agrees_before_make old new q page clean makes agree p first sees =
    elim (cases_eq p q) [
      | inl here ↦ let none : None ≡ Some first = sym makes.fresh ∙ sym (ap old.seen here) ∙ sees in cc
      | inr elsewhere ↦ agree p first (makes.seen_others p elsewhere ∙ sees)
    ]

-- and the page is written over them
pub makes_over : (old new : View) (q : ℕ) (page : Page) (clean : ℕ → Option Page) → MakesPage old new q page → Writes (over clean old.own) (over clean new.own) q page
makes_over old new q page clean makes = writes_over clean old.own new.own q page makes.own_here makes.own_others

-- a write of a held page changes nothing of what clean pages agree with,
pub agrees_through_write : (old new : View) (q : ℕ) (page : Page) (clean : ℕ → Option Page) → WritesPage old new q page → Agrees old.seen clean ↔ Agrees new.seen clean
agrees_through_write old new q page clean writes = (λ agree p first sees. agree p first (sym (writes.seen p) ∙ sees), λ agree p first sees. agree p first (writes.seen p ∙ sees))

-- and is a write over any of them
pub writes_over_clean : (old new : View) (q : ℕ) (page : Page) (clean : ℕ → Option Page) → WritesPage old new q page → Writes (over clean old.own) (over clean new.own) q page
writes_over_clean old new q page clean writes = writes_over clean old.own new.own q page writes.here writes.others

has_written : (b : Bool) (image : Option (Option Page)) (page clean : Option Page) → (is_some clean ≡ true → is_some page ≡ true) → is_some (own_or_clean (cond b (page_written image page) None) clean) ≡ true → is_some page ≡ true
has_written true None page clean there some = there some
has_written true (Some first) None clean there some = there some
has_written true (Some first) (Some page) clean there some = refl
has_written false image page clean there some = there some

-- what clean pages with a transaction's writes have is in the store
pub over_is_there : (m : LocalState) (clean : ℕ → Option Page) (q : ℕ) → MayStep m → IsCleanFor m clean → is_some (over clean (view_of m).own q) ≡ true → is_some (page_at m.store.pages q) ≡ true
over_is_there m clean q may is some = has_written (can_read m.locks m.running.tx q) (image_of m.running.images q) (page_at m.store.pages q) (clean q) (is.there q) some

is_exclusively : (held : Option Mode) → allows_write held ≡ true → held ≡ Some Exclusive
is_exclusively None writes = absurd (false≢true writes)
is_exclusively (Some Shared) writes = absurd (false≢true writes)
is_exclusively (Some Exclusive) writes = refl

-- who may write a page holds it exclusively
pub holds_exclusively : (m : LocalState) (q : ℕ) → can_write m.locks m.running.tx q ≡ true → map.get (view_of m).modes q ≡ Some Exclusive
holds_exclusively m q writes = is_exclusively (map.get (pages_of m.locks m.running.tx) q) writes

pub may_write : (m : LocalState) (q : ℕ) → map.get (view_of m).modes q ≡ Some Exclusive → can_write m.locks m.running.tx q ≡ true
may_write m q held = ap allows_write held

-- who holds a page in any mode may read it
pub may_read : (m : LocalState) (q : ℕ) (mode : Mode) → map.get (view_of m).modes q ≡ Some mode → can_read m.locks m.running.tx q ≡ true
may_read m q mode held = ap is_some held

pub page_count_of_view : (m : LocalState) → page_count m.locks m.running.tx ≡ map.len (view_of m).modes
page_count_of_view m = refl

one_page_more : (old new : Modes) (q : ℕ) (mode : Mode) → new ≡ with_page old q mode → map.len new ≤ map.len old + 1
one_page_more old new q mode is = grind (arith, is, map.len-insert nat_cmp_total old q (stronger (map.get old q) mode))

-- a page that is read is one more at most
pub count_after_read : (old new : View) (q : ℕ) (mode : Mode) (page : Option Page) → ReadsPage old new q mode page → map.len new.modes ≤ map.len old.modes + 1
count_after_read old new q mode page reads = one_page_more old.modes new.modes q mode reads.modes

-- a page with an image is held
image_is_held : (m : LocalState) (q : ℕ) → MayStep m → is_some (image_of m.running.images q) ≡ true → can_read m.locks m.running.tx q ≡ true
image_is_held m q may some = writer_reads m.locks m.running.tx q (may.images_locked q some)

reads_back : (b : Bool) (image : Option (Option Page)) (page : Page) → (is_some image ≡ true → b ≡ true) → own_or_clean (cond b (page_written image (Some page)) None) (or_image image (Some page)) ≡ Some page
reads_back true None page held = refl
reads_back true (Some first) page held = refl
reads_back false None page held = refl
reads_back false (Some first) page held = absurd (false≢true (held refl))

-- over what was there before, a transaction reads its own page
pub reads_what_is_there : (m : LocalState) (q : ℕ) (page : Page) → MayStep m → page_at m.store.pages q ≡ Some page → own_or_clean (own_at m q) (page_before m.running.images m.store.pages q) ≡ Some page
reads_what_is_there m q page may is =
    ap (λ o. own_or_clean (cond (can_read m.locks m.running.tx q) (page_written (image_of m.running.images q) o) None) (or_image (image_of m.running.images q) o)) is
    ∙ reads_back (can_read m.locks m.running.tx q) (image_of m.running.images q) page (image_is_held m q may)

no_image_no_write : (b : Bool) (image : Option (Option Page)) (page : Option Page) → (is_some image ≡ true → b ≡ true) → page_written image page ≡ cond b (page_written image page) None
no_image_no_write true image page held = refl
no_image_no_write false None page held = refl
no_image_no_write false (Some first) page held = absurd (false≢true (held refl))

own_pages_of-granted : (locks : LockTable) (tx q : ℕ) (mode : Mode) → pages_of (granted locks tx q mode) tx ≡ with_page (pages_of locks tx) q mode
own_pages_of-granted locks tx q mode = grind (arith, nat_tests, pages_of-granted locks tx q mode tx)

reads_granted : (locks : LockTable) (tx q : ℕ) (mode : Mode) → can_read (granted locks tx q mode) tx q ≡ true
reads_granted locks tx q mode = grind (arith, nat_tests, can_read-granted locks tx q mode tx q)

reads_still : (locks : LockTable) (tx q : ℕ) (mode : Mode) (p : ℕ) → can_read locks tx p ≡ true → can_read (granted locks tx q mode) tx p ≡ true
reads_still locks tx q mode p reads = grind (arith, can_read-granted locks tx q mode tx p)

reads_elsewhere : (locks : LockTable) (tx q : ℕ) (mode : Mode) (p : ℕ) → p ≢ q → can_read (granted locks tx q mode) tx p ≡ can_read locks tx p
reads_elsewhere locks tx q mode p ne = grind (arith, nat_tests, can_read-granted locks tx q mode tx p)

own_locked : (m : LocalState) (q : ℕ) (mode : Mode) (p : ℕ) → MayStep m → own_at (locked m q mode) p ≡ own_at m p
own_locked m q mode p may =
    let own : Option Page = page_written (image_of m.running.images p) (page_at m.store.pages p) in
    elim (cases_eq p q) [
      | inl here ↦
          let held : can_read (granted m.locks m.running.tx q mode) m.running.tx p ≡ true = subst (λ p. can_read (granted m.locks m.running.tx q mode) m.running.tx p ≡ true) (sym here) (reads_granted m.locks m.running.tx q mode) in
          ap (λ b. cond b own None) held ∙ no_image_no_write (can_read m.locks m.running.tx p) (image_of m.running.images p) (page_at m.store.pages p) (image_is_held m p may)
      | inr elsewhere ↦ ap (λ b. cond b own None) (reads_elsewhere m.locks m.running.tx q mode p elsewhere)
    ]

reads_locked : (m : LocalState) (q : ℕ) (mode : Mode) (page : Page) → MayStep m → page_at m.store.pages q ≡ Some page → ReadsPage (view_of m) (view_of (locked m q mode)) q mode (Some page)
reads_locked m q mode page may is = record {
  modes = own_pages_of-granted m.locks m.running.tx q mode;
  own = λ p. own_locked m q mode p may;
  before = λ p first sees. let held = seen_is_held m p first sees in seen_held (locked m q mode) p (reads_still m.locks m.running.tx q mode p held.0) ∙ ap Some held.1;
  others = λ p ne. ap (λ b. cond b (Some (page_before m.running.images m.store.pages p)) None) (reads_elsewhere m.locks m.running.tx q mode p ne);
  first = page_before m.running.images m.store.pages q;
  here = seen_held (locked m q mode) q (reads_granted m.locks m.running.tx q mode);
  reads = reads_what_is_there m q page may is;
}

-- **A lock of a page that is there makes it readable, and changes nothing else of the view.**
pub lock_reads : (old new : LocalState) (q : ℕ) (mode : Mode) (page : Page) → MayStep old → LocksPage old new q mode → page_at old.store.pages q ≡ Some page → ReadsPage (view_of old) (view_of new) q mode (Some page)
lock_reads old new q mode page may step is = subst (λ (m : LocalState). ReadsPage (view_of old) (view_of m) q mode (Some page)) (sym (is_locked old new q mode step)) (reads_locked old q mode page may is)

-- a page that was seen as it was locked reads as what is found there
pub reads_seen : (old new : View) (q : ℕ) (mode : Mode) (page : Page) → SeesPage old new q mode → ReadsHeldPage new q page → ReadsPage old new q mode (Some page)
reads_seen old new q mode page sees found = subst (λ p. ReadsPage old new q mode p) same sees.1
  where
    first : sees.1.first ≡ found.0
    first = let both : Some sees.1.first ≡ Some found.0 = sym sees.1.here ∙ found.1 in cc

    same : sees.0 ≡ Some page
    same = sym sees.1.reads ∙ ap (λ f. own_or_clean (old.own q) f) first ∙ ap (λ o. own_or_clean o found.0) (sym (sees.1.own q)) ∙ found.2

-- and so it is held, and reads as it was seen
pub reads_held_after : (old new : View) (q : ℕ) (mode : Mode) (page : Page) (sees : SeesPage old new q mode) → sees.0 ≡ Some page → ReadsHeldPage new q page
reads_held_after old new q mode page sees is = (sees.1.first, sees.1.here, ap (λ o. own_or_clean o sees.1.first) (sees.1.own q) ∙ sees.1.reads ∙ is)

-- the mode of a page that is locked, and those of all others
pub mode_of_page : (modes : Modes) (q : ℕ) (mode : Mode) → map.get (with_page modes q mode) q ≡ Some (stronger (map.get modes q) mode)
mode_of_page modes q mode = grind (arith, nat_tests, get_inserted modes q (stronger (map.get modes q) mode) q)

pub mode_of_others : (modes : Modes) (q : ℕ) (mode : Mode) (p : ℕ) → p ≢ q → map.get (with_page modes q mode) p ≡ map.get modes p
mode_of_others modes q mode p ne = grind (arith, nat_tests, get_inserted modes q (stronger (map.get modes q) mode) p)

-- a page that is held exclusively stays so, whatever page is locked
pub exclusive_stays : (modes : Modes) (q : ℕ) (mode : Mode) (p : ℕ) → map.get modes p ≡ Some Exclusive → map.get (with_page modes q mode) p ≡ Some Exclusive
exclusive_stays modes q mode p held =
    elim (cases_eq p q) [
      | inl here ↦ ap (map.get (with_page modes q mode)) here ∙ mode_of_page modes q mode ∙ ap (λ o. Some (stronger o mode)) (ap (map.get modes) (sym here) ∙ held)
      | inr elsewhere ↦ mode_of_others modes q mode p elsewhere ∙ held
    ]

has_image : (images : Images) (q : ℕ) (first page : Option Page) → page_written (image_of (with_image images q first) q) page ≡ page
has_image images q first page = grind (arith, nat_tests, image_of-with_image images q first q)

other_image : (images : Images) (q : ℕ) (first : Option Page) (p : ℕ) → p ≢ q → image_of (with_image images q first) p ≡ image_of images p
other_image images q first p ne = grind (arith, nat_tests, image_of-with_image images q first p)

other_page : (pages : Pages) (q : ℕ) (page : Page) (p : ℕ) → p ≢ q → page_at (map.insert pages q page) p ≡ page_at pages p
other_page pages q page p ne = grind (arith, nat_tests, get_inserted pages q page p)

writes_written : (m : LocalState) (q : ℕ) (page : Page) → can_write m.locks m.running.tx q ≡ true → WritesPage (view_of m) (view_of (written m q page)) q page
writes_written m q page held = record {
  modes = refl;
  seen = λ p. ap (λ first. cond (can_read m.locks m.running.tx p) (Some first) None) (page_before-written m.running.images m.store.pages q page p);
  here =
      own_held (written m q page) q (writer_reads m.locks m.running.tx q held)
      ∙ has_image m.running.images q (page_at m.store.pages q) (page_at (map.insert m.store.pages q page) q)
      ∙ page_inserted m.store.pages q page;
  others = λ p ne i. cond (can_read m.locks m.running.tx p) (page_written (other_image m.running.images q (page_at m.store.pages q) p ne i) (other_page m.store.pages q page p ne i)) None;
}

-- **A write of a held page changes what the transaction has written there, and nothing else of the view.**
pub write_writes : (old new : LocalState) (q : ℕ) (page : Page) → WritesHeldPage old new q page → WritesPage (view_of old) (view_of new) q page
write_writes old new q page step = subst (λ (m : LocalState). WritesPage (view_of old) (view_of m) q page) (sym (is_written old new q page step)) (writes_written old q page step.held)

image_inserted : (images : Images) (q : ℕ) → image_of (map.insert images q None) q ≡ Some None
image_inserted images q = grind (arith, nat_tests, get_inserted images q None q)

image_not_inserted : (images : Images) (q p : ℕ) → p ≢ q → image_of (map.insert images q None) p ≡ image_of images p
image_not_inserted images q p ne = grind (arith, nat_tests, get_inserted images q None p)

makes_made : (m : LocalState) (q : ℕ) (page : Page) → MayStep m → page_at m.store.pages q ≡ None → MakesPage (view_of m) (view_of (made m q page)) q page
makes_made m q page may fresh =
    let free : can_read m.locks m.running.tx q ≡ false = fresh_is_free m.locks m.store.pages m.running.tx q may.locks_there fresh in
    let none : image_of m.running.images q ≡ None = fresh_has_no_image m.running.images m.store.pages q may.images_there fresh in
    let held : can_read (granted m.locks m.running.tx q Exclusive) m.running.tx q ≡ true = reads_granted m.locks m.running.tx q Exclusive in
    record {
      fresh = seen_free m q free;
      modes = own_pages_of-granted m.locks m.running.tx q Exclusive;
      seen_here = seen_held (made m q page) q held ∙ ap (λ image. Some (or_image image (page_at (map.insert m.store.pages q page) q))) (image_inserted m.running.images q);
      seen_others = λ p ne i. cond (reads_elsewhere m.locks m.running.tx q Exclusive p ne i) (Some (page_before-made m.running.images m.store.pages q page p fresh none i)) None;
      own_before = own_free m q free;
      own_here =
          own_held (made m q page) q held
          ∙ ap (λ image. page_written image (page_at (map.insert m.store.pages q page) q)) (image_inserted m.running.images q)
          ∙ page_inserted m.store.pages q page;
      own_others = λ p ne i. cond (reads_elsewhere m.locks m.running.tx q Exclusive p ne i) (page_written (image_not_inserted m.running.images q p ne i) (other_page m.store.pages q page p ne i)) None;
    }

-- **A page that is made was not in the view, and then is the transaction's own.**
pub make_makes : (old new : LocalState) (q : ℕ) (page : Page) → MayStep old → MakesLockedPage old new q page → MakesPage (view_of old) (view_of new) q page
make_makes old new q page may step = subst (λ (m : LocalState). MakesPage (view_of old) (view_of m) q page) (sym (is_made old new q page step)) (makes_made old q page may step.fresh)

-- a page has an image exactly when the view has it as written
written_has_image : (b : Bool) (image : Option (Option Page)) (page : Option Page) → is_some (cond b (page_written image page) None) ≡ true → is_some image ≡ true
written_has_image true None page written = absurd (false≢true written)
written_has_image true (Some first) page written = refl
written_has_image false image page written = absurd (false≢true written)

pub own_has_image : (m : LocalState) (q : ℕ) → is_some ((view_of m).own q) ≡ true → is_some (image_of m.running.images q) ≡ true
own_has_image m q written = written_has_image (can_read m.locks m.running.tx q) (image_of m.running.images q) (page_at m.store.pages q) written

image_is_written : (image : Option (Option Page)) (page : Option Page) → is_some image ≡ true → is_some page ≡ true → is_some (page_written image page) ≡ true
image_is_written None page image there = absurd (false≢true image)
image_is_written (Some first) page image there = there

pub image_is_own : (m : LocalState) (q : ℕ) → MayStep m → is_some (image_of m.running.images q) ≡ true → is_some ((view_of m).own q) ≡ true
image_is_own m q may image = ap is_some (own_held m q (image_is_held m q may image)) ∙ image_is_written (image_of m.running.images q) (page_at m.store.pages q) image (may.images_there q image)

-- **What a transaction has written or made it holds exclusively.**
pub written_is_exclusive : (m : LocalState) (q : ℕ) → MayStep m → is_some ((view_of m).own q) ≡ true → map.get (view_of m).modes q ≡ Some Exclusive
written_is_exclusive m q may written = holds_exclusively m q (may.images_locked q (own_has_image m q written))
