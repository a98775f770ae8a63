-- What a transaction knows over what it wrote before. Other crates cite this module.
use Rattle.std.proofs.Common.{◌≡◌, ℕ, true, Option, None, Some, is_some, unwrap_or, refl, sym, ap, ◌∙◌}
use Rattle.std.specs.FinMap as map
use Rattle.mlt_hash_access.proofs.Names.{false≢true, Mode, Exclusive, Page, Slot, page_with_slot, page_at, FilePages, Agrees, over, own_or_clean, IsCleanFor, MayStep, LocalState, TouchesOnePage, HasWritten, IsUnwritten, ReadsHeldPage, ReadsPage, View, WritesSlot, rebased, seen_with, view_of}
use Rattle.mlt_hash_access.{specs.LocalStates.no_writes, specs.Views.IsUnwrittenSince, specs.Views.view_over, proofs.OwnSteps.own_step_sees_more}
use Rattle.mlt_hash_access.proofs.Rebased.{rebased_agrees, rebased_reads, rebased_writes_page, seen_more, written_over}
use Rattle.mlt_hash_access.proofs.Views.{agrees, may_read, over_is_there, seen_held, written_is_exclusive}

-- who wrote nothing before holds and has written all of it
pub nothing_written : (view : View) → HasWritten no_writes view
nothing_written view q some = absurd (false≢true some)

pub unwritten_anew : (view : View) → IsUnwritten view → IsUnwrittenSince no_writes view
unwritten_anew view none = record { own = none; seen = λ q page is. absurd (false≢true (ap is_some is)) }

-- clean pages with these writes over them agree with what is seen
pub agrees_over : (before : FilePages) (m : LocalState) (clean : ℕ → Option Page) → MayStep m → IsCleanFor m clean → Agrees (view_over before m).seen (over clean before)
agrees_over before m clean may is_clean = rebased_agrees before (view_of m) clean (agrees m clean may is_clean)

some_with : (w : Option Page) (o : Option (Option Page)) → is_some o ≡ true → is_some (seen_with w o) ≡ true
some_with None o held = held
some_with (Some page) o held = refl

-- one page that is held reads over what was written as it reads
pub read_over_writes : (w own : Option Page) (seen : Option (Option Page)) → (is_some w ≡ true → is_some own ≡ true) → own_or_clean own (unwrap_or (seen_with w seen) None) ≡ own_or_clean own (unwrap_or seen None)
read_over_writes None own seen written = refl
read_over_writes (Some page) None seen written = absurd (false≢true (written refl))
read_over_writes (Some page) (Some own) seen written = refl

module _ (before : FilePages) (m : LocalState) where
  -- a page that is held in some mode was seen
  pub seen_over_held : (q : ℕ) (mode : Mode) → map.get (view_of m).modes q ≡ Some mode → is_some ((view_over before m).seen q) ≡ true
  seen_over_held q mode held = some_with (before q) ((view_of m).seen q) (ap is_some (seen_held m q (may_read m q mode held)))

  module _ (written : HasWritten before (view_of m)) where
    -- what is read of a held page is read over them,
    pub reads_over_writes : (q : ℕ) (page : Page) → ReadsHeldPage (view_of m) q page → ReadsHeldPage (view_over before m) q page
    reads_over_writes q page = (rebased_reads before (view_of m) written q page).1

    -- and the other way round,
    pub reads_below_writes : (q : ℕ) (page : Page) → ReadsHeldPage (view_over before m) q page → ReadsHeldPage (view_of m) q page
    reads_below_writes q page = (rebased_reads before (view_of m) written q page).0

    -- and what clean pages have with them and all later writes is in the store
    pub there_since : (clean : FilePages) (q : ℕ) → MayStep m → IsCleanFor m clean → is_some (over (over clean before) (view_of m).own q) ≡ true → is_some (page_at m.store.pages q) ≡ true
    there_since clean q may is_clean some =
        over_is_there m clean q may is_clean (ap is_some (sym (written_over (before q) ((view_of m).own q) (clean q) (λ some. (written q some).1))) ∙ some)

-- what is seen over what was written before only grows
pub over_sees_more : (before : FilePages) (old new : LocalState) (q : ℕ) (first : Option Page) → MayStep old → TouchesOnePage old new → (view_over before old).seen q ≡ Some first → (view_over before new).seen q ≡ Some first
over_sees_more before old new q first may touches = seen_more (before q) ((view_of old).seen q) ((view_of new).seen q) first (own_step_sees_more old new q first may touches)

-- a slot of a held bucket is written over it
pub rebased_writes_slot : (before : FilePages) (old new : View) (q i : ℕ) (s : Slot) → HasWritten before old → WritesSlot old new q i s → WritesSlot (rebased before old) (rebased before new) q i s
rebased_writes_slot before old new q i s written writes bucket reads = rebased_writes_page before old new q (page_with_slot bucket i s) (writes bucket ((rebased_reads before old written q (Page.Bucket bucket)).0 reads))

-- one page that reads as it was written before
read_same : (w own : Option Page) (seen : Option (Option Page)) (first : Option Page) → own ≡ w → ((p : Page) → w ≡ Some p → seen ≡ Some (Some p)) → seen ≡ Some first → own_or_clean own first ≡ first
read_same None own seen first is sees here = ap (λ o. own_or_clean o first) is
read_same (Some p) own seen first is sees here = ap (λ o. own_or_clean o first) is ∙ (let both : Some (Some p) ≡ Some first = sym (sees p refl) ∙ here in let same : Some p ≡ first = cc in same)

over_same : (w own : Option Page) (seen : Option (Option Page)) (clean : Option Page) → own ≡ w → ((p : Page) → w ≡ Some p → seen ≡ Some (Some p)) → ((p : Option Page) → seen ≡ Some p → clean ≡ p) → own_or_clean own clean ≡ clean
over_same None own seen clean is sees agree = ap (λ o. own_or_clean o clean) is
over_same (Some p) own seen clean is sees agree = ap (λ o. own_or_clean o clean) is ∙ sym (agree (Some p) (sees p refl))

-- **Where nothing is written since, what is read is what is seen,**
module _ (before : FilePages) (view : View) (unwritten : IsUnwrittenSince before view) where
  pub reads_since : (q : ℕ) (first : Option Page) → view.seen q ≡ Some first → own_or_clean (view.own q) first ≡ first
  reads_since q first = read_same (before q) (view.own q) (view.seen q) first (unwritten.own q) (unwritten.seen q)

  pub over_since : (clean : FilePages) → Agrees view.seen clean → over clean view.own ≡ clean
  over_since clean agree = λ i q. over_same (before q) (view.own q) (view.seen q) (clean q) (unwritten.own q) (unwritten.seen q) (agree q) i

-- **and so it is of a page that is read then,**
pub sees_page_since : (before : FilePages) (old new : View) (q : ℕ) (mode : Mode) (page : Option Page) → IsUnwrittenSince before old → ReadsPage old new q mode page → new.seen q ≡ Some page
sees_page_since before old new q mode page unwritten reads =
    reads.here ∙ ap Some (sym (read_same (before q) (old.own q) (new.seen q) reads.first (unwritten.own q) (λ p is. reads.before q (Some p) (unwritten.seen q p is)) reads.here) ∙ reads.reads)

-- **and nothing is written still.**
pub still_unwritten : (before : FilePages) (old new : View) (q : ℕ) (mode : Mode) (page : Option Page) → IsUnwrittenSince before old → ReadsPage old new q mode page → IsUnwrittenSince before new
still_unwritten before old new q mode page unwritten reads = record {
  own = λ p. reads.own p ∙ unwritten.own p;
  seen = λ p was is. reads.before p (Some was) (unwritten.seen p was is);
}

-- **All that is written so far may be what was written before:** it is held, nothing is written since, and what was read is seen.
pub all_written : (m : LocalState) → MayStep m → HasWritten (view_of m).own (view_of m)
all_written m may q some = (ap is_some (seen_held m q (may_read m q Exclusive (written_is_exclusive m q may some))), some)

pub nothing_since : (view : View) → IsUnwrittenSince view.own (rebased view.own view)
nothing_since view = record { own = λ q. refl; seen = λ q page is. ap (λ w. seen_with w (view.seen q)) is }

seen_as_read : (own : Option Page) (seen : Option (Option Page)) (page : Page) → is_some seen ≡ true → own_or_clean own (unwrap_or seen None) ≡ Some page → seen_with own seen ≡ Some (Some page)
seen_as_read None None page held reads = absurd (false≢true held)
seen_as_read None (Some first) page held reads = ap Some reads
seen_as_read (Some own) seen page held reads = ap Some reads

pub read_is_seen : (view : View) (q : ℕ) (page : Page) → is_some (view.seen q) ≡ true → own_or_clean (view.own q) (unwrap_or (view.seen q) None) ≡ Some page → (rebased view.own view).seen q ≡ Some (Some page)
read_is_seen view q page held reads = seen_as_read (view.own q) (view.seen q) page held reads
