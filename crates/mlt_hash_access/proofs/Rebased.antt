-- What a view knows once what was written so far is taken as seen
use Rattle.std.proofs.Common.{◌≡◌, ℕ, true, Option, None, Some, is_some, unwrap_or, refl, sym, ap, ◌∙◌, ◌↔◌}
use Rattle.mlt_hash_access.proofs.Names.{false≢true, Mode, Page, FilePages, Agrees, over, own_or_clean, seen_as, MayStep, LocalState, TouchesOnePage, HasWritten, MakesPage, ReadsHeldPage, ReadsPage, View, WritesPage, rebased, seen_with, view_of}
use Rattle.mlt_hash_access.proofs.OwnSteps.{own_step_sees_more, own_step_writes_more}

none_unless : {X Y : Type 0} (w : Option X) (o : Option Y) → o ≡ None → (is_some w ≡ true → is_some o ≡ true) → w ≡ None
none_unless None o none held = refl
none_unless (Some x) o none held = absurd (false≢true (sym (ap is_some none) ∙ held refl))

pub same_some : {X : Type 0} (x y : X) → Some x ≡ Some y → x ≡ y
same_some x y same = cc

-- one page, of which `w` was written before
over_agrees : (w : Option Page) (seen : Option (Option Page)) (clean p : Option Page) → ((first : Option Page) → seen ≡ Some first → clean ≡ first) → seen_with w seen ≡ Some p → own_or_clean w clean ≡ p
over_agrees None seen clean p agree sees = agree p sees
over_agrees (Some page) seen clean p agree sees = same_some (Some page) p sees

clean_below : (w : Option Page) (seen : Option (Option Page)) (now : Option Page) → ((p : Option Page) → seen_with w seen ≡ Some p → now ≡ p) → own_or_clean w (unwrap_or seen now) ≡ now
clean_below None None now agree = refl
clean_below None (Some first) now agree = sym (agree first refl)
clean_below (Some page) seen now agree = sym (agree (Some page) refl)

seen_first : (w : Option Page) (seen : Option (Option Page)) (first : Option Page) → seen ≡ Some first → seen_with w seen ≡ Some (own_or_clean w first)
seen_first None seen first sees = sees
seen_first (Some page) seen first sees = refl

pub seen_more : (w : Option Page) (old new : Option (Option Page)) (first : Option Page) → (old ≡ Some first → new ≡ Some first) → seen_with w old ≡ Some first → seen_with w new ≡ Some first
seen_more None old new first more sees = more sees
seen_more (Some page) old new first more sees = sees

pub written_over : (w own first : Option Page) → (is_some w ≡ true → is_some own ≡ true) → own_or_clean own (own_or_clean w first) ≡ own_or_clean own first
written_over None own first written = refl
written_over (Some page) None first written = absurd (false≢true (written refl))
written_over (Some page) (Some own) first written = refl

read_first : (w own : Option Page) (seen : Option (Option Page)) (first : Option Page) (page : Page) → (is_some w ≡ true → (is_some seen ≡ true) × (is_some own ≡ true)) → seen_with w seen ≡ Some first → own_or_clean own first ≡ Some page
    → (was : Option Page) × (seen ≡ Some was) × (own_or_clean own was ≡ Some page)
read_first None own seen first page written sees reads = (first, sees, reads)
read_first (Some before) None seen first page written sees reads = absurd (false≢true (written refl).1)
read_first (Some before) (Some own) seen first page written sees reads = let was = seen_as seen (written refl).0 in (was.0, was.1, reads)

module _ (before : FilePages) (view : View) where
  -- **What agrees with the view is, with the writes over it, what agrees with the rebased view,**
  pub rebased_agrees : (clean : ℕ → Option Page) → Agrees view.seen clean → Agrees (rebased before view).seen (over clean before)
  rebased_agrees clean agree q p sees = over_agrees (before q) (view.seen q) (clean q) p (λ first. agree q first) sees

  -- **and nothing else agrees with it.**
  pub agrees_below : (now : ℕ → Option Page) → Agrees (rebased before view).seen now → (clean : ℕ → Option Page) × Agrees view.seen clean × ((q : ℕ) → over clean before q ≡ now q)
  agrees_below now agree = (
    λ q. unwrap_or (view.seen q) (now q),
    λ q p sees. ap (λ (o : Option (Option Page)). unwrap_or o (now q)) sees,
    λ q. clean_below (before q) (view.seen q) (now q) (λ p. agree q p),
  )

  module _ (written : HasWritten before view) where
    -- **Held pages read as they did.**
    pub rebased_reads : (q : ℕ) (page : Page) → ReadsHeldPage (rebased before view) q page ↔ ReadsHeldPage view q page
    rebased_reads q page = (
      λ reads. read_first (before q) (view.own q) (view.seen q) reads.0 page (written q) reads.1 reads.2,
      λ reads. (own_or_clean (before q) reads.0, seen_first (before q) (view.seen q) reads.0 reads.1, written_over (before q) (view.own q) reads.0 (λ some. (written q some).1) ∙ reads.2),
    )

-- **Each step on a page is the same step of the rebased view.**
module _ (before : FilePages) (old new : View) (written : HasWritten before old) where
  pub rebased_reads_page : (q : ℕ) (mode : Mode) (page : Option Page) → ReadsPage old new q mode page → ReadsPage (rebased before old) (rebased before new) q mode page
  rebased_reads_page q mode page reads = record {
    modes = reads.modes;
    own = reads.own;
    before = λ p first. seen_more (before p) (old.seen p) (new.seen p) first (reads.before p first);
    others = λ p elsewhere. ap (seen_with (before p)) (reads.others p elsewhere);
    first = own_or_clean (before q) reads.first;
    here = seen_first (before q) (new.seen q) reads.first reads.here;
    reads = written_over (before q) (old.own q) reads.first (λ some. (written q some).1) ∙ reads.reads;
  }

  pub rebased_makes_page : (q : ℕ) (page : Page) → MakesPage old new q page → MakesPage (rebased before old) (rebased before new) q page
  rebased_makes_page q page makes =
      let none : before q ≡ None = none_unless (before q) (old.seen q) makes.fresh (λ some. (written q some).0) in
      record {
        fresh = ap (λ w. seen_with w (old.seen q)) none ∙ makes.fresh;
        modes = makes.modes;
        seen_here = ap (λ w. seen_with w (new.seen q)) none ∙ makes.seen_here;
        seen_others = λ p elsewhere. ap (seen_with (before p)) (makes.seen_others p elsewhere);
        own_before = makes.own_before;
        own_here = makes.own_here;
        own_others = makes.own_others;
      }

pub rebased_writes_page : (before : FilePages) (old new : View) (q : ℕ) (page : Page) → WritesPage old new q page → WritesPage (rebased before old) (rebased before new) q page
rebased_writes_page before old new q page writes = record {
  modes = writes.modes;
  seen = λ p. ap (seen_with (before p)) (writes.seen p);
  here = writes.here;
  others = writes.others;
}

-- **What was written before stays held and written through the transaction's own steps.**
pub written_stays : (before : FilePages) (old new : LocalState) → MayStep old → TouchesOnePage old new → HasWritten before (view_of old) → HasWritten before (view_of new)
written_stays before old new may touches written q some =
    let was = seen_as ((view_of old).seen q) (written q some).0 in
    (ap is_some (own_step_sees_more old new q was.0 may touches was.1), own_step_writes_more old new may touches q (written q some).1)
