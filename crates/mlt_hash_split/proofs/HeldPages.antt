-- What the pages that a walk holds read as, and what stays of them from step to step
use Rattle.std.proofs.Common.{ℕ, ◌≡◌, true, is_some, unwrap_or, Option, Some, None, refl, sym, ◌∙◌, ap, subst}
use Rattle.std.specs.FinMap as map
use Rattle.mlt_hash_split.proofs.Names.{both_ways, Exclusive, BucketFields, HeadFields, Page, page_at, FilePages, Agrees, over, own_or_clean, MayStep, LocalState, MakesPage, View, view_of, view_over, reads_over_writes, SplitTarget, held_page, mode_of_others}
use Rattle.mlt_hash_access.{specs.LocalStates.HasFileOver, specs.LocalStates.IsCleanFor, specs.Views.HasWritten, specs.Views.ReadsHeldPage, proofs.Since.agrees_over, proofs.Since.reads_below_writes, proofs.Since.there_since}
use Rattle.mlt_hash_split.proofs.{Closing.HasClean, Later.exclusive_here}

-- a hash file as it is clean now
pub clean_now : (target : SplitTarget) (m : LocalState) → MayStep m → HasFileOver target.bits target.root target.before m → HasClean target (view_over target.before m)
clean_now target m may file = record { clean = over file.clean target.before; agrees = agrees_over target.before m file.clean may file.is_clean; form = file.form }

-- and as it is after a step, if it is clean still
pub agrees_later : (target : SplitTarget) (old new : LocalState) (was : MayStep old) → MayStep new → (file : HasFileOver target.bits target.root target.before old) → IsCleanFor new file.clean → Agrees (view_over target.before new).seen (clean_now target old was file).clean
unfolding clean_now
agrees_later target old new was may file is_clean = agrees_over target.before new file.clean may is_clean

pub clean_later : (target : SplitTarget) (old new : LocalState) → MayStep new → (file : HasFileOver target.bits target.root target.before old) → IsCleanFor new file.clean → HasClean target (view_over target.before new)
clean_later target old new may file is_clean = record { clean = over file.clean target.before; agrees = agrees_over target.before new file.clean may is_clean; form = file.form }

-- the pages of the walk's file are in the store
pub file_is_there : (target : SplitTarget) (m : LocalState) (may : MayStep m) → HasWritten target.before (view_of m) → (file : HasFileOver target.bits target.root target.before m)
    → (q : ℕ) → is_some (over (clean_now target m may file).clean (view_of m).own q) ≡ true → is_some (page_at m.store.pages q) ≡ true
unfolding clean_now
file_is_there target m may written file q some = there_since target.before m written file.clean q may file.is_clean some

-- what is read of a held page is what the view has
pub reads_as : (view : View) (q : ℕ) (p : Option Page) → (first : Option Page) × (view.seen q ≡ Some first) × (own_or_clean (view.own q) first ≡ p) → held_page view q ≡ p
reads_as view q p reads = ap (λ o. own_or_clean (view.own q) (unwrap_or o None)) reads.1 ∙ reads.2

pub read_of : (seen : Option (Option Page)) (own : Option Page) (page : Page) → is_some seen ≡ true → own_or_clean own (unwrap_or seen None) ≡ Some page → (first : Option Page) × (seen ≡ Some first) × (own_or_clean own first ≡ Some page)
read_of None own page held is = cc
read_of (Some first) own page held is = (first, refl, is)

-- and what the view has of a held page is read, also below what was written before
pub reads_held : (before : FilePages) (m : LocalState) (q p : ℕ) (page : Page) → q ≡ p → HasWritten before (view_of m) → is_some ((view_over before m).seen p) ≡ true → held_page (view_over before m) p ≡ Some page → ReadsHeldPage (view_of m) q page
reads_held before m q p page same written held is =
    subst (λ n. ReadsHeldPage (view_of m) n page) (sym same) (reads_below_writes before m written p page (read_of ((view_over before m).seen p) ((view_over before m).own p) page held is))

-- so the header is held as it was read
pub header_as_read : (before : FilePages) (m : LocalState) (q root : ℕ) (header : HeadFields) → q ≡ root → HasWritten before (view_of m) → ReadsHeldPage (view_of m) q (Page.Head header) → held_page (view_over before m) root ≡ Some (Page.Head header)
header_as_read before m q root header same written reads =
    subst (λ n. held_page (view_over before m) n ≡ Some (Page.Head header)) same (reads_as (view_over before m) q (Some (Page.Head header)) (reads_over_writes before m written q (Page.Head header) reads))

pub same_header : (view : View) (q : ℕ) (old new : HeadFields) → held_page view q ≡ Some (Page.Head old) → held_page view q ≡ Some (Page.Head new) → old ≡ new
same_header view q old new is_old is_new = let e : Some (Page.Head old) ≡ Some (Page.Head new) = sym is_old ∙ is_new in cc

pub same_bucket : (view : View) (q : ℕ) (old new : BucketFields) → held_page view q ≡ Some (Page.Bucket old) → held_page view q ≡ Some (Page.Bucket new) → old ≡ new
same_bucket view q old new is_old is_new = let e : Some (Page.Bucket old) ≡ Some (Page.Bucket new) = sym is_old ∙ is_new in cc

module _ (old new : View) (q : ℕ) (page : Page) (makes : MakesPage old new q page) where
  -- a page that is held is not the one that is made
  pub not_made : (p : ℕ) → is_some (old.seen p) ≡ true → p ≡ q → ⊥
  not_made p held e = both_ways _ (ap is_some (ap old.seen e ∙ makes.fresh)) held

  pub seen_after_make : (p : ℕ) → is_some (old.seen p) ≡ true → new.seen p ≡ old.seen p
  seen_after_make p held = makes.seen_others p (not_made p held)

  pub reads_after_make : (p : ℕ) → is_some (old.seen p) ≡ true → held_page new p ≡ held_page old p
  reads_after_make p held = λ i. own_or_clean (makes.own_others p (not_made p held) i) (unwrap_or (seen_after_make p held i) None)

  pub mode_after_make : (p : ℕ) → is_some (old.seen p) ≡ true → map.get new.modes p ≡ map.get old.modes p
  mode_after_make p held = ap (λ modes. map.get modes p) makes.modes ∙ mode_of_others old.modes q Exclusive p (not_made p held)

  pub exclusive_after_make : map.get new.modes q ≡ Some Exclusive
  exclusive_after_make = ap (λ modes. map.get modes q) makes.modes ∙ exclusive_here old.modes q

  -- all that was seen still is
  pub grows_by_make : (p : ℕ) (first : Option Page) → old.seen p ≡ Some first → new.seen p ≡ Some first
  grows_by_make p first sees = seen_after_make p (ap is_some sees) ∙ sees
