-- What stays of a split under way as its walk locks, writes and makes pages
use Rattle.std.proofs.Common.{◌≡◌, ℕ, ◌-◌, ◌<◌, ◌≤◌, ◌^◌, true, List, Option, None, Some, is_some, unwrap_or, refl, sym, ap, subst, ◌∙◌, inl, inr, arith, ◌⊎◌, ◌↔◌, Result, Err}
use Rattle.std.specs.FinMap as map
use Rattle.mlt_hash_split.proofs.Names.{Exclusive, Page, HeadFields, Modes, can_write, with_page, stronger_exclusive, HasForm, Agrees, over, own_or_clean, keeps_more, seen_as, MayStep, LocalState, MakesPage, ReadsPage, View, WritesPage, view_of, view_over, SplitTarget, held_page, Begins, HoldsAmongAt, IsUnderWay, SplitFields, StandsAt, IsMaking, SplitPhase, SplitAnswer, pow-le-pow_right, may_write}
use Rattle.mlt_hash_split.{proofs.Closing.HasClean, specs.Tells.Tells}
use Rattle.mlt_types.specs.declared.refusal.Refusal.{Refusal}
use Rattle.mlt_hash_access.proofs.Views.{exclusive_stays, mode_of_page}

-- what was seen is seen still, what was held exclusively is held so, and the header is not written
pub record IsLater (root : ℕ) (view view' : View) : Type 0 where
  pub before : (p : ℕ) (first : Option Page) → view.seen p ≡ Some first → view'.seen p ≡ Some first
  pub exclusive : (p : ℕ) → map.get view.modes p ≡ Some Exclusive → map.get view'.modes p ≡ Some Exclusive
  pub head : view'.own root ≡ view.own root

-- page q, which was there, is locked exclusively and written
pub record Rewrites (view view' : View) (q : ℕ) (page : Page) : Type 0 where
  pub modes : view'.modes ≡ with_page view.modes q Exclusive
  pub before : (p : ℕ) (first : Option Page) → view.seen p ≡ Some first → view'.seen p ≡ Some first
  pub here : view'.own q ≡ Some page
  pub others : (p : ℕ) → (p ≡ q → ⊥) → view'.own p ≡ view.own p

pub rewrites : (view mid view' : View) (q : ℕ) (was : Option Page) (page : Page) → ReadsPage view mid q Exclusive was → WritesPage mid view' q page → Rewrites view view' q page
rewrites view mid view' q was page reads writes = record {
  modes = writes.modes ∙ reads.modes;
  before = λ p first sees. writes.seen p ∙ reads.before p first sees;
  here = writes.here;
  others = λ p ne. writes.others p ne ∙ reads.own p;
}

-- a page that is locked exclusively is held so,
pub exclusive_here : (modes : Modes) (q : ℕ) → map.get (with_page modes q Exclusive) q ≡ Some Exclusive
exclusive_here modes q = mode_of_page modes q Exclusive ∙ ap Some (stronger_exclusive (map.get modes q))

pub later_by_rewrite : (root : ℕ) (view view' : View) (q : ℕ) (page : Page) → (root ≡ q → ⊥) → Rewrites view view' q page → IsLater root view view'
later_by_rewrite root view view' q page ne rewrites = record {
  before = rewrites.before;
  exclusive = λ p was. subst (λ (modes : Modes). map.get modes p ≡ Some Exclusive) (sym rewrites.modes) (exclusive_stays view.modes q Exclusive p was);
  head = rewrites.others root ne;
}

-- a page that is made is none that was seen
pub made_is_another : (view view' : View) (q : ℕ) (page : Page) (p : ℕ) (first : Option Page) → MakesPage view view' q page → view.seen p ≡ Some first → p ≡ q → ⊥
made_is_another view view' q page p first makes sees e =
    let none : None ≡ Some first = sym makes.fresh ∙ sym (ap view.seen e) ∙ sees in
    cc

pub later_by_making : (root : ℕ) (view view' : View) (q : ℕ) (page : Page) → is_some (view.seen root) ≡ true → MakesPage view view' q page → IsLater root view view'
later_by_making root view view' q page held makes =
    let head = seen_as (view.seen root) held in
    record {
      before = λ p first sees. makes.seen_others p (made_is_another view view' q page p first makes sees) ∙ sees;
      exclusive = λ p was. subst (λ (modes : Modes). map.get modes p ≡ Some Exclusive) (sym makes.modes) (exclusive_stays view.modes q Exclusive p was);
      head = makes.own_others root (made_is_another view view' q page root head.0 makes head.1);
    }

-- clean pages that agree with a later view agreed before
pub agreed_before : (root : ℕ) (view view' : View) (clean : ℕ → Option Page) → IsLater root view view' → Agrees view'.seen clean → Agrees view.seen clean
agreed_before root view view' clean later agree p first sees = agree p first (later.before p first sees)

-- a page that is held is held still
pub held_still : (root : ℕ) (view view' : View) (q : ℕ) → IsLater root view view' → is_some (view.seen q) ≡ true → is_some (view'.seen q) ≡ true
held_still root view view' q later held =
    let was = seen_as (view.seen q) held in
    ap is_some (later.before q was.0 was.1)

-- the header reads as before
pub same_head : (root : ℕ) (view view' : View) → IsLater root view view' → is_some (view.seen root) ≡ true → held_page view' root ≡ held_page view root
same_head root view view' later held =
    let was = seen_as (view.seen root) held in
    let now : view'.seen root ≡ view.seen root = later.before root was.0 was.1 ∙ sym was.1 in
    λ i. own_or_clean (later.head i) (unwrap_or (now i) None)

-- over clean pages that agree a held page reads as it is held
pub held_over : (view : View) (q : ℕ) (clean : ℕ → Option Page) → Agrees view.seen clean → is_some (view.seen q) ≡ true → over clean view.own q ≡ held_page view q
held_over view q clean agree held =
    let was = seen_as (view.seen q) held in
    ap (own_or_clean (view.own q)) (agree q was.0 was.1 ∙ sym (ap (λ (o : Option (Option Page)). unwrap_or o None) was.1))

-- **A split stays under way at a later view**, where it stands and the pages that are held are among those of its new phase.
pub stays_under_way : (target : SplitTarget) (view view' : View) (split : SplitFields) (made : HeadFields) (second : List ℕ) (phase : SplitPhase) (under : IsUnderWay target view split) → IsLater target.root view view'
    → ((clean : ℕ → Option Page) → Agrees view'.seen clean → HasForm target.bits clean target.root → StandsAt phase target under.splitters (over clean under.rest) (over clean view'.own) (record split { made = made; second = second; phase = phase }) under.bucket)
    → HoldsAmongAt phase target.held_before view' under.header.dirs (record split { made = made; second = second; phase = phase })
    → IsUnderWay target view' (record split { made = made; second = second; phase = phase })
stays_under_way target view view' split made second phase under later stands among = record {
  bounded = under.bounded;
  rest = under.rest;
  splitters = under.splitters;
  header = under.header;
  bucket = under.bucket;
  keeps = keeps_more target.bits target.active target.root view.seen view'.seen under.rest later.before under.keeps;
  head_held = held_still target.root view view' target.root later under.head_held;
  head = same_head target.root view view' later under.head_held ∙ under.head;
  old_held = held_still target.root view view' split.old_page later under.old_held;
  exclusive = later.exclusive split.old_page under.exclusive;
  new_exclusive = later.exclusive split.new_page under.new_exclusive;
  doubles = λ deep. later.exclusive target.root (under.doubles deep);
  fewer = under.fewer;
  absent = under.absent;
  no_ghost = under.no_ghost;
  room = under.room;
  small = under.small;
  few_before = under.few_before;
  begins = λ clean agree form. let b = under.begins clean (agreed_before target.root view view' clean later agree) form in record {
    may = b.may;
    was = b.was;
    seed = b.seed;
    depth = b.depth;
    directory_depth = b.directory_depth;
    deep = b.deep;
  };
  stands = stands;
  among = among;
}

pub begins_now : (target : SplitTarget) (m : LocalState) (split : SplitFields) → MayStep m → (file : HasClean target (view_over target.before m)) (under : IsUnderWay target (view_over target.before m) split) → Begins target (over file.clean under.rest) split under.bucket
begins_now target m split may file under = under.begins file.clean file.agrees file.form

pub stands_now : (target : SplitTarget) (m : LocalState) (split : SplitFields) (phase : SplitPhase) → split.phase ≡ phase → MayStep m → (file : HasClean target (view_over target.before m)) (under : IsUnderWay target (view_over target.before m) split)
    → StandsAt phase target under.splitters (over file.clean under.rest) (over file.clean (view_over target.before m).own) split under.bucket
stands_now target m split phase is may file under =
    subst (λ (p : SplitPhase). StandsAt p target under.splitters (over file.clean under.rest) (over file.clean (view_over target.before m).own) split under.bucket) is (under.stands file.clean file.agrees file.form)

-- a directory that doubles has at most half of the header's pages
pub half_pages : (g : ℕ) → g < 16 → 2 ^ (g - 8) ≤ 128
half_pages g h =
    let le : g - 8 ≤ 7 = omega arith in
    let top : 2 ^ (g - 8) ≤ 2 ^ 7 = pow-le-pow_right {n = 2} (omega arith) le in
    omega (arith, top)

abbrev err : {A : Type 0} → Refusal → Result A Refusal
err why = Err why

-- why a page was not made, or not written
pub refused_to_make : {A : Type 0} (target : SplitTarget) (old new : LocalState) (before after : SplitFields) (result : Result A Refusal) (why : Refusal) → IsMaking before.phase → result ≡ Err why → (result ≡ Err Refusal.NoRoom) ↔ (map.len old.store.pages ≡ old.store.max_pages) → (why ≡ Refusal.NoRoom) ⊎ (why ≡ Refusal.OutOfMemory) → Tells target old new before after (SplitAnswer.Refused why)
refused_to_make {A} target old new before after result why making is full either =
    elim either [
      | inl room ↦ subst (λ (w : Refusal). Tells target old new before after (SplitAnswer.Refused w)) (sym room) (making, full.0 (is ∙ ap (err {A = A}) room))
      | inr memory ↦ subst (λ (w : Refusal). Tells target old new before after (SplitAnswer.Refused w)) (sym memory) refl
    ]

-- a page that was locked exclusively may be written
pub locked_may_be_written : (old mid : LocalState) (q : ℕ) (was : Option Page) → ReadsPage (view_of old) (view_of mid) q Exclusive was → can_write mid.locks mid.running.tx q ≡ true
locked_may_be_written old mid q was reads = may_write mid q (subst (λ (modes : Modes). map.get modes q ≡ Some Exclusive) (sym reads.modes) (exclusive_here (view_of old).modes q))
