-- What a walk has read on its way to its bucket, and the modes of its pages, up to its end
use Rattle.std.proofs.Common.{◌≡◌, ◌≢◌, ℕ, ◌<◌, ◌⊎◌, true, false, List, Option, None, Some, is_some, unwrap_or, refl, sym, ap, subst, ◌∙◌, inl, inr, arith, nat_cmp}
use Rattle.std.specs.FinMap as map
use Rattle.std.specs.FinSet as set
use Rattle.mlt_hash.proofs.Names.{cases_eq, false≢true, Mode, Exclusive, Page, BucketFields, HeadFields, Modes, mode_held, stronger, with_page, stronger_exclusive, HasForm, dir_of, Agrees, own_or_clean, MayStep, LocalState, TouchesOnePage, MakesPage, View, WritesPage, step_keeps_tx, mode_of_others, mode_of_page, SplitTarget, IsUnderWay, SplitFields, IsDone, IsMaking, IsNextPage, SplitAnswer, bucket_held, bucket_mode, directory_held, directory_mode, header_held, header_mode, WalkContext, Before, GoesAfter, HasRead, HoldsByPass, IsAtBucket, IsSplitting, StaysNarrow, WalkFields, split_target, view_for, Pass}
use Rattle.mlt_hash_access.proofs.{Reading.bucket_still, OwnSteps.own_step_writes_more, Since.over_sees_more, Views.exclusive_stays}
use Rattle.mlt_hash_split.{specs.Steps.IsKeysPage, proofs.HeldPages.exclusive_after_make, proofs.HeldPages.grows_by_make, proofs.Locks.done_writes_what_it_locks, proofs.Locks.locks_its_page_alone, proofs.Narrow.narrow_leaves_header, proofs.Narrow.narrow_makes_none, proofs.Narrow.narrow_next_page}
use Rattle.mlt_hash.specs.Passes.{MayHoldMore}

-- what was read is so whoever is open,
abbrev pub read_as : (context : WalkContext) (active : set.FinSet nat_cmp) (key : ℕ) (view : View) (found : Option ℕ) → HasRead context key view found → HasRead (record context { active = active }) key view found
read_as context active key view found read = record { dir = read.dir; bucket = read.bucket; way = read.way; shallow = read.shallow }

-- and whatever it is called
abbrev pub read_of : (context : WalkContext) (key : ℕ) (view : View) (found other : Option ℕ) → found ≡ other → HasRead context key view found → HasRead context key view other
read_of context key view found other same read = record {
  dir = read.dir;
  bucket = read.bucket;
  way = record { placed = read.way.placed; fields = read.way.fields; at = read.way.at; found_is = sym same ∙ read.way.found_is };
  shallow = read.shallow;
}

-- pages of different kinds are different pages
head_is_no_dir : (view : View) (p q : ℕ) (header : HeadFields) (dir : List ℕ) → view.seen p ≡ Some (Some (Page.Head header)) → view.seen q ≡ Some (Some (Page.Dir dir)) → p ≡ q → ⊥
head_is_no_dir view p q header dir head listed same = let both : Some (Some (Page.Head header)) ≡ Some (Some (Page.Dir dir)) = sym head ∙ ap view.seen same ∙ listed in cc

pub head_is_no_bucket : (view : View) (p q : ℕ) (header : HeadFields) (fields : BucketFields) → view.seen p ≡ Some (Some (Page.Head header)) → view.seen q ≡ Some (Some (Page.Bucket fields)) → p ≡ q → ⊥
head_is_no_bucket view p q header fields head at same = let both : Some (Some (Page.Head header)) ≡ Some (Some (Page.Bucket fields)) = sym head ∙ ap view.seen same ∙ at in cc

dir_is_no_bucket : (view : View) (p q : ℕ) (dir : List ℕ) (fields : BucketFields) → view.seen p ≡ Some (Some (Page.Dir dir)) → view.seen q ≡ Some (Some (Page.Bucket fields)) → p ≡ q → ⊥
dir_is_no_bucket view p q dir fields listed at same = let both : Some (Some (Page.Dir dir)) ≡ Some (Some (Page.Bucket fields)) = sym listed ∙ ap view.seen same ∙ at in cc

-- a page that is locked on the way has the mode of the pass
takes_mode : (on : Pass) (before : Before) → GoesAfter on before → (q : ℕ) (mode : Mode) → (on ≡ Pass.Wide → mode ≡ Exclusive) → stronger (map.get before.held q) mode ≡ mode
takes_mode Pass.First before anew q mode wide = ap (λ (b : Before). stronger (map.get b.held q) mode) anew ∙ ap (λ o. stronger o mode) (map.get-empty {X = Mode} nat_cmp q)
takes_mode Pass.Narrow before anew q mode wide = ap (λ (b : Before). stronger (map.get b.held q) mode) anew ∙ ap (λ o. stronger o mode) (map.get-empty {X = Mode} nat_cmp q)
takes_mode Pass.Wide before few q mode wide = ap (stronger (map.get before.held q)) (wide refl) ∙ stronger_exclusive (map.get before.held q) ∙ sym (wide refl)

-- a page that is held stays so
held_still : (modes : Modes) (q : ℕ) (mode : Mode) (p : ℕ) → is_some (map.get modes p) ≡ true → is_some (map.get (with_page modes q mode) p) ≡ true
held_still modes q mode p held =
    elim (cases_eq p q) [
      | inl here ↦ ap (λ p. is_some (map.get (with_page modes q mode) p)) here ∙ ap is_some (mode_of_page modes q mode)
      | inr elsewhere ↦ ap is_some (mode_of_others modes q mode p elsewhere) ∙ held
    ]

module _ (before : Before) (walk : WalkFields) (follows : GoesAfter walk.pass before) (root dir bucket : ℕ) (apart : root ≢ dir) (beside : root ≢ bucket) (below : dir ≢ bucket) where
  abbrev one : Modes
  one = header_held before.held walk.pass root

  abbrev two : Modes
  two = directory_held before.held walk.pass root dir

  abbrev three : Modes
  three = bucket_held before.held walk.pass walk.mode root dir bucket

  not_among : (q : ℕ) → q ≢ root → q ≢ dir → q ≢ bucket → map.get three q ≡ map.get before.held q
  not_among q away further last = mode_of_others two bucket (bucket_mode walk.pass walk.mode) q last ∙ mode_of_others one dir (directory_mode walk.pass) q further ∙ mode_of_others before.held root (header_mode walk.pass) q away

  held_on_way : (view : View) → view.modes ≡ three → HoldsByPass before.held walk.pass walk.mode root dir bucket view
  held_on_way view held = record {
    on_header = ap (λ (modes : Modes). map.get modes root) held ∙ mode_of_others two bucket (bucket_mode walk.pass walk.mode) root beside ∙ mode_of_others one dir (directory_mode walk.pass) root apart
        ∙ mode_of_page before.held root (header_mode walk.pass) ∙ ap Some (takes_mode walk.pass before follows root (header_mode walk.pass) (λ wide. ap header_mode wide));
    on_dir = ap (λ (modes : Modes). map.get modes dir) held ∙ mode_of_others two bucket (bucket_mode walk.pass walk.mode) dir below ∙ mode_of_page one dir (directory_mode walk.pass)
        ∙ ap (λ o. Some (stronger o (directory_mode walk.pass))) (mode_of_others before.held root (header_mode walk.pass) dir (λ e. apart (sym e)))
        ∙ ap Some (takes_mode walk.pass before follows dir (directory_mode walk.pass) (λ wide. ap directory_mode wide));
    on_bucket = ap (λ (modes : Modes). map.get modes bucket) held ∙ mode_of_page two bucket (bucket_mode walk.pass walk.mode)
        ∙ ap (λ o. Some (stronger o (bucket_mode walk.pass walk.mode))) (mode_of_others one dir (directory_mode walk.pass) bucket (λ e. below (sym e)) ∙ mode_of_others before.held root (header_mode walk.pass) bucket (λ e. beside (sym e)))
        ∙ ap Some (takes_mode walk.pass before follows bucket (bucket_mode walk.pass walk.mode) (λ wide. ap (λ pass. bucket_mode pass walk.mode) wide));
    kept = λ q some. ap (λ (modes : Modes). is_some (map.get modes q)) held ∙ held_still two bucket (bucket_mode walk.pass walk.mode) q (held_still one dir (directory_mode walk.pass) q (held_still before.held root (header_mode walk.pass) q some));
    exclusive = λ q was. ap (λ (modes : Modes). map.get modes q) held ∙ exclusive_stays two bucket (bucket_mode walk.pass walk.mode) q (exclusive_stays one dir (directory_mode walk.pass) q (exclusive_stays before.held root (header_mode walk.pass) q was));
    others = λ q away further last none some. absurd (false≢true (sym none ∙ sym (ap is_some (ap (λ (modes : Modes). map.get modes q) held ∙ not_among q away further last)) ∙ some));
  }

-- **A walk at its bucket has read its way,**
abbrev pub read_at_bucket : (context : WalkContext) (walk : WalkFields) (view : View) (bucket depth : ℕ) (found : Option ℕ) → IsAtBucket context walk view bucket depth found → HasRead context walk.key view found
read_at_bucket context walk view bucket depth found here = record {
  dir = dir_of here.header (context.bits walk.key);
  bucket = bucket;
  way = record {
    placed = record { header = here.header; head = here.head; dir_is = refl; entries = here.dir; listed = here.listed; bucket_is = here.bucket_is };
    fields = here.fields;
    at = here.at;
    found_is = here.found_is;
  };
  shallow = here.shallow;
}

-- **and holds its pages by its pass.**
pub holds_at_bucket : (context : WalkContext) (walk : WalkFields) (view : View) (bucket depth : ℕ) (found : Option ℕ) → (here : IsAtBucket context walk view bucket depth found) → HoldsByPass context.before.held walk.pass walk.mode context.root (dir_of here.header (context.bits walk.key)) bucket view
holds_at_bucket context walk view bucket depth found here =
    let dir = dir_of here.header (context.bits walk.key) in
    held_on_way context.before walk here.goes_after context.root dir bucket (head_is_no_dir view context.root dir here.header here.dir here.head here.listed) (head_is_no_bucket view context.root bucket here.header here.fields here.head here.at) (dir_is_no_bucket view dir bucket here.dir here.fields here.listed here.at) view here.held

-- the page is one that the pass may hold beside its way
abbrev IsMore : WalkFields → View → ℕ → Type 0
IsMore walk view q = MayHoldMore walk.pass (view.seen q) (is_some (view.own q))

-- What a walk's own step does to what it has read: all that was seen is seen, what was written stays written, and a page that
-- changes its mode is held exclusively, and was so, or is one more that the pass may hold.
pub record StepsOn (walk : WalkFields) (old new : View) : Type 0 where
  pub before : (q : ℕ) (first : Option Page) → old.seen q ≡ Some first → new.seen q ≡ Some first
  pub written : (q : ℕ) → is_some (old.own q) ≡ true → is_some (new.own q) ≡ true
  pub modes : (q : ℕ) → (map.get new.modes q ≡ map.get old.modes q)
      ⊎ ((map.get new.modes q ≡ Some Exclusive) × ((map.get old.modes q ≡ Some Exclusive) ⊎ IsMore walk new q))

module _ (context : WalkContext) (walk : WalkFields) (old new : View) (step : StepsOn walk old new) where
  keeps_mode : (q : ℕ) (mode : Mode) (p : Page) → old.seen q ≡ Some (Some p) → (walk.pass ≡ Pass.Wide → mode ≡ Exclusive) → map.get old.modes q ≡ Some mode → map.get new.modes q ≡ Some mode
  keeps_mode q mode p sees wide held =
      elim (step.modes q) [
        | inl same ↦ same ∙ held
        | inr locked ↦ elim locked.1 [
          | inl was ↦ locked.0 ∙ sym was ∙ held
          | inr more ↦ by walk.pass refl more
        ]
      ]
    where
      by : (at : Pass) → walk.pass ≡ at → MayHoldMore at (new.seen q) (is_some (new.own q)) → map.get new.modes q ≡ Some mode
      by Pass.First is none = absurd none
      by Pass.Narrow is made = let none : Some None ≡ Some (Some p) = sym made.0 ∙ step.before q (Some p) sees in cc
      by Pass.Wide is written =
          elim (step.modes q) [
            | inl same ↦ same ∙ held
            | inr locked ↦ locked.0 ∙ ap Some (sym (wide is))
          ]

  -- a page that is held stays so
  keeps_held : (q : ℕ) → is_some (map.get old.modes q) ≡ true → is_some (map.get new.modes q) ≡ true
  keeps_held q held = elim (step.modes q) [ inl same ↦ ap is_some same ∙ held | inr locked ↦ ap is_some locked.0 ]

  -- and exclusively, if it was held so
  keeps_exclusive : (q : ℕ) → map.get old.modes q ≡ Some Exclusive → map.get new.modes q ≡ Some Exclusive
  keeps_exclusive q held = elim (step.modes q) [ inl same ↦ same ∙ held | inr locked ↦ locked.0 ]

  -- what a pass held beside its way it may still hold
  holds_more : (q : ℕ) (at : Pass) → MayHoldMore at (old.seen q) (is_some (old.own q)) → MayHoldMore at (new.seen q) (is_some (new.own q))
  holds_more q Pass.First none = none
  holds_more q Pass.Narrow made = (step.before q None made.0, step.written q made.1)
  holds_more q Pass.Wide written = step.written q written

  keeps_others : (root dir bucket : ℕ) → HoldsByPass context.before.held walk.pass walk.mode root dir bucket old → (q : ℕ) → q ≢ root → q ≢ dir → q ≢ bucket → is_some (map.get context.before.held q) ≡ false → is_some (map.get new.modes q) ≡ true
      → (map.get new.modes q ≡ Some Exclusive) × IsMore walk new q
  keeps_others root dir bucket holds q away further last none some =
      elim (step.modes q) [
        | inl same ↦
            let was = holds.others q away further last none (sym (ap is_some same) ∙ some) in
            (same ∙ was.0, holds_more q walk.pass was.1)
        | inr locked ↦ (
          locked.0,
          elim locked.1 [
            | inl was ↦ holds_more q walk.pass (holds.others q away further last none (ap is_some was)).1
            | inr more ↦ more
          ],
        )
      ]

  -- **What was read stays so from step to step,**
  abbrev pub reads_on : (found : Option ℕ) → HasRead context walk.key old found → HasRead context walk.key new found
  reads_on found read = record { dir = read.dir; bucket = read.bucket; way = bucket_still context.bits context.root walk.key old new read.dir read.bucket found step.before read.way; shallow = read.shallow }

  -- **and so do the modes.**
  pub holds_on : (found : Option ℕ) → (read : HasRead context walk.key old found) → HoldsByPass context.before.held walk.pass walk.mode context.root read.dir read.bucket old → HoldsByPass context.before.held walk.pass walk.mode context.root read.dir read.bucket new
  holds_on found read holds = record {
    on_header = keeps_mode context.root (header_mode walk.pass) (Page.Head read.way.placed.header) read.way.placed.head (λ wide. ap header_mode wide) holds.on_header;
    on_dir = keeps_mode read.dir (directory_mode walk.pass) (Page.Dir read.way.placed.entries) read.way.placed.listed (λ wide. ap directory_mode wide) holds.on_dir;
    on_bucket = keeps_mode read.bucket (bucket_mode walk.pass walk.mode) (Page.Bucket read.way.fields) read.way.at (λ wide. ap (λ pass. bucket_mode pass walk.mode) wide) holds.on_bucket;
    kept = λ q some. keeps_held q (holds.kept q some);
    exclusive = λ q was. keeps_exclusive q (holds.exclusive q was);
    others = keeps_others context.root read.dir read.bucket holds;
  }

-- a write of a held page is such a step,
pub steps_by_write : (walk : WalkFields) (old new : View) (q : ℕ) (p : Page) → WritesPage old new q p → StepsOn walk old new
steps_by_write walk old new q p writes = record {
  before = λ r first sees. writes.seen r ∙ sees;
  written = λ r own. elim (cases_eq r q) [
    | inl here ↦ ap (λ r. is_some (new.own r)) here ∙ ap is_some writes.here
    | inr elsewhere ↦ ap is_some (writes.others r elsewhere) ∙ own
  ];
  modes = λ r. inl (ap (λ (modes : Modes). map.get modes r) writes.modes);
}

-- and so is one that makes a page, in a later pass
pub steps_by_making : (walk : WalkFields) (old new : View) (q : ℕ) (p : Page) → (walk.pass ≡ Pass.First → ⊥) → MakesPage old new q p → StepsOn walk old new
steps_by_making walk old new q p later makes = record {
  before = grows_by_make old new q p makes;
  written = λ r own. elim (cases_eq r q) [
    | inl here ↦ ap (λ r. is_some (new.own r)) here ∙ made_here
    | inr elsewhere ↦ ap is_some (makes.own_others r elsewhere) ∙ own
  ];
  modes = λ r. elim (cases_eq r q) [
    | inl here ↦ inr (subst (λ (r : ℕ). (map.get new.modes r ≡ Some Exclusive) × ((map.get old.modes r ≡ Some Exclusive) ⊎ IsMore walk new r)) (sym here) (exclusive_after_make old new q p makes, inr (made_more walk.pass later)))
    | inr elsewhere ↦ inl (ap (λ (modes : Modes). map.get modes r) makes.modes ∙ mode_of_others old.modes q Exclusive r elsewhere)
  ];
}
  where
    made_here : is_some (new.own q) ≡ true
    made_here = ap is_some makes.own_here

    made_more : (at : Pass) → (at ≡ Pass.First → ⊥) → MayHoldMore at (new.seen q) (is_some (new.own q))
    made_more Pass.First not_first = absurd (not_first refl)
    made_more Pass.Narrow not_first = (makes.seen_here, made_here)
    made_more Pass.Wide not_first = made_here

same_head : (a b : HeadFields) → Some (Page.Head a) ≡ Some (Page.Head b) → a ≡ b
same_head a b same = cc

-- where the splits of a narrow pass stand
module _ (context : WalkContext) (walk : WalkFields) (view : View) (room_depth : ℕ) (split : SplitFields) (clean : ℕ → Option Page) (agree : Agrees view.seen clean) (form : HasForm context.bits clean context.root)
    (way : IsUnderWay (split_target context walk room_depth) view split) (found : Option ℕ) (read : HasRead context walk.key view found) (narrow : StaysNarrow context.root view room_depth split.depth split.directory_depth) where
  -- they are in place,
  pub in_place : split.depth < split.directory_depth
  in_place = let deep = (way.begins clean agree form).deep in let enough = narrow.enough in omega (arith, deep, enough)

  -- and their next page is the key's own, which the pass holds
  pub next_is_dir : (n : ℕ) → IsNextPage split.phase (split_target context walk room_depth) view n → n ≡ read.dir
  next_is_dir n next =
      let own : IsKeysPage (split_target context walk room_depth) view n = narrow_next_page (split_target context walk room_depth) view split n clean agree form way in_place narrow.one_page next in
      let header = read.way.placed.header in
      let reads : Some (Page.Head header) ≡ Some (Page.Head own.0) = sym (ap (λ o. own_or_clean o (Some (Page.Head header))) narrow.unwritten) ∙ ap (λ (o : Option (Option Page)). own_or_clean (view.own context.root) (unwrap_or o None)) (sym read.way.placed.head) ∙ own.1 in
      own.2 ∙ ap (λ (h : HeadFields). dir_of h (context.bits walk.key)) (sym (same_head header own.0 reads)) ∙ sym read.way.placed.dir_is

  pub narrow_holds : HoldsByPass context.before.held walk.pass walk.mode context.root read.dir read.bucket view → walk.pass ≡ Pass.Narrow → (n : ℕ) → IsNextPage split.phase (split_target context walk room_depth) view n → map.get view.modes n ≡ Some Exclusive
  narrow_holds holds is n next = ap (map.get view.modes) (next_is_dir n next) ∙ holds.on_dir ∙ ap (λ p. Some (directory_mode p)) is

-- **The page that a narrow pass is to lock next it holds exclusively.**
pub narrow_holds_next : (context : WalkContext) (walk : WalkFields) (view : View) (room_depth n : ℕ) (clean : ℕ → Option Page) → (splits : IsSplitting context walk view room_depth) → walk.pass ≡ Pass.Narrow → Agrees view.seen clean → HasForm context.bits clean context.root
    → IsNextPage splits.split.phase (split_target context walk room_depth) view n → map.get view.modes n ≡ Some Exclusive
narrow_holds_next context walk view room_depth n clean splits is agree form next = narrow_holds context walk view room_depth splits.split clean agree form splits.under_way None splits.read (splits.narrow is) splits.holds is n next

-- what is needed of a step of the splits of a pass
module _ (context : WalkContext) (walk : WalkFields) (old new : LocalState) (room_depth : ℕ) (split : SplitFields) (may : MayStep old) (clean : ℕ → Option Page) (agree : Agrees (view_for context old).seen clean) (form : HasForm context.bits clean context.root)
    (way : IsUnderWay (split_target context walk room_depth) (view_for context old) split) (found : Option ℕ) (read : HasRead context walk.key (view_for context old) found) where
  abbrev target : SplitTarget
  target = split_target context walk room_depth

  -- a narrow pass leaves the header as it was
  pub narrow_keeps_header : StaysNarrow context.root (view_for context old) room_depth split.depth split.directory_depth → IsDone split.phase target old new split → (view_for context new).own context.root ≡ None
  narrow_keeps_header narrow done =
      narrow_leaves_header target old new split may (in_place context walk (view_for context old) room_depth split clean agree form way found read narrow) clean agree form way
      (λ n next same. head_is_no_dir (view_for context old) context.root read.dir read.way.placed.header read.way.placed.entries read.way.placed.head read.way.placed.listed (same ∙ next_is_dir context walk (view_for context old) room_depth split clean agree form way found read narrow n next)) done
      ∙ narrow.unwritten

  module _ (holds : HoldsByPass context.before.held walk.pass walk.mode context.root read.dir read.bucket (view_for context old)) (later : walk.pass ≡ Pass.First → ⊥) (narrow : walk.pass ≡ Pass.Narrow → StaysNarrow context.root (view_for context old) room_depth split.depth split.directory_depth) (touches : TouchesOnePage old new) (done : IsDone split.phase target old new split) where
    why : (p : Pass) → walk.pass ≡ p → (q : ℕ) → mode_held new.locks old.running.tx q ≡ Some Exclusive → IsNextPage split.phase target (view_for context old) q ⊎ IsMaking split.phase → (map.get (view_for context old).modes q ≡ Some Exclusive) ⊎ MayHoldMore p ((view_for context new).seen q) (is_some ((view_for context new).own q))
    why Pass.First is q exclusive locked = absurd (later is)
    why Pass.Narrow is q exclusive (inl next) = inl (narrow_holds context walk (view_for context old) room_depth split clean agree form way found read (narrow is) holds is q next)
    why Pass.Narrow is q exclusive (inr making) = absurd (narrow_makes_none target (view_for context old) split clean agree form way (in_place context walk (view_for context old) room_depth split clean agree form way found read (narrow is)) making)
    why Pass.Wide is q exclusive locked =
        elim (done_writes_what_it_locks split.phase target old new split q may done) [
          | inl same ↦ inl (sym same ∙ exclusive)
          | inr written ↦ inr written.1
        ]

    -- **A step of the splits of a pass.**
    pub steps_by_split : StepsOn walk (view_for context old) (view_for context new)
    steps_by_split = record {
      before = λ q first sees. over_sees_more context.before.written old new q first may touches sees;
      written = own_step_writes_more old new may touches;
      modes = λ q.
          let tx = step_keeps_tx old new touches in
          let now : map.get (view_for context new).modes q ≡ mode_held new.locks old.running.tx q = ap (λ t. mode_held new.locks t q) tx in
          elim (locks_its_page_alone SplitAnswer.Going target old new split q done) [
            | inl same ↦ inl (now ∙ same)
            | inr locked ↦ inr (now ∙ locked.0, elim locked.1 [ inl next ↦ why walk.pass refl q locked.0 (inl next) | inr making ↦ why walk.pass refl q locked.0 (inr making.0) ])
          ];
    }
