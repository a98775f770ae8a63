-- Where a bucket has no room: what a walk tells of it, and that its file rests before the first split
use Rattle.std.proofs.Common.{◌≡◌, ℕ, ◌<◌, ◌≤◌, ◌+◌, ◌^◌, Bool, true, false, List, length, Option, Some, None, is_some, refl, sym, ap, subst, ◌∙◌, inl, inr, arith, MatchOption, position, slice_index_or, unwrap_or, lt-ltb}
use Rattle.mlt_hash.proofs.Names.{list_all, cases_lt, cond-true, false≢true, Exclusive, is_ghost_of, is_kept, is_live_of, Slot, Free, Page, BucketFields, IsHome, HasForm, bucket_of, buckets_of, dir_of, header_of, lead_of, Agrees, KeepsFile, RearrangesSlots, over, own_or_clean, crowds, is_crowded, crowded_at_own_depth, keeps_none, HasFileOver, MayStep, LocalState, View, agrees_over, over_since, reads_since, bucket_held, header_mode, IsAtRest, held_page, WalkContext, Before, IsAdding, IsAtBucket, Stands, WalkFields, split_target, one_key, view_for, IsAtAbsent, IsFull, SeesBucket, directory_depth_of, page_of, Pass, Phase}
use Rattle.std.{specs.List.position_or_len, proofs.lemmas.List.get_or_past, proofs.lemmas.List.Sums.fails_before_first, proofs.lemmas.Option.none-some}
use Rattle.std.specs.FinMap as map
use Rattle.mlt_page_subtx.proofs.ImageLaws.{not_there}
use Rattle.mlt_hash_form.proofs.Paths.{path_depths}
use Rattle.mlt_hash.{specs.Passes.HasRoomFrom, specs.Passes.IsNextPass, specs.Passes.NeverHasRoom, specs.Steps.IsSameWalk, proofs.Passed.holds_at_bucket, proofs.Passed.read_at_bucket, proofs.Beside.anew_unless_wide, proofs.Beside.few_before, proofs.Beside.more_beside, proofs.Readings.three_held}
use Rattle.mlt_hash.specs.Changes.{HasNoRoom, IsNext, MustWiden, NeedsSplit, crowded_at}
use Rattle.mlt_hash.proofs.InPlace.{absent_at, bucket_is_exclusive, found_there, no_live_slot, same_bucket, seen_home, seen_path}

-- a slot that no search finds, and a free one past the end
nowhere_at : (has : Slot → Bool) (slots : List Slot) → has Free ≡ false → position has slots ≡ None → (i : ℕ) → has (slice_index_or slots i Free) ≡ false
nowhere_at has slots free none i =
    elim (cases_lt i (length slots)) [
      | inl lt ↦ elim (cases_lt (position_or_len has slots) (length slots)) [
        | inl found ↦ absurd (none-some _ (sym none ∙ cond-true _ (Some (position_or_len has slots)) None (lt-ltb (position_or_len has slots) (length slots) found)))
        | inr le ↦ fails_before_first has slots i Free (omega arith)
      ]
      | inr past ↦ ap has (get_or_past slots i Free past) ∙ free
    ]

pub narrow_is_not_wide : Pass.Narrow ≡ Pass.Wide → ⊥
narrow_is_not_wide same = cc

pub first_is_not_wide : Pass.First ≡ Pass.Wide → ⊥
first_is_not_wide same = cc

-- what is known where a bucket has no room, up to what the next pass is
module _ (context : WalkContext) (walk : WalkFields) (m : LocalState) (fields : BucketFields) (bounded : (k : ℕ) → context.bits k < 2 ^ 64) (may : MayStep m) (file : HasFileOver context.bits context.root context.before.written m)
    (bucket : IsAtBucket context walk (view_for context m) (page_of walk.phase) (directory_depth_of walk.phase) None) (full : IsFull context walk (view_for context m) fields) where
  abbrev n : ℕ
  n = page_of walk.phase

  abbrev seed : ℕ
  seed = context.bits walk.key

  abbrev pages : ℕ → Option Page
  pages = over file.clean context.before.written

  agreed : Agrees (view_for context m).seen pages
  agreed = agrees_over context.before.written m file.clean may file.is_clean

  -- the bucket is no deeper than the directory
  depths : (fields.depth ≤ bucket.header.depth) × (bucket.header.depth ≤ 16)
  depths = path_depths context.bits pages context.root walk.key bucket.header bucket.dir n fields bounded file.form (seen_path context walk (view_for context m) n (directory_depth_of walk.phase) None fields bounded bucket full.sees.at pages agreed)

  pub shallow : fields.depth ≤ 16
  shallow = omega (arith, depths.0, depths.1)

  pub within_limit : fields.depth ≤ context.max_depth
  within_limit = let most = bucket.shallow in omega (arith, depths.0, most)

  home : (clean : ℕ → Option Page) → Agrees (view_for context m).seen clean → HasForm context.bits clean context.root → IsHome context.bits clean context.root walk.key n fields
  home = seen_home context walk (view_for context m) n (directory_depth_of walk.phase) None fields bounded bucket full.sees.at

  -- the bucket is crowded at its own depth
  crowded_here : crowded_at context walk fields fields.depth ≡ true
  crowded_here =
      let at_home = home pages agreed file.form in
      let same : buckets_of pages (lead_of pages context.root seed) ≡ fields = ap (buckets_of pages) at_home.leads ∙ ap bucket_of at_home.found in
      let kept : list_all (is_kept context.active) (buckets_of pages (lead_of pages context.root seed)).slots ≡ true = subst (λ (b : BucketFields). list_all (is_kept context.active) b.slots ≡ true) (sym same) full.no_room in
      let law = crowded_at_own_depth context.bits context.active (header_of (pages context.root)).depth (lead_of pages context.root) (buckets_of pages) seed (bounded walk.key) bounded file.form.form in
      subst (λ (b : BucketFields). list_all (crowds context.bits context.active b.depth seed) b.slots ≡ true) same (law.1 kept)

  -- so it has room only deeper down
  deeper : (d : ℕ) → fields.depth ≤ d → crowded_at context walk fields d ≡ false → fields.depth < d
  deeper d le room =
      elim (cases_lt fields.depth d) [
        | inl lt ↦ lt
        | inr ge ↦
            let same : fields.depth ≡ d = omega arith in
            absurd (false≢true (sym room ∙ ap (crowded_at context walk fields) (sym same) ∙ crowded_here))
      ]

  -- nothing is written for this key yet
  clean_over : (clean : ℕ → Option Page) → Agrees (view_for context m).seen clean → over clean (view_for context m).own ≡ clean
  clean_over = over_since context.before.written (view_for context m) bucket.unwritten

  held_is : (q : ℕ) (p : Page) → (view_for context m).seen q ≡ Some (Some p) → held_page (view_for context m) q ≡ Some p
  held_is q p sees = ap (λ (o : Option (Option Page)). own_or_clean ((view_for context m).own q) (unwrap_or o None)) sees ∙ reads_since context.before.written (view_for context m) bucket.unwritten q (Some p) sees

  keeps : KeepsFile context.bits context.active context.root (view_for context m).seen (view_for context m).own
  keeps clean agree form = subst (λ (pages : ℕ → Option Page). RearrangesSlots context.bits context.active (view_for context m).seen clean pages context.root) (sym (clean_over clean agree)) (keeps_none context.bits context.active context.root (view_for context m).seen clean agree form)

  -- **The file rests before the first split.**
  rests : (d : ℕ) → walk.mode ≡ Exclusive → d ≤ 16 → crowded_at context walk fields d ≡ false → IsAtRest (split_target context walk d) (view_for context m) n bucket.header fields
  rests d exclusive small room = record {
    bounded = bounded;
    keeps = keeps;
    leads = λ clean agree form. ap (λ (pages : ℕ → Option Page). lead_of pages context.root seed) (clean_over clean agree) ∙ (home clean agree form).leads;
    head_held = ap is_some bucket.head;
    head = held_is context.root (Page.Head bucket.header) bucket.head;
    bucket_held = ap is_some full.sees.at;
    found = held_is n (Page.Bucket fields) full.sees.at;
    exclusive = bucket_is_exclusive context walk (view_for context m) n (directory_depth_of walk.phase) None bucket exclusive;
    absent = nowhere_at (is_live_of walk.key) fields.slots refl (no_live_slot walk.key fields.slots (found_there context walk (view_for context m) n (directory_depth_of walk.phase) None fields bucket full.sees.at));
    no_ghost = nowhere_at (is_ghost_of walk.key context.tx) fields.slots refl full.no_ghost;
    room = room;
    small = small;
    few_before = few_before walk.pass context.before bucket.goes_after;
    among = more_beside (view_for context m) bucket.header (context.before.buckets + 2) (context.before.buckets + 2 + fields.depth) (omega arith) bucket.among;
  }

  -- and the walk may add once the bucket has room
  adding : (d : ℕ) (phase : Phase) → walk.mode ≡ Exclusive → context.max_depth ≤ 16 → HasRoomFrom (crowded_at context walk fields) fields.depth context.max_depth d → (walk.pass ≡ Pass.First → ⊥) → (walk.pass ≡ Pass.Narrow → (d ≤ directory_depth_of walk.phase) × (directory_depth_of walk.phase ≤ fields.depth + 8))
      → IsAdding context (record walk { phase = phase }) (view_for context m) n d true
  adding d phase exclusive small has later narrow = record {
    header = bucket.header;
    fields = fields;
    read = read_at_bucket context walk (view_for context m) n (directory_depth_of walk.phase) None bucket;
    holds = holds_at_bucket context walk (view_for context m) n (directory_depth_of walk.phase) None bucket;
    shallow = bucket.shallow;
    rest = rests d exclusive (omega (arith, has.1, small)) has.2;
    most = has.1;
    unsplit_is = λ _. deeper d has.0 has.2;
    later = later;
    narrow = λ is. let fits = narrow is in let same = bucket.depth_is in record { enough = omega (arith, fits.0, same); one_page = omega (arith, fits.1, same); unwritten = bucket.unwritten.own context.root ∙ ap (λ (b : Before). b.written context.root) (anew_unless_wide walk.pass context.before bucket.goes_after (λ wide. narrow_is_not_wide (sym is ∙ wide))) };
    wide = λ is. (holds_at_bucket context walk (view_for context m) n (directory_depth_of walk.phase) None bucket).on_header ∙ ap (λ p. Some (header_mode p)) is;
  }

-- three pages are held there in a pass that is not wide
pub few_at_bucket : (context : WalkContext) (walk : WalkFields) (view : View) → IsAtAbsent walk.phase → Stands walk.phase context walk view → (walk.pass ≡ Pass.Wide → ⊥) → map.len view.modes ≤ 3
few_at_bucket context walk view none stands narrow =
    let here = absent_at context walk view walk.phase none stands in
    let dir = dir_of here.header (context.bits walk.key) in
    let anew = anew_unless_wide walk.pass context.before here.goes_after narrow in
    three_held view.modes walk.pass walk.mode context.root dir (page_of walk.phase) (here.held ∙ ap (λ (b : Before). bucket_held b.held walk.pass walk.mode context.root dir (page_of walk.phase)) anew)

-- a bucket that is full is the one that is seen
pub full_bucket : (context : WalkContext) (walk : WalkFields) (view : View) (fields : BucketFields) → (seen : BucketFields) × IsFull context walk view seen → SeesBucket walk view fields → IsFull context walk view fields
full_bucket context walk view fields full sees = subst (λ b. IsFull context walk view b) (same_bucket (view.seen (page_of walk.phase)) full.0 fields full.1.sees.at sees.at) full.1

-- what is told of the next pass, and of the depth at which the bucket has room
pub record TellsNext (context : WalkContext) (fields : BucketFields) (key depth : ℕ) (next : Pass) (least : Option ℕ) : Type 0 where
  pub follows : IsNextPass (λ d. is_crowded context.bits context.active d (context.bits key) fields.slots) fields.depth context.max_depth depth next
  pub room : MatchOption least (NeverHasRoom (λ d. is_crowded context.bits context.active d (context.bits key) fields.slots) fields.depth context.max_depth) (λ d. HasRoomFrom (λ d. is_crowded context.bits context.active d (context.bits key) fields.slots) fields.depth context.max_depth d)
  pub narrow : next ≡ Pass.Narrow → MatchOption least (fields.depth ≤ depth) (λ d. d ≤ depth)

-- the same of the walk's own key and depth
pub tells_next : (context : WalkContext) (fields : BucketFields) (key key' depth depth' : ℕ) (next : Pass) (least : Option ℕ) → key ≡ key' → depth ≡ depth' → TellsNext context fields key depth next least → TellsNext context fields key' depth' next least
tells_next context fields key key' depth depth' next least same_key same_depth told = subst (λ k. TellsNext context fields k depth' next least) same_key (subst (λ g. TellsNext context fields key g next least) same_depth told)

-- and the same where the walk goes by this, whatever it did before
pub tells_next_by : (own context : WalkContext) → own ≡ one_key context → (fields : BucketFields) (key depth : ℕ) (next : Pass) (least : Option ℕ) → TellsNext own fields key depth next least → TellsNext context fields key depth next least
tells_next_by own context same fields key depth next least told =
    let here : TellsNext (one_key context) fields key depth next least = subst (λ (b : WalkContext). TellsNext b fields key depth next least) same told in
    record { follows = here.follows; room = here.room; narrow = here.narrow }

first_is_not_narrow : Pass.First ≡ Pass.Narrow → ⊥
first_is_not_narrow same = cc

-- a pass that follows is narrow or wide
stays_narrow : (crowded : ℕ → Bool) (l most g : ℕ) (next : Pass) → IsNextPass crowded l most g next → (next ≡ Pass.Wide → ⊥) → next ≡ Pass.Narrow
stays_narrow crowded l most g Pass.First follows narrow = absurd follows
stays_narrow crowded l most g Pass.Narrow follows narrow = refl
stays_narrow crowded l most g Pass.Wide follows narrow = absurd (narrow refl)

same_walk : (walk after : WalkFields) (phase : Phase) → after ≡ record walk { phase = phase } → IsSameWalk walk after
same_walk walk after phase is = record { key = ap (λ (w : WalkFields). w.key) is; mode = ap (λ (w : WalkFields). w.mode) is; pass = ap (λ (w : WalkFields). w.pass) is }

module _ (context : WalkContext) (walk after : WalkFields) (m : LocalState) (fields : BucketFields) (next : Pass) (least : Option ℕ) (value : ℕ) (full : IsFull context walk (view_for context m) fields) (told : TellsNext context fields walk.key (directory_depth_of walk.phase) next least) where
  -- **A first pass tells which one follows,**
  pub first_tells : map.len (view_for context m).modes ≤ 3 → walk.pass ≡ Pass.First → after ≡ record walk { phase = Phase.Full next } → NeedsSplit context m walk after value
  first_tells few first is = record {
    fields = fields;
    full = full;
    same = same_walk walk after (Phase.Full next) is;
    stands = subst (λ (w : WalkFields). Stands w.phase context w (view_for context m)) (sym is) few;
    first = λ _. (next, ap (λ (w : WalkFields). w.phase) is, told.follows);
    later = λ ne. absurd (ne first);
    narrow = λ is. absurd (first_is_not_narrow (sym first ∙ is));
  }

  -- **a narrow one that it has to be wide,**
  pub widen_tells : map.len (view_for context m).modes ≤ 3 → walk.pass ≡ Pass.Narrow → next ≡ Pass.Wide → after ≡ record walk { phase = Phase.Full Pass.Wide } → MustWiden context m walk after
  widen_tells few narrow wide is = record {
    fields = fields;
    full = full;
    same = same_walk walk after (Phase.Full Pass.Wide) is;
    stands = subst (λ (w : WalkFields). Stands w.phase context w (view_for context m)) (sym is) few;
    narrow = narrow;
    wide = subst (λ p. IsNext context walk fields p) wide told.follows;
    phase = ap (λ (w : WalkFields). w.phase) is;
  }

  module _ (later : walk.pass ≡ Pass.First → ⊥) (fits : walk.pass ≡ Pass.Narrow → next ≡ Pass.Wide → ⊥) where
    next_is_narrow : walk.pass ≡ Pass.Narrow → next ≡ Pass.Narrow
    next_is_narrow narrow = stays_narrow (crowded_at context walk fields) fields.depth context.max_depth (directory_depth_of walk.phase) next told.follows (fits narrow)

    -- **and else that there is no room at any depth,**
    pub no_room_tells : fields.depth ≤ context.max_depth → is_some least ≡ false → after ≡ walk → HasNoRoom context m walk after
    no_room_tells shallow none stays = record {
      fields = fields;
      full = full;
      shallow = shallow;
      never = subst (λ o. MatchOption o (NeverHasRoom (crowded_at context walk fields) fields.depth context.max_depth) (λ d. HasRoomFrom (crowded_at context walk fields) fields.depth context.max_depth d)) (not_there least none) told.room;
      later = later;
      narrow = λ narrow. subst (λ p. IsNext context walk fields p) (next_is_narrow narrow) told.follows;
      stays = stays;
    }

    -- **or that the bucket is to be split.**
    pub adding_tells : (number : ℕ) → ((k : ℕ) → context.bits k < 2 ^ 64) → MayStep m → HasFileOver context.bits context.root context.before.written m → IsAtAbsent walk.phase → Stands walk.phase context walk (view_for context m) → walk.mode ≡ Exclusive → context.max_depth ≤ 16
        → number ≡ page_of walk.phase → (d : ℕ) → least ≡ Some d → after ≡ record walk { phase = Phase.Adding value number d true } → NeedsSplit context m walk after value
    adding_tells number bounded may file none stands exclusive small here d some is =
        let has : HasRoomFrom (crowded_at context walk fields) fields.depth context.max_depth d = subst (λ o. MatchOption o (NeverHasRoom (crowded_at context walk fields) fields.depth context.max_depth) (λ d. HasRoomFrom (crowded_at context walk fields) fields.depth context.max_depth d)) some told.room in
        let narrow : walk.pass ≡ Pass.Narrow → (d ≤ directory_depth_of walk.phase) × (directory_depth_of walk.phase ≤ fields.depth + 8) = λ narrow. (
          subst (λ o. MatchOption o (fields.depth ≤ directory_depth_of walk.phase) (λ d. d ≤ directory_depth_of walk.phase)) some (told.narrow (next_is_narrow narrow)),
          (subst (λ p. IsNext context walk fields p) (next_is_narrow narrow) told.follows).3,
        ) in
        let now : after ≡ record walk { phase = Phase.Adding value (page_of walk.phase) d true } = is ∙ ap (λ q. record walk { phase = Phase.Adding value q d true }) here in
        let adds = adding context walk m fields bounded may file (absent_at context walk (view_for context m) walk.phase none stands) full d (Phase.Adding value (page_of walk.phase) d true) exclusive small has later narrow in
        record {
          fields = fields;
          full = full;
          same = same_walk walk after (Phase.Adding value (page_of walk.phase) d true) now;
          stands = subst (λ (w : WalkFields). Stands w.phase context w (view_for context m)) (sym now) adds;
          first = λ first. absurd (later first);
          later = λ _. (d, ap (λ (w : WalkFields). w.phase) now, has);
          narrow = λ narrow. subst (λ p. IsNext context walk fields p) (next_is_narrow narrow) told.follows;
        }
