-- Each transaction holds the page locks of its pass
use Rattle.std.proofs.Common.{◌≡◌, ◌≢◌, ◌⊎◌, ℕ, Bool, true, false, Option, None, Some, is_some, unwrap_or, slice_index, refl, sym, ap, subst, ◌∙◌, inl, inr, arith, nat_cmp}
use Rattle.std.specs.FinMap as map
use Rattle.mlt_manager.proofs.Names.{false≢true, Mode, ObjReply, Request, Page, Modes, is_holder, Images, image_of, not_true, FilePages, LocalState, View, view_of, WalkContext, OperationFields, clean_of, context_of, At, Transaction, FitsAt, IsSound, State, all_of, images_kept, abstract_state_of}
use Rattle.std.proofs.lemmas.Bool.{cases_Bool}
use Rattle.mlt_types.specs.declared.mode.Mode.TheVariants.{Exclusive}
use Rattle.mlt_object_base.specs.Requests.{target_of}
use Rattle.mlt_page_locks.{specs.LockTables.mode_held, specs.Requests.stronger, proofs.LockLaws.stronger_exclusive}
use Rattle.mlt_hash_form.specs.{File.dir_of, File.row_of, Held.Agrees, Held.over}
use Rattle.mlt_hash_access.{specs.LocalStates.page_before, specs.Reading.HasReadPlace, specs.Views.rebased, proofs.Rebased.rebased_agrees, specs.Running.images_by, specs.Running.local_of}
use Rattle.mlt_hash_access.proofs.Views.{exclusive_stays, holds_exclusively, mode_of_others, mode_of_page, own_has_image, seen_held}
use Rattle.mlt_hash_pair.specs.{Pairs.HoldsDescents, Pairs.PairFields, declared.descent.Descent.Descent}
use Rattle.mlt_hash_pair.specs.Descents as pair_read
use Rattle.mlt_hash.{specs.Changes.IsChangedPhase, specs.Splitting.IsUnderWay, specs.declared.pass.Pass.Pass, specs.declared.pass.Phase.Phase, proofs.Passed.read_at_bucket}
use Rattle.mlt_hash.specs.Passes.{MayHoldMore, bucket_mode, directory_held, directory_mode, header_held, header_mode}
use Rattle.mlt_hash.specs.Walks.{Before, HasRead, HoldsByPass, IsAtBucket, IsHeaded, IsPlaced, IsStanding, Stands, WalkFields, context_after, nothing_before, one_key}
use Rattle.mlt_tx_two_records.specs.{declared.two_records.TwoRecordWalk.TwoRecordWalk, declared.two_records.TwoRecordWalk.TheVariants.First, declared.two_records.TwoRecordWalk.TheVariants.Owing, declared.two_records.TwoRecordWalk.TheVariants.Wide, declared.two_records.WideStage.WideStage, FirstPass.HasKeys, WidePass.HasPutOwn}
use Rattle.mlt_tx_operation.specs.{declared.access_path.AccessPath.AccessPath, declared.access_path.AccessPath.TheVariants.One, declared.access_path.AccessPath.TheVariants.Two, Operating.OperatesBy, Operating.StandsOrTold, Walking.FitsPhase, Walking.WalkingFields, Walking.walking}
use Rattle.mlt_manager_invariant.proofs.Openness.{agrees_in}
use Rattle.mlt_manager.specs.PassLocks.{HoldsBoth, HoldsOver, HoldsPair, HoldsWay, IsOnWay, KeysWay, LocksAt, LocksBy, LocksOf, LocksOfTwo, LocksOverAt, images_at, running_at, running_of}

-- a page that is held is seen as the clean pages have it
clean_is_seen : (m : LocalState) (clean : FilePages) → Agrees (view_of m).seen clean → (q : ℕ) → is_some (map.get (view_of m).modes q) ≡ true → (view_of m).seen q ≡ Some (clean q)
clean_is_seen m clean agree q held =
    let sees = seen_held m q held in
    sees ∙ ap Some (sym (agree q (page_before m.running.images m.store.pages q) sees))

-- a page that a pass may hold beside its way is seen so, and one that is written has an image
more_as : (p : Pass) (seen clean : Option (Option Page)) (own image : Bool) → seen ≡ clean → (own ≡ true → image ≡ true) → MayHoldMore p seen own → MayHoldMore p clean image
more_as Pass.First seen clean own image same kept more = more
more_as Pass.Narrow seen clean own image same kept more = (sym same ∙ more.0, kept more.1)
more_as Pass.Wide seen clean own image same kept more = kept more

-- what is read of the way to a key is that way, on pages that agree with what was seen
abbrev keys_way : (context : WalkContext) (key : ℕ) (view : View) (pages : FilePages) → Agrees view.seen pages → (dir bucket : ℕ) → HasReadPlace context.bits context.root key view dir bucket → KeysWay (one_key context) pages key
keys_way context key view pages agree dir bucket read = record {
  header = read.header;
  head = agree context.root (Some (Page.Head read.header)) read.head;
  dir = dir;
  dir_is = read.dir_is;
  entries = read.entries;
  listed = agree dir (Some (Page.Dir read.entries)) read.listed;
  bucket = bucket;
  bucket_is = read.bucket_is;
}

-- what a walk has read that has come to its key's directory page
abbrev placed_read : (context : WalkContext) (walk : WalkFields) (view : View) (bucket depth : ℕ) → (placed : IsPlaced context walk view bucket depth) → HasReadPlace context.bits context.root walk.key view (dir_of placed.header (context.bits walk.key)) bucket
placed_read context walk view bucket depth placed = record { header = placed.header; head = placed.head; dir_is = refl; entries = placed.dir; listed = placed.listed; bucket_is = placed.bucket_is }

-- the locks of a walk on this state, whose view the clean pages agree with
module _ (context : WalkContext) (walk : WalkFields) (m : LocalState) (clean : FilePages) (agree : Agrees (view_of m).seen clean) where
  placed_way : (bucket depth : ℕ) → IsPlaced (one_key context) walk (view_of m) bucket depth → LocksAt (Phase.Placed bucket depth) (one_key context) clean walk m.running.images (view_of m).modes
  placed_way bucket depth placed = (
    keys_way context walk.key (view_of m) clean agree (dir_of placed.header (context.bits walk.key)) bucket (placed_read (one_key context) walk (view_of m) bucket depth placed),
    placed.held,
  )

  bucket_way : (bucket depth : ℕ) (found : Option ℕ) → IsAtBucket (one_key context) walk (view_of m) bucket depth found → LocksAt (Phase.AtBucket bucket depth found) (one_key context) clean walk m.running.images (view_of m).modes
  bucket_way bucket depth found here = let read = read_at_bucket (one_key context) walk (view_of m) bucket depth found here in (keys_way context walk.key (view_of m) clean agree read.dir bucket read.way.placed, here.held)

  -- a walk that has read its way holds it by its pass
  read_way : (found : Option ℕ) → (read : HasRead (one_key context) walk.key (view_of m) found) → HoldsByPass map.empty walk.pass walk.mode context.root read.dir read.bucket (view_of m)
      → (way : KeysWay (one_key context) clean walk.key) × HoldsWay walk clean m.running.images context.root way.dir way.bucket (view_of m).modes
  read_way found read holds = (
    keys_way context walk.key (view_of m) clean agree read.dir read.bucket read.way.placed,
    record {
      on_header = holds.on_header;
      on_dir = holds.on_dir;
      on_bucket = holds.on_bucket;
      others = λ q away further last held.
          let more = holds.others q away further last (ap is_some (map.get-empty {X = Mode} nat_cmp q)) held in
          (more.0, more_as walk.pass ((view_of m).seen q) (Some (clean q)) (is_some ((view_of m).own q)) (is_some (image_of m.running.images q)) (clean_is_seen m clean agree q held) (own_has_image m q) more.1);
    },
  )

-- a walk between two steps of its pass has not just found its bucket full
abbrev IsNotFull : Phase → Type 0
IsNotFull (Phase.Full next) = ⊥
IsNotFull other = Unit {0}

fits_not_full : (p : Phase) (context : WalkContext) (o : WalkingFields) (view : View) → FitsPhase p context o view → IsNotFull p
fits_not_full (Phase.Full next) context o view fits = absurd fits
fits_not_full Phase.Start context o view fits = tt
fits_not_full (Phase.Headed dir row depth) context o view fits = tt
fits_not_full (Phase.Placed bucket depth) context o view fits = tt
fits_not_full (Phase.AtBucket bucket depth found) context o view fits = tt
fits_not_full (Phase.Adding value bucket room_depth unsplit) context o view fits = tt
fits_not_full (Phase.Splitting value room_depth) context o view fits = tt
fits_not_full (Phase.Changed bucket done) context o view fits = tt

under_way_not_full : (p : Phase) → IsUnderWay p → IsNotFull p
under_way_not_full (Phase.Full next) under = absurd under
under_way_not_full Phase.Start under = tt
under_way_not_full (Phase.Headed dir row depth) under = tt
under_way_not_full (Phase.Placed bucket depth) under = tt
under_way_not_full (Phase.AtBucket bucket depth found) under = tt
under_way_not_full (Phase.Adding value bucket room_depth unsplit) under = tt
under_way_not_full (Phase.Splitting value room_depth) under = tt
under_way_not_full (Phase.Changed bucket done) under = tt

-- **A walk that stands holds the locks of its pass.**
locks_at : (p : Phase) (context : WalkContext) (walk : WalkFields) (m : LocalState) (clean : FilePages) → Agrees (view_of m).seen clean → Stands p (one_key context) walk (view_of m) → IsNotFull p → LocksAt p (one_key context) clean walk m.running.images (view_of m).modes
locks_at Phase.Start context walk m clean agree stands full = stands.0.unheld
locks_at (Phase.Headed dir row depth) context walk m clean agree stands full = stands.held
locks_at (Phase.Placed bucket depth) context walk m clean agree stands full = placed_way (one_key context) walk m clean agree bucket depth stands
locks_at (Phase.AtBucket bucket depth found) context walk m clean agree stands full = bucket_way (one_key context) walk m clean agree bucket depth found stands
locks_at (Phase.Full next) context walk m clean agree stands full = absurd full
locks_at (Phase.Adding value bucket room_depth unsplit) context walk m clean agree stands full = read_way (one_key context) walk m clean agree None stands.read stands.holds
locks_at (Phase.Splitting value room_depth) context walk m clean agree stands full = read_way (one_key context) walk m clean agree None stands.read stands.holds
locks_at (Phase.Changed bucket done) context walk m clean agree stands full = read_way (one_key context) walk m clean agree stands.found stands.read stands.holds

-- ---- two keys

-- the locks of a pair are those of its two ways
module _ (context : WalkContext) (m : LocalState) (clean : FilePages) (agree : Agrees (view_of m).seen clean) where
  pair_way : (key : ℕ) (on : Descent) → pair_read.HasRead context.bits context.root key (view_of m) on → IsOnWay on (one_key context) clean key
  pair_way key Descent.Start read = tt
  pair_way key (Descent.Headed place dir row) read = (read.header, agree context.root (Some (Page.Head read.header)) read.head, read.dir_is)
  pair_way key (Descent.Placed dir bucket) read = (keys_way context key (view_of m) clean agree dir bucket read, refl, refl)
  pair_way key (Descent.AtBucket dir bucket found) read = (keys_way context key (view_of m) clean agree dir bucket read.placed, refl, refl)

  pair_locks : (request : Request) (pair : PairFields) → HasKeys request pair.left pair.right → pair_read.HasRead context.bits context.root pair.left (view_of m) pair.left_descent → pair_read.HasRead context.bits context.root pair.right (view_of m) pair.right_descent
      → HoldsDescents context.root pair.left_descent pair.right_descent (view_of m) → HoldsPair (one_key context) clean request pair (view_of m).modes
  pair_locks request pair keys left right holds = record {
    keys = keys;
    own = pair_way pair.left pair.left_descent left;
    size = pair_way pair.right pair.right_descent right;
    locks = holds;
  }

-- a wide pass that has gone on to the key of the size
module _ (context : WalkContext) (request : Request) (walk : WalkFields) (m : LocalState) (clean : FilePages) (agree : Agrees (view_of m).seen clean) (since : Before) (put : HasPutOwn (one_key context) request (view_of m) since)
    (wide : walk.pass ≡ Pass.Wide) where
  abbrev read : HasRead (one_key context) put.walk.key put.then_view put.changed.found
  read = put.changed.read

  -- what was read of the way to its own key is so still
  abbrev own_way : KeysWay (one_key context) clean (target_of request).0
  own_way = record {
    header = read.way.placed.header;
    head = agree context.root (Some (Page.Head read.way.placed.header)) (put.seen context.root (Some (Page.Head read.way.placed.header)) read.way.placed.head);
    dir = read.dir;
    dir_is = read.way.placed.dir_is ∙ ap (λ key. dir_of read.way.placed.header (context.bits key)) put.to_key.key_is;
    entries = read.way.placed.entries;
    listed = agree read.dir (Some (Page.Dir read.way.placed.entries)) (put.seen read.dir (Some (Page.Dir read.way.placed.entries)) read.way.placed.listed);
    bucket = read.bucket;
    bucket_is = read.way.placed.bucket_is ∙ ap (λ key. slice_index read.way.placed.entries (row_of read.way.placed.header (context.bits key))) put.to_key.key_is;
  }

  was_held : since.held ≡ put.then_view.modes
  was_held = ap (λ (b : Before). b.held) put.since_is

  was_written : since.written ≡ put.then_view.own
  was_written = ap (λ (b : Before). b.written) put.since_is

  -- it held the pages of that way exclusively,
  on_header : map.get since.held context.root ≡ Some Exclusive
  on_header = ap (λ (modes : Modes). map.get modes context.root) was_held ∙ put.changed.holds.on_header ∙ ap (λ p. Some (header_mode p)) put.to_key.wide

  on_dir : map.get since.held read.dir ≡ Some Exclusive
  on_dir = ap (λ (modes : Modes). map.get modes read.dir) was_held ∙ put.changed.holds.on_dir ∙ ap (λ p. Some (directory_mode p)) put.to_key.wide

  on_bucket : map.get since.held read.bucket ≡ Some Exclusive
  on_bucket = ap (λ (modes : Modes). map.get modes read.bucket) was_held ∙ put.changed.holds.on_bucket ∙ ap (λ p. Some (bucket_mode p put.walk.mode)) put.to_key.wide

  -- and so the others, each of which it had written
  on_others : (q : ℕ) → q ≢ context.root → q ≢ read.dir → q ≢ read.bucket → is_some (map.get since.held q) ≡ true → (map.get since.held q ≡ Some Exclusive) × (is_some (since.written q) ≡ true)
  on_others q away further last held =
      let more = put.changed.holds.others q away further last (ap is_some (map.get-empty {X = Mode} nat_cmp q)) (ap (λ (modes : Modes). is_some (map.get modes q)) (sym was_held) ∙ held) in
      let own : MayHoldMore Pass.Wide (put.then_view.seen q) (is_some (put.then_view.own q)) = subst (λ (p : Pass). MayHoldMore p (put.then_view.seen q) (is_some (put.then_view.own q))) put.to_key.wide more.1 in
      (ap (λ (modes : Modes). map.get modes q) was_held ∙ more.0, ap (λ (own : FilePages). is_some (own q)) was_written ∙ own)

  -- what it had written it keeps first images of
  has_image : (q : ℕ) → is_some (since.written q) ≡ true → is_some (image_of m.running.images q) ≡ true
  has_image q some = own_has_image m q (put.written q some).1

  -- with what is locked since
  both_held : (IsOfSize : ℕ → Type 0) → ((q : ℕ) → map.get since.held q ≡ Some Exclusive → map.get (view_of m).modes q ≡ Some Exclusive) → ((q : ℕ) → IsOfSize q → map.get (view_of m).modes q ≡ Some Exclusive)
      → ((q : ℕ) → q ≢ context.root → (IsOfSize q → ⊥) → is_some (map.get since.held q) ≡ false → is_some (map.get (view_of m).modes q) ≡ true → (map.get (view_of m).modes q ≡ Some Exclusive) × (is_some (image_of m.running.images q) ≡ true))
      → HoldsBoth context.root read.dir read.bucket IsOfSize m.running.images (view_of m).modes
  both_held IsOfSize still on_size new = record {
    on_header = still context.root on_header;
    on_dir = still read.dir on_dir;
    on_bucket = still read.bucket on_bucket;
    on_size = on_size;
    others = λ q away further last not held. elim (cases_Bool (is_some (map.get since.held q))) [
      | inl before ↦ let was = on_others q away further last before in (still q was.0, has_image q was.1)
      | inr since ↦ new q away not since held
    ];
  }

  -- on its way to the size's key
  headed : (dir row depth : ℕ) → IsHeaded (context_after since context) walk (rebased since.written (view_of m)) dir row depth → HoldsBoth context.root read.dir read.bucket (λ q. ⊥) m.running.images (view_of m).modes
  headed dir row depth here = both_held (λ q. ⊥)
      (λ q was. ap (λ (modes : Modes). map.get modes q) here.held ∙ exclusive_stays since.held context.root (header_mode walk.pass) q was)
      (λ q none. absurd none)
      (λ q away not none held. absurd (false≢true (sym none ∙ ap is_some (sym (mode_of_others since.held context.root (header_mode walk.pass) q away)) ∙ ap (λ (modes : Modes). is_some (map.get modes q)) (sym here.held) ∙ held)))

  placed : (bucket depth : ℕ) → (here : IsPlaced (context_after since context) walk (rebased since.written (view_of m)) bucket depth)
      → HoldsBoth context.root read.dir read.bucket (λ q. q ≡ dir_of here.header (context.bits walk.key)) m.running.images (view_of m).modes
  placed bucket depth here =
      let dir = dir_of here.header (context.bits walk.key) in
      let one = header_held since.held walk.pass context.root in
      both_held (λ q. q ≡ dir)
      (λ q was. ap (λ (modes : Modes). map.get modes q) here.held ∙ exclusive_stays one dir (directory_mode walk.pass) q (exclusive_stays since.held context.root (header_mode walk.pass) q was))
      (λ q is. ap (λ (modes : Modes). map.get modes q) here.held ∙ ap (map.get (directory_held since.held walk.pass context.root dir)) is ∙ mode_of_page one dir (directory_mode walk.pass)
      ∙ ap (λ p. Some (stronger (map.get one dir) (directory_mode p))) wide ∙ ap Some (stronger_exclusive (map.get one dir)))
      (λ q away not none held. absurd (false≢true (sym none
      ∙ ap is_some (sym (mode_of_others since.held context.root (header_mode walk.pass) q away)) ∙ ap is_some (sym (mode_of_others one dir (directory_mode walk.pass) q not))
      ∙ ap (λ (modes : Modes). is_some (map.get modes q)) (sym here.held) ∙ held)))

  -- from its bucket's step on
  passed : (found : Option ℕ) → (on : HasRead (context_after since context) walk.key (rebased since.written (view_of m)) found) → HoldsByPass since.held walk.pass walk.mode context.root on.dir on.bucket (rebased since.written (view_of m))
      → HoldsBoth context.root read.dir read.bucket (λ q. (q ≡ on.dir) ⊎ (q ≡ on.bucket)) m.running.images (view_of m).modes
  passed found on holds = both_held (λ q. (q ≡ on.dir) ⊎ (q ≡ on.bucket)) holds.exclusive
      (λ q which. elim which [
        | inl is ↦ ap (map.get (view_of m).modes) is ∙ holds.on_dir ∙ ap (λ p. Some (directory_mode p)) wide
        | inr is ↦ ap (map.get (view_of m).modes) is ∙ holds.on_bucket ∙ ap (λ p. Some (bucket_mode p walk.mode)) wide
      ])
      (λ q away not none held.
      let more = holds.others q away (λ is. not (inl is)) (λ is. not (inr is)) none held in
      let own : MayHoldMore Pass.Wide ((rebased since.written (view_of m)).seen q) (is_some ((view_of m).own q)) = subst (λ (p : Pass). MayHoldMore p ((rebased since.written (view_of m)).seen q) (is_some ((view_of m).own q))) wide more.1 in
      (more.0, own_has_image m q own))

  -- what is read of the way to the size's key
  agrees_since : Agrees (rebased since.written (view_of m)).seen (over clean since.written)
  agrees_since = rebased_agrees since.written (view_of m) clean agree

  passed_way : (found : Option ℕ) → (on : HasRead (context_after since context) walk.key (rebased since.written (view_of m)) found) → HoldsByPass since.held walk.pass walk.mode context.root on.dir on.bucket (rebased since.written (view_of m))
      → (to : KeysWay (one_key context) (over clean since.written) walk.key) × HoldsBoth context.root read.dir read.bucket (λ q. (q ≡ to.dir) ⊎ (q ≡ to.bucket)) m.running.images (view_of m).modes
  passed_way found on holds = (keys_way context walk.key (rebased since.written (view_of m)) (over clean since.written) agrees_since on.dir on.bucket on.way.placed, passed found on holds)

  -- it began with some pages
  not_anew : since ≡ nothing_before → ⊥
  not_anew none = let both : 17 ≡ 0 = sym (ap (λ (b : Before). b.buckets) put.since_is) ∙ ap (λ (b : Before). b.buckets) none in absurd (omega (arith, both))

  over_at : (p : Phase) → Stands p (context_after since context) walk (rebased since.written (view_of m)) → (IsUnderWay p ⊎ IsChangedPhase p)
      → LocksOverAt p (one_key context) (over clean since.written) walk.key (λ IsOfSize. HoldsBoth context.root read.dir read.bucket IsOfSize m.running.images (view_of m).modes)
  over_at Phase.Start stands which = not_anew stands.1
  over_at (Phase.Headed dir row depth) stands which = headed dir row depth stands
  over_at (Phase.Placed bucket depth) stands which = (
    keys_way context walk.key (rebased since.written (view_of m)) (over clean since.written) agrees_since (dir_of stands.header (context.bits walk.key)) bucket (placed_read (context_after since context) walk (rebased since.written (view_of m)) bucket depth stands),
    placed bucket depth stands,
  )
  over_at (Phase.AtBucket bucket depth found) stands (inl none) = absurd none
  over_at (Phase.AtBucket bucket depth found) stands (inr none) = absurd none
  over_at (Phase.Full next) stands (inl none) = absurd none
  over_at (Phase.Full next) stands (inr none) = absurd none
  over_at (Phase.Adding value bucket room_depth unsplit) stands which = passed_way None stands.read stands.holds
  over_at (Phase.Splitting value room_depth) stands which = passed_way None stands.read stands.holds
  over_at (Phase.Changed bucket done) stands which = passed_way stands.found stands.read stands.holds

  over_locks : HasKeys request (target_of request).0 walk.key → IsStanding (context_after since context) walk (rebased since.written (view_of m)) → (IsUnderWay walk.phase ⊎ IsChangedPhase walk.phase)
      → HoldsOver (one_key context) clean request walk m.running.images (view_of m).modes
  over_locks keys stands which = record {
    keys = keys;
    own = own_way;
    written = since.written;
    kept = has_image;
    locks = over_at walk.phase stands which;
  }

-- **An operation on two records holds the locks of its pass.**
two_locks : (reply : Option ObjReply) (two_records : TwoRecordWalk) (context : WalkContext) (request : Request) (m : LocalState) (clean : FilePages) → Agrees (view_of m).seen clean → StandsOrTold reply two_records (one_key context) request (view_of m)
    → LocksOfTwo two_records (one_key context) clean request m.running.images (view_of m).modes
two_locks None (First pair) context request m clean agree s = pair_locks context m clean agree request pair s.keys s.finding.left s.finding.right s.finding.holds
two_locks None (Owing pair told) context request m clean agree s = pair_locks context m clean agree request pair s.keys s.changed.holding.left s.changed.holding.right s.changed.holding.holds
two_locks None (Wide WideStage.Own walk) context request m clean agree s = locks_at walk.phase context walk m clean agree s.stands (under_way_not_full walk.phase s.under_way)
two_locks None (Wide WideStage.Size walk) context request m clean agree s = over_locks context request walk m clean agree s.since s.put s.to_key.wide s.keys s.stands (inl s.under_way)
two_locks (Some told) (First pair) context request m clean agree s = pair_locks context m clean agree request pair s.keys s.holding.left s.holding.right s.holding.holds
two_locks (Some told) (Owing pair told') context request m clean agree s = pair_locks context m clean agree request pair s.keys s.holding.left s.holding.right s.holding.holds
two_locks (Some told) (Wide WideStage.Own walk) context request m clean agree s = locks_at walk.phase context walk m clean agree s.stands (subst IsNotFull (sym s.at_bucket) tt)
two_locks (Some told) (Wide WideStage.Size walk) context request m clean agree s = over_locks context request walk m clean agree s.since s.put s.to_key.wide s.keys s.stands (inr (subst IsChangedPhase (sym s.phase) tt))

-- **So does any operation.**
access_path_locks : (access_path : AccessPath) (context : WalkContext) (o : OperationFields) (m : LocalState) (clean : FilePages) → Agrees (view_of m).seen clean → OperatesBy access_path (one_key context) o (view_of m)
    → LocksBy access_path (one_key context) clean o.request m.running.images (view_of m).modes
access_path_locks (One walk) context o m clean agree operates =
    locks_at walk.phase context walk m clean agree operates.stands (fits_not_full walk.phase (one_key context) (walking o.request o.reply walk) (view_of m) operates.fits)
access_path_locks (Two two_records) context o m clean agree operates = two_locks o.reply two_records context o.request m clean agree operates

module _ (s : State) (i : ℕ) where
  -- the locks of an open transaction, by where it is
  fitting_locks : (a : At) (t : Transaction) → Agrees (view_of (local_of (all_of s) i)).seen (clean_of (all_of s)) → FitsAt a s i t → LocksOf (running_at a) s.shared.pages.locks (context_of (abstract_state_of s) i) (clean_of (all_of s)) (images_by (all_of s) i)
  fitting_locks At.Idle t agree fits = fits.no_locks
  fitting_locks (At.Pending o) t agree fits = access_path_locks o.access_path (context_of (abstract_state_of s) i) o (local_of (all_of s) i) (clean_of (all_of s)) agree fits.operates
  fitting_locks (At.Undoing None) t agree fits = fits.0.no_locks
  fitting_locks (At.Undoing (Some o)) t agree fits = access_path_locks o.access_path (context_of (abstract_state_of s) i) o (local_of (all_of s) i) (clean_of (all_of s)) agree fits.operates

  locks_by : IsSound s → (there : Option Transaction) → map.get s.txs i ≡ there → LocksOf (running_of there) s.shared.pages.locks (context_of (abstract_state_of s) i) (clean_of (all_of s)) (images_by (all_of s) i)
  locks_by sound None is = not_true (is_holder s.shared.pages.locks i) (λ holds. false≢true (sym (ap is_some (sound.kept i ∙ ap images_kept is)) ∙ sound.running.holders_open i holds))
  locks_by sound (Some t) is = fitting_locks t.at t (agrees_in s i t sound is) (sound.fits i t is).where_at

  -- the images that it keeps
  images_are : IsSound s → images_by (all_of s) i ≡ images_at (map.get s.txs i)
  images_are sound = ap (λ (o : Option Images). unwrap_or o map.empty) (sound.kept i)

  -- **Each transaction holds the page locks of its pass, and else none;**
  pub pass_locks : IsSound s → LocksOf (running_of (map.get s.txs i)) s.shared.pages.locks (context_of (abstract_state_of s) i) (clean_of (all_of s)) (images_at (map.get s.txs i))
  pass_locks sound = subst (λ (images : Images). LocksOf (running_of (map.get s.txs i)) s.shared.pages.locks (context_of (abstract_state_of s) i) (clean_of (all_of s)) images) (images_are sound) (locks_by sound (map.get s.txs i) refl)

  -- **and exclusively what its pass has written or made.**
  pub written_locks : IsSound s → (q : ℕ) → is_some (image_of (images_at (map.get s.txs i)) q) ≡ true → mode_held s.shared.pages.locks i q ≡ Some Exclusive
  written_locks sound q written =
      let kept : is_some (image_of (images_by (all_of s) i) q) ≡ true = subst (λ (images : Images). is_some (image_of images q) ≡ true) (sym (images_are sound)) written in
      holds_exclusively (local_of (all_of s) i) q (sound.running.images_locked i q kept)
