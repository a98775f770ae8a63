-- What the end of an inverse makes of the clean pages
use Rattle.std.proofs.Common.{◌≡◌, ℕ, [], Option, None, Some, IsSome, is_some, true, refl, sym, ap, subst, ◌∙◌, inl, inr, nat_cmp}
use Rattle.mlt_manager_invariant.proofs.Names.{cases_eq, false≢true, IsInRange, Mode, Page, ObjOp, ObjReply, cell_of, RecChange, Request, TakeBack, inverse_of, changes_on, decision, size_key_of, target_of, same_entries, released, Running, Agrees, View, view_of, WalkContext, HasRead, Stands, WalkFields, Phase, leaves_as_told, IsTold, LeavesAsTold, Performs, TwoRecordWalk, AccessPath, One, Two, OperatesBy, OperationFields, StandsOrTold, FitsPhase, IsWalking, walking, clean_pages, AllRunning, HoldsNothing, KeepsRunning, after_end, clean_of, is_open, local_of, end_clean, end_keeps, nothing_at_end, agrees_with_each, ChangesPages, EndsWith, context_of, sees_held_alone, walk_leaves_change, found_is_record, SharedState, Transaction, HasInverse, IsSound, State, all_of, images_kept, abstract_state_of}
use Rattle.std.specs.FinMap as map
use Rattle.mlt_object_base.specs.Meaning.{changes_back}
use Rattle.mlt_hash.specs.{Walks.IsChanged, declared.pass.Change.Change}
use Rattle.mlt_tx_operation.specs.Walking.{WalkingFields}
use Rattle.mlt_tx_meaning.{specs.Ends.LeavesChange, proofs.TwoEnds.undone_leaves}
use Rattle.mlt_tx.specs.Endings.{EndsSubtx}
use Rattle.mlt_manager_invariant.proofs.{OneChange.no_inverse_no_size, OneChange.no_size_inverse, OneChange.own_alone, Tables.inserted_elsewhere, Tables.inserted_here}

-- an inverse on one record has made its change, at its end
record HasChanged (context : WalkContext) (o : WalkingFields) (view : View) (item : ObjOp × ObjReply) : Type 0 where
  pub bucket : ℕ
  pub done : Change
  pub change : RecChange
  pub found : Option ℕ
  pub is : inverse_of item ≡ Some change
  pub changed : IsChanged context o.walk view bucket done
  pub read : HasRead context o.walk.key view found
  pub performs : Performs change found done

no_reply : (o : WalkingFields) → IsSome o.reply → o.reply ≡ None → ⊥
no_reply o some none = false≢true (sym (ap is_some none) ∙ some)

has_changed : (p : Phase) (context : WalkContext) (o : WalkingFields) (view : View) (item : ObjOp × ObjReply) → IsSome o.reply → IsSome (inverse_of item) → o.request ≡ TakeBack item
    → Stands p context o.walk view → FitsPhase p context o view → HasChanged context o view item
has_changed Phase.Start context o view item some has asked stands fits = absurd (no_reply o some fits)
has_changed (Phase.Headed dir row depth) context o view item some has asked stands fits = absurd (no_reply o some fits)
has_changed (Phase.Placed bucket depth) context o view item some has asked stands fits = absurd (no_reply o some fits)
has_changed (Phase.AtBucket bucket depth found) context o view item some has asked stands fits =
    let none : inverse_of item ≡ None = ap (λ (d : ObjReply × Option RecChange). d.1) (ap (λ (r : Request). decision r found) (sym asked) ∙ fits.2) in
    absurd (false≢true (sym (ap is_some none) ∙ has))
has_changed (Phase.Full next) context o view item some has asked stands fits = absurd fits
has_changed (Phase.Adding value bucket depth unsplit) context o view item some has asked stands fits = absurd (no_reply o some fits.0)
has_changed (Phase.Splitting value depth) context o view item some has asked stands fits = absurd (no_reply o some fits.0)
has_changed (Phase.Changed bucket done) context o view item some has asked stands fits = record {
  bucket = bucket;
  done = done;
  change = fits.decided;
  found = fits.found;
  is = ap (λ (d : ObjReply × Option RecChange). d.1) (ap (λ (r : Request). decision r fits.found) (sym asked) ∙ fits.asked);
  changed = stands;
  read = fits.read;
  performs = fits.performs;
}

-- transaction i keeps no image, and the locks and the pages are these
abbrev pub cleared : State → ℕ → SharedState → AllRunning
cleared s i shared = record {
  images = map.insert s.images i map.empty;
  locks = shared.pages.locks;
  store = shared.pages.store;
}

-- its inverse is made, or there is none, and it holds nothing
pub record IsCleared (s : State) (i : ℕ) (shared : SharedState) (item : ObjOp × ObjReply) : Type 0 where
  pub keeps : KeepsRunning i (all_of s) (cleared s i shared)
  pub nothing : HoldsNothing (cleared s i shared) i
  pub changes : ChangesPages (abstract_state_of s) i (changes_on item.0 (changes_back item)) (clean_pages (map.insert s.images i map.empty) shared.pages.store.pages)

pub open_there : (s : State) (i : ℕ) (t : Transaction) → IsSound s → map.get s.txs i ≡ Some t → is_open (all_of s) i ≡ true
open_there s i t sound was = ap is_some (sound.kept i ∙ ap images_kept was)

module _ (s : State) (i : ℕ) (before : Transaction) (between shared : SharedState) (sound : IsSound s) (was : map.get s.txs i ≡ Some before) (pages : shared.pages ≡ between.pages) where
  module _ (o : OperationFields) (fits : HasInverse s i before o) (some : IsSome o.reply) (after : Running) (ends : EndsSubtx before.subtx after s.shared between) where
    is_end : after_end (all_of s) i ≡ cleared s i shared
    is_end =
        let locks : released s.shared.pages.locks i ≡ shared.pages.locks = ap (released s.shared.pages.locks) (sym (sound.fits i before was).number) ∙ sym (ap (λ p. p.locks) pages ∙ ends.locks) in
        let store = sym (ap (λ p. p.store) pages ∙ ends.store) in
        λ p. record { images = map.insert s.images i map.empty; locks = locks p; store = store p }

    clean_at_end : (q : ℕ) → clean_of (cleared s i shared) q ≡ clean_of (after_end (all_of s) i) q
    clean_at_end q = ap (λ all. clean_of all q) (sym is_end)

    abbrev context : WalkContext
    context = context_of (abstract_state_of s) i

    abbrev seen : View
    seen = view_of (local_of (all_of s) i)

    abbrev pages_now : map.FinMap nat_cmp Page
    pages_now = clean_pages (map.insert s.images i map.empty) shared.pages.store.pages

    agrees : Agrees seen.seen (clean_of (all_of s))
    agrees = agrees_with_each (all_of s) i sound.running (open_there s i before sound was)

    ends_with : EndsWith (abstract_state_of s) seen pages_now
    ends_with = record { held = sees_held_alone (local_of (all_of s) i); ends = λ q. clean_at_end q ∙ ap (λ f. f q) (end_clean (all_of s) i sound.running) }

    abbrev Undone : Type 0
    Undone = ChangesPages (abstract_state_of s) i (changes_on fits.last.0 (changes_back fits.last)) pages_now

    -- on one record its change is left alone
    module _ (walk : WalkFields) (walks : IsWalking context (walking o.request o.reply walk) seen) where
      has : HasChanged context (walking o.request o.reply walk) seen fits.last
      has = has_changed walk.phase context (walking o.request o.reply walk) seen fits.last some fits.has fits.inverts.asked walks.stands walks.fits

      leaves_change : LeavesChange (abstract_state_of s) i (cell_of fits.last.0) has.change pages_now
      leaves_change =
          let key_is = ap (λ (t : ℕ × Mode). t.0) (walks.target ∙ ap target_of fits.inverts.asked) in
          walk_leaves_change (abstract_state_of s) i pages_now walk seen has.bucket has.done has.changed agrees ends_with.ends sound.match.file.form (cell_of fits.last.0) has.change key_is
          (subst (λ (f : Option ℕ). Performs has.change f has.done) (found_is_record (abstract_state_of s) i (cell_of fits.last.0) walk.key seen has.found sound.match has.read key_is agrees) has.performs)

      undone_on_one : Undone
      undone_on_one =
          let alone = no_size_inverse fits.last (ap size_key_of (sym fits.inverts.asked) ∙ walks.alone) in
          let all : changes_back fits.last ≡ record { own = Some has.change; size = None } = λ j. record { own = has.is j; size = alone j } in
          subst (λ l. ChangesPages (abstract_state_of s) i l pages_now) (sym (ap (changes_on fits.last.0) all ∙ own_alone fits.last.0 (Some has.change))) leaves_change

    -- on two both are
    undone_on_two : (two_records : TwoRecordWalk) (r : Option ObjReply) → IsSome r → IsInRange (cell_of fits.last.0) → StandsOrTold r two_records context o.request seen → Undone
    undone_on_two two_records None none range stands = absurd (false≢true none)
    undone_on_two two_records (Some reply) told range stands =
        let there : IsTold two_records context (TakeBack fits.last) reply seen = subst (λ (q : Request). IsTold two_records context q reply seen) fits.inverts.asked stands in
        let leaves : LeavesAsTold context (TakeBack fits.last) reply seen (clean_of (all_of s)) =
        leaves_as_told context (TakeBack fits.last) reply seen (clean_of (all_of s)) sound.match.file.bounded agrees sound.match.file.form sound.match.file.shallow two_records there in
        undone_leaves (abstract_state_of s) i reply seen pages_now sound.match ends_with fits.last range leaves

    undone_by : (c : AccessPath) → IsInRange (cell_of fits.last.0) → OperatesBy c context o seen → Undone
    undone_by (One walk) range walks = undone_on_one walk walks
    undone_by (Two two_records) range stands = undone_on_two two_records o.reply some range stands

    pub cleared_by_inverse : IsInRange (cell_of fits.last.0) → IsCleared s i shared fits.last
    cleared_by_inverse range = record {
      keeps = subst (KeepsRunning i (all_of s)) is_end (end_keeps (all_of s) i sound.running (open_there s i before sound was));
      nothing = subst (λ all. HoldsNothing all i) is_end (nothing_at_end (all_of s) i);
      changes = undone_by o.access_path range fits.operates;
    }

  module _ (item : ObjOp × ObjReply) (nothing : HoldsNothing (all_of s) i) (same : between ≡ s.shared) (none : inverse_of item ≡ None) where
    same_images : map.insert s.images i map.empty ≡ s.images
    same_images = same_entries _ _ (λ q. elim (cases_eq q i) [
      | inl here ↦ ap (map.get (map.insert s.images i map.empty)) here ∙ inserted_here s.images i map.empty ∙ sym nothing.no_images ∙ ap (map.get s.images) (sym here)
      | inr differ ↦ inserted_elsewhere s.images i map.empty q differ
    ])

    is_same : all_of s ≡ cleared s i shared
    is_same =
        let now = pages ∙ ap (λ (c : SharedState). c.pages) same in
        λ p. record { images = sym same_images p; locks = (sym now p).locks; store = (sym now p).store }

    stays : KeepsRunning i (all_of s) (all_of s)
    stays = record { may = sound.running; views = λ u ne. refl; images = λ u ne. refl; holders = λ u ne. refl }

    list : changes_on item.0 (changes_back item) ≡ []
    list =
        let all : changes_back item ≡ record { own = None; size = None } = λ j. record { own = none j; size = no_inverse_no_size item none j } in
        ap (changes_on item.0) all ∙ own_alone item.0 None

    pub cleared_without : IsCleared s i shared item
    cleared_without = record {
      keeps = subst (KeepsRunning i (all_of s)) is_same stays;
      nothing = subst (λ all. HoldsNothing all i) is_same nothing;
      changes = subst (λ l. ChangesPages (abstract_state_of s) i l (clean_pages (map.insert s.images i map.empty) shared.pages.store.pages)) (sym list) (λ q. ap (λ all. clean_of all q) (sym is_same));
    }
