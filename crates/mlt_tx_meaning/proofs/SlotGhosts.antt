-- One change of a record keeps the file with its ghosts, whatever its records mean: the laws of changes of one slot,
-- where slots were moved before.
use Rattle.std.proofs.Common.{◌≡◌, ℕ, true, false, Option, Some, sym, subst, ap, ◌∙◌, slice_index_or, nat_cmp}
use Rattle.std.specs.FinMap as map
use Rattle.mlt_tx_meaning.proofs.Names.{Page, Free, Ghost, key_number, Cell, RecChange, slot_of, bucket_of, buckets_of, slot_at, slot_after, value_after, StoodBefore, Change, Set, PagesMatchOperations, Ledger, NoOtherLast, last_by, Added, Appends, Removed, Standing, LeavesChange, IsOpenAt, IsFileWithGhosts, AbstractState, context_of, ledger_with}
use Rattle.mlt_hash.specs.declared.pass.Change.TheVariants.{Put, Revive, Remove}
use Rattle.mlt_hash_ghosts.{specs.Events.ChangesSlot, proofs.Moves.moved, proofs.SlotTests.ghost_from}
use Rattle.mlt_hash_ghosts.proofs.Changes.{ghost_addition_law, plain_put_law, plain_update_law, put_addition_law, removal_law, undone_addition_law, undone_removal_law}

module _ (state : AbstractState) (tx : ℕ) (cell : Cell) (change : RecChange) (pages : map.FinMap nat_cmp Page) (stood : Standing)
    (h : IsFileWithGhosts (ledger_with state stood) state.max_depth) (e : LeavesChange state tx cell change pages) where
  abbrev key : ℕ
  key = key_number cell

  -- the clean pages as they were, and with the slots moved
  abbrev before : Ledger
  before = ledger_with state stood

  abbrev rested : Ledger
  rested = record before { pages = e.rest }

  rested_matches : PagesMatchOperations rested
  rested_matches = moved before e.rest h.ghosts e.moves

  -- what stood in the slot, and what comes to stand there
  abbrev ChangesSlotBy : Change → Type 0
  ChangesSlotBy done = StoodBefore done (context_of state tx) key e.spot.bucket.slots (slot_of e.spot)
      × ChangesSlot rested (map.get pages) e.spot key (value_after done) (slot_after done key tx)

  by_change : (done : Change) → e.done ≡ done → ChangesSlotBy done
  by_change done is = subst ChangesSlotBy is (e.was, record { at_home = e.home; changes = e.changes })

  module _ (standing : Standing) where
    -- with what stands then, the clean pages are a file with its ghosts
    abbrev pub HasFileThen : Type 0
    HasFileThen = IsFileWithGhosts (ledger_with (record state { pages = pages }) standing) state.max_depth

    settled : PagesMatchOperations (record rested { standing = standing; pages = map.get pages }) → HasFileThen
    settled matches = record { bounded = h.bounded; small = h.small; form = e.changes.form; shallow = e.shallow; ghosts = matches }

    -- ---- what is done

    pub puts : (v : ℕ) → e.done ≡ Put v → IsOpenAt state tx → NoOtherLast before tx key Removed → Appends stood standing tx key Added → HasFileThen
    puts v is is_open alone says =
        let r = by_change (Put v) is in
        settled (put_addition_law rested standing (map.get pages) e.spot tx key v rested_matches (record { is_open = is_open; unopposed = alone }) (record { absent = r.0.0; ghostless = r.0.1; free = r.0.2 }) r.1 says)

    pub revives : (v : ℕ) → e.done ≡ Revive v → IsOpenAt state tx → NoOtherLast before tx key Removed → Appends stood standing tx key Added → HasFileThen
    revives v is is_open alone says =
        let r = by_change (Revive v) is in
        settled (ghost_addition_law rested standing (map.get pages) e.spot tx key v rested_matches (record { is_open = is_open; unopposed = alone }) r.0.0 r.0.1 r.1 says)

    pub removes : e.done ≡ Remove → IsOpenAt state tx → state.undoing tx ≡ false → NoOtherLast before tx key Added → Appends stood standing tx key Removed → HasFileThen
    removes is is_open forward alone says =
        let r = by_change Remove is in
        settled (removal_law rested standing (map.get pages) e.spot tx key rested_matches (record { is_open = is_open; forward = forward; unopposed = alone }) r.0 r.1 says)

    -- ---- what is taken back

    pub takes_addition_back : e.done ≡ Remove → IsOpenAt state tx → state.undoing tx ≡ true → Appends standing stood tx key Added → HasFileThen
    takes_addition_back is is_open backward says =
        let r = by_change Remove is in
        settled (undone_addition_law rested standing (map.get pages) e.spot tx key rested_matches is_open backward r.0 r.1 says)

    pub takes_removal_back : (v : ℕ) → e.done ≡ Revive v → IsOpenAt state tx → Appends standing stood tx key Removed → HasFileThen
    takes_removal_back v is is_open says =
        let r = by_change (Revive v) is in
        settled (undone_removal_law rested standing (map.get pages) e.spot tx key v rested_matches is_open r.0.1 r.1 says)

    -- ---- what leaves the presence of the key

    unsaid : standing ≡ stood → PagesMatchOperations (record rested { pages = map.get pages }) → HasFileThen
    unsaid same matches = settled (subst (λ (s : Standing). PagesMatchOperations (record rested { standing = s; pages = map.get pages })) (sym same) matches)

    pub sets : (v : ℕ) → e.done ≡ Set v → standing ≡ stood → HasFileThen
    sets v is same =
        let r = by_change (Set v) is in
        unsaid same (plain_update_law rested (map.get pages) e.spot key v rested_matches r.0 r.1)

    pub puts_unsaid : (v : ℕ) → e.done ≡ Put v → ((owner : ℕ) → last_by before owner key ≡ Some Removed → ⊥) → standing ≡ stood → HasFileThen
    puts_unsaid v is none same =
        let r = by_change (Put v) is in
        unsaid same (plain_put_law rested (map.get pages) e.spot key v rested_matches (λ owner _ last. none owner last) r.0.2 r.1)

  -- a ghost that is revived was left by a removal, before the abort begins
  pub revived_was_removed : (v : ℕ) → e.done ≡ Revive v → IsOpenAt state tx → state.undoing tx ≡ false → last_by before tx key ≡ Some Removed
  revived_was_removed v is is_open forward =
      let r = by_change (Revive v) is in
      let ghost = ghost_from key tx (slice_index_or e.spot.bucket.slots e.spot.at Free) r.0.1 in
      let here : slot_at (buckets_of rested.pages) e.spot.number e.spot.at ≡ Ghost key ghost.0 tx =
      ap (λ (p : Option Page). slice_index_or (bucket_of p).slots e.spot.at Free) r.1.at_home.home.found ∙ ghost.1
      in
      (rested_matches.step tx key is_open).forward forward e.spot.number e.spot.at (ghost.0, here)
