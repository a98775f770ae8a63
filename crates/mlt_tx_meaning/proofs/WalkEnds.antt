-- A walk that ends leaves the change that it has made.
use Rattle.std.proofs.Common.{◌≡◌, ℕ, ◌≤◌, Option, Some, None, sym, subst, ap, ◌∙◌, unwrap_or, nat_cmp}
use Rattle.std.specs.FinMap as map
use Rattle.mlt_tx_meaning.proofs.Names.{key_number, Cell, Page, RecChange, slot_of, FilePages, HasForm, header_of, Agrees, over, own_or_clean, View, slot_after, value_after, StoodBefore, WalkFields, Change, rearranged_moved, Performs, LeavesChange, AbstractState, context_of, record_at}
use Rattle.mlt_hash_form.specs.Changes.{ChangesRecord, IsAtHome, Spot, slot_change}
use Rattle.mlt_hash.specs.Walks.{IsChanged}

module _ (state : AbstractState) (tx : ℕ) (pages : map.FinMap nat_cmp Page) (walk : WalkFields) (view : View) (bucket : ℕ) (done : Change)
    (changed : IsChanged (context_of state tx) walk view bucket done) (agrees : Agrees view.seen (map.get state.pages)) (ends : (q : ℕ) → map.get pages q ≡ over (map.get state.pages) view.own q)
    (form : HasForm state.bits (map.get state.pages) state.root) where
  abbrev rest : FilePages
  rest = over (map.get state.pages) changed.rest

  abbrev spot : Spot
  spot = record { number = bucket; at = changed.slot; bucket = changed.fields }

  header_now : map.get pages state.root ≡ Some (Page.Head changed.header)
  header_now =
      let placed = changed.read.way.placed in
      ends state.root ∙ ap (own_or_clean (view.own state.root)) (agrees state.root (Some (Page.Head placed.header)) placed.head)
      ∙ sym (ap (λ (o : Option (Option Page)). own_or_clean (view.own state.root) (unwrap_or o None)) placed.head) ∙ changed.head

  -- what is said of the key, where these are the pages
  abbrev SaysOfKey : FilePages → ℕ → Type 0
  SaysOfKey after key = IsAtHome state.bits rest state.root key spot
      × StoodBefore done (context_of state tx) key spot.bucket.slots (slot_of spot)
      × ChangesRecord state.bits rest after state.root (slot_change key (value_after done) spot.number spot.at (slot_after done key tx))

  by_walk : SaysOfKey (over (map.get state.pages) view.own) walk.key
  by_walk = (
    record { home = changed.home (map.get state.pages) agrees form; within = changed.within },
    changed.was,
    changed.changes.changes (map.get state.pages) agrees form,
  )

  pub walk_leaves_change : (cell : Cell) (change : RecChange) → walk.key ≡ key_number cell → Performs change (record_at state cell) done → LeavesChange state tx cell change pages
  walk_leaves_change cell change key_is performs =
      let written : over (map.get state.pages) view.own ≡ map.get pages = λ j q. sym (ends q) j in
      let says = subst (λ (after : FilePages). SaysOfKey after (key_number cell)) written (subst (SaysOfKey (over (map.get state.pages) view.own)) key_is by_walk) in
      record {
        rest = rest;
        moves = rearranged_moved state.bits state.active view.seen (map.get state.pages) rest state.root (changed.changes.keeps (map.get state.pages) agrees form);
        spot = spot;
        home = says.0;
        done = done;
        performs = performs;
        was = says.1;
        changes = says.2;
        shallow = subst (λ (depth : ℕ). depth ≤ state.max_depth) (sym (ap (λ p. (header_of p).depth) header_now)) changed.shallow;
      }
