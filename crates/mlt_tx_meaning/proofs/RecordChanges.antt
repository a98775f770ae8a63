-- What changes leave of the map of the records.
use Rattle.std.proofs.Common.{◌≡◌, ℕ, List, [], ◌∷◌, ◌++◌, Option, Some, None, refl, ap, ◌∙◌, inl, inr, nat_cmp}
use Rattle.std.specs.FinMap as map
use Rattle.std.specs.FinSet as set
use Rattle.mlt_tx_meaning.proofs.Names.{key_number, Cell, is_kept, Page, Live, RecChange, records_after, record_after, FilePages, GivesPseudokeys, HasForm, buckets_of, lead_of, look_up, live_records, value_after, Change, Performs, ChangesPages, LeavesChange, AbstractState, record_at}
use Rattle.mlt_types.specs.Maps.{with_entry}
use Rattle.mlt_hash_form.{specs.Form.HasSlot, proofs.InPages.same_option, proofs.Lookup.found, proofs.MapChanges.changed_map}
use Rattle.mlt_hash_ghosts.specs.Moves.{MovesSlots}
use Rattle.mlt_tx_meaning.proofs.Matches.{kept_pages}

-- what is done leaves the value that the change of the record asks for
performed : (change : RecChange) (live : Option ℕ) (done : Change) → Performs change live done → value_after done ≡ record_after (Some change) live
performed (RecChange.Add v) live done (inl is) = ap value_after is
performed (RecChange.Add v) live done (inr is) = ap value_after is
performed (RecChange.Set v) live done is = ap value_after is
performed RecChange.ToGhost live done is = ap value_after is
performed RecChange.Revive live done is = ap value_after is
performed (RecChange.Plus n) (Some v) done is = ap value_after is
performed (RecChange.Minus n) (Some v) done is = ap value_after is
performed (RecChange.Plus n) None done is = absurd is
performed (RecChange.Minus n) None done is = absurd is

-- where slots are moved, each key has the value that it had
moved_values : (bits : ℕ → ℕ) (active : set.FinSet nat_cmp) (before after : FilePages) (root : ℕ) → MovesSlots bits (is_kept active) before after root → HasForm bits before root
    → (key : ℕ) → look_up bits after root key ≡ look_up bits before root key
moved_values bits active before after root moves form key =
    let now_found = λ (v : ℕ). found bits _ (lead_of after root) (buckets_of after) moves.form.form key v in
    let was_found = λ (v : ℕ). found bits _ (lead_of before root) (buckets_of before) form.form key v in
    let back = λ (v : ℕ) (h : HasSlot (buckets_of after) (Live key v)). let b = moves.stood h.0 h.1 (rw h.2 refl) in
    let was : HasSlot (buckets_of before) (Live key v) = (b.0, h.1, b.1 ∙ h.2) in was in
    let on = λ (v : ℕ) (h : HasSlot (buckets_of before) (Live key v)). moves.kept (Live key v) refl h in
    same_option _ _ (λ v e. (was_found v).0 (back v ((now_found v).1 e))) (λ v e. (now_found v).0 (on v ((was_found v).1 e)))

-- the record of the cell becomes what the change makes of it, and no other record changes
changed_records : (state : AbstractState) (tx : ℕ) (cell : Cell) (change : RecChange) (pages : map.FinMap nat_cmp Page) → GivesPseudokeys state.bits → HasForm state.bits (map.get state.pages) state.root → (e : LeavesChange state tx cell change pages)
    → live_records pages ≡ with_entry (live_records state.pages) (key_number cell) (record_after (Some change) (record_at state cell))
changed_records state tx cell change pages bounded form e =
    changed_map state.bits state.pages pages state.root (key_number cell) (value_after e.done) bounded form e.changes.form e.changes.here
    (λ k ne. e.changes.others k ne ∙ moved_values state.bits state.active (map.get state.pages) e.rest state.root e.moves form k)
    ∙ ap (with_entry (live_records state.pages) (key_number cell)) (performed change (record_at state cell) e.done e.performs)

-- **The records become what the changes make of them, one after the other.**
pub records_become : (state : AbstractState) (tx : ℕ) (changes : List (Cell × RecChange)) (pages : map.FinMap nat_cmp Page) → GivesPseudokeys state.bits → HasForm state.bits (map.get state.pages) state.root → ChangesPages state tx changes pages
    → live_records pages ≡ records_after (live_records state.pages) changes
records_become state tx [] pages bounded form keeps = ap live_records (kept_pages state pages keeps)
records_become state tx (change ∷ []) pages bounded form e = changed_records state tx change.0 change.1 pages bounded form e
records_become state tx (change ∷ next ∷ changes) pages bounded form e =
    records_become (record state { pages = e.0 }) tx (next ∷ changes) pages bounded e.1.changes.form e.2
    ∙ ap (λ (records : map.FinMap nat_cmp ℕ). records_after records (next ∷ changes)) (changed_records state tx change.0 change.1 e.0 bounded form e.1)

-- **Changes are made in two parts, if they are made one after the other.**
pub changes_split : (state : AbstractState) (tx : ℕ) (first second : List (Cell × RecChange)) (pages : map.FinMap nat_cmp Page) → ChangesPages state tx (first ++ second) pages
    → (between : map.FinMap nat_cmp Page) × ChangesPages state tx first between × ChangesPages (record state { pages = between }) tx second pages
changes_split state tx [] second pages e = (state.pages, λ q. refl, e)
changes_split state tx (change ∷ []) [] pages e = (pages, e, λ q. refl)
changes_split state tx (change ∷ []) (next ∷ second) pages e = (e.0, e.1, e.2)
changes_split state tx (change ∷ next ∷ first) second pages e =
    let rest = changes_split (record state { pages = e.0 }) tx (next ∷ first) second pages e.2 in
    (rest.0, (e.0, e.1, rest.1), rest.2)
