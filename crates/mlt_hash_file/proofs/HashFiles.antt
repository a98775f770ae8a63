-- A hash file alone: as it is opened, and its records as one finite map
use Rattle.std.proofs.Common.{◌≡◌, ℕ, ◌<◌, ◌≤◌, ◌^◌, eqb, cond, Option, None, sym, ap, subst, ◌∙◌, inl, inr, arith, nat_cmp, rules}
use Rattle.std.specs.FinMap as map
use Rattle.mlt_hash_file.proofs.Names.{steps_to_bucket, WalkFields, nothing_before, Phase, nothing_written, LocalState, view_of, IsAlone, IsIdle, KeepsBefore, context_alone, pages_before, ChangesValue, HasArrived, IsFileBefore, IsHashFile, IsReadySince, RefusesFor, records_after, depth_of, header_of, look_up, live_records, Root, same_pages, Pages, page_at, Page, get_inserted, get_removed, same_entries, page_at-put_back, put_back, Refusal, transport, nat_tests}
use Rattle.std.proofs.lemmas.Bool.{cases_eq}
use Rattle.mlt_hash_form.{proofs.MapChanges.map_is_look_up, proofs.OpeningFile.opening_has_form, specs.Changes.IsOpening}
use Rattle.mlt_hash_file.{proofs.AloneEnds.idle_before, proofs.AloneEnds.idle_starts, proofs.AloneEnds.idle_store, proofs.AlonePasses.arrived_store, proofs.AlonePasses.found_is_value, proofs.AloneWalks.ready_at_start, proofs.AloneWalks.same_before, specs.AloneWalks.IsAbsentBefore, specs.AloneWalks.TellsRefusal}

-- the directory of a file that is opened has depth 0
pub opened_depth : (root d b : ℕ) (pages : Pages) → IsOpening (page_at pages) root d b → depth_of (page_at pages) root ≡ 0
opened_depth root d b pages is = ap (λ (o : Option Page). (header_of o).depth) is.head

-- **It is a hash file without records, whose directory has depth 0.**
pub opened_file : (bits : ℕ → ℕ) (root d b max_depth : ℕ) (pages : Pages) → ((k : ℕ) → bits k < 2 ^ 64) → max_depth ≤ 16 → IsOpening (page_at pages) root d b → IsHashFile bits (page_at pages) root max_depth
opened_file bits root d b max_depth pages bounded small is =
    let shallow : depth_of (page_at pages) root ≤ max_depth = omega (arith, opened_depth root d b pages is) in
    search (rules, opening_has_form bits (page_at pages) root d b is)

-- the look-up of a key in the map of records is that in the file
record_is : {P : Type 0} (bits_of : P → ℕ → ℕ) (root : Root P) (pages : Pages) (key : ℕ) → IsHashFile (bits_of root.pseudo) (page_at pages) root.page root.max_depth → map.get (live_records pages) key ≡ look_up (bits_of root.pseudo) (page_at pages) root.page key
record_is bits_of root pages key file = map_is_look_up (bits_of root.pseudo) pages root.page file.bounded file.form key

get_after : (records : map.FinMap nat_cmp ℕ) (key : ℕ) (value : Option ℕ) (q : ℕ) → map.get (records_after records key value) q ≡ cond (eqb q key) value (map.get records q)
get_after records key value q = grind (arith, nat_tests, get_inserted {X = ℕ}, get_removed {X = ℕ})

-- who left the pages as they were before, and wrote none, left the store as it was
pub store_stays : (old new : LocalState) → IsIdle old → KeepsBefore old new → page_at new.store.pages ≡ pages_before new → new.store ≡ old.store
store_stays old new idle keeps unwritten =
    let pages : new.store.pages ≡ old.store.pages = same_pages new.store.pages old.store.pages (λ q. (λ i. unwritten i q) ∙ keeps.pages q ∙ idle_before old q idle) in
    λ i. record { pages = pages i; max_pages = keeps.max_pages i }

module _ {P : Type 0} (bits_of : P → ℕ → ℕ) (root : Root P) (old : LocalState) (idle : IsIdle old) (file : IsHashFile (bits_of root.pseudo) (page_at old.store.pages) root.page root.max_depth) where
  -- a file at rest is the one that a walk finds,
  pub file_before : IsFileBefore bits_of root old
  file_before = subst (λ (pages : ℕ → Option Page). IsHashFile (bits_of root.pseudo) pages root.page root.max_depth) (sym (idle_store old idle)) file

  -- so a walk may start there
  pub ready_to_find : (walk : WalkFields) → walk.phase ≡ Phase.Start → (0 < steps_to_bucket walk.phase) × IsReadySince nothing_before bits_of root old walk
  ready_to_find walk start = ready_at_start bits_of root old walk start (idle_starts old idle) file_before

  -- a key that no record has is absent to it
  pub absent_before : (key : ℕ) → map.get (live_records old.store.pages) key ≡ None → IsAbsentBefore bits_of root old key
  absent_before key absent = ap (λ (pages : ℕ → Option Page). look_up (bits_of root.pseudo) pages root.page key) (idle_store old idle) ∙ sym (record_is bits_of root old.store.pages key file) ∙ absent

  module _ (new : LocalState) (keeps : KeepsBefore old new) where
    pages_were : pages_before new ≡ page_at old.store.pages
    pages_were = same_before old new keeps ∙ idle_store old idle

    -- who has only read leaves the store as it was
    pub store_read : (before walk : WalkFields) (value : Option ℕ) → IsAlone new → HasArrived (context_alone nothing_before bits_of root old) new before walk value → new.store ≡ old.store
    store_read before walk value alone arrived = store_stays old new idle keeps (arrived_store (context_alone nothing_before bits_of root old) new before walk value alone (nothing_written (view_of new)) arrived)

    -- what was found is the record
    pub found_is_record : (before walk : WalkFields) (value : Option ℕ) → IsAlone new → HasArrived (context_alone nothing_before bits_of root old) new before walk value → value ≡ map.get (live_records old.store.pages) before.key
    found_is_record before walk value alone arrived =
        sym (found_is_value (context_alone nothing_before bits_of root old) new before walk value alone arrived)
        ∙ ap (λ (pages : ℕ → Option Page). look_up (bits_of root.pseudo) pages root.page before.key) pages_were
        ∙ sym (record_is bits_of root old.store.pages before.key file)

    -- **A change of the file is one of the map of records.**
    pub changes_records : (key : ℕ) (value : Option ℕ) → ChangesValue (bits_of root.pseudo) (pages_before new) (page_at new.store.pages) root.page root.max_depth key value → live_records new.store.pages ≡ records_after (live_records old.store.pages) key value
    changes_records key value changed =
        let changes : ChangesValue (bits_of root.pseudo) (page_at old.store.pages) (page_at new.store.pages) root.page root.max_depth key value =
        subst (λ (pages : ℕ → Option Page). ChangesValue (bits_of root.pseudo) pages (page_at new.store.pages) root.page root.max_depth key value) pages_were changed in
        same_entries (live_records new.store.pages) (records_after (live_records old.store.pages) key value) (λ q.
        elim (cases_eq q key) [
          | inl here ↦ record_is bits_of root new.store.pages q changes.file ∙ ap (look_up (bits_of root.pseudo) (page_at new.store.pages) root.page) here ∙ changes.here ∙ grind (arith, nat_tests, get_after (live_records old.store.pages) key value q)
          | inr other ↦ record_is bits_of root new.store.pages q changes.file ∙ changes.others q other ∙ sym (record_is bits_of root old.store.pages q file) ∙ grind (arith, nat_tests, get_after (live_records old.store.pages) key value q)
        ])

    -- **An addition that is refused says of the file as it was why.**
    pub refuses : (key : ℕ) (reason : Refusal) → TellsRefusal (context_alone nothing_before bits_of root old) new key reason → RefusesFor (record { bits = bits_of root.pseudo; has = page_at old.store.pages; pages = old.store.pages; root = root.page; max_depth = root.max_depth; max_pages = old.store.max_pages }) key reason
    refuses key reason tells =
        let pages : put_back new.running.images new.store.pages ≡ old.store.pages = same_pages _ _ (λ q. page_at-put_back new.running.images new.store.pages q ∙ keeps.pages q ∙ idle_before old q idle) in
        transport (λ i. RefusesFor (record { bits = bits_of root.pseudo; has = pages_were i; pages = pages i; root = root.page; max_depth = root.max_depth; max_pages = keeps.max_pages i }) key reason) tells
