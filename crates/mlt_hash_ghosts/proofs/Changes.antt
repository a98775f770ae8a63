-- The laws of changes of one slot. Other crates are to cite this module.
use Rattle.std.proofs.Common.{ℕ, ◌≡◌, ◌<◌, ◌≤◌, true, false, [], ◌∷◌, ◌++◌, length, get_or, Option, Some, None, refl, sym, ◌∙◌, ap, inl, inr, arith, position}
use Rattle.std.specs.FinSet as fin
use Rattle.mlt_hash_ghosts.proofs.Names.{both_ways, cases_eq, none-some, is_ghost_of, is_kept, is_live_of, BucketFields, Slot, Free, Live, Ghost, slot_at, value_in, FilePages, HasRecord, buckets_of, IsGhostAt, IsInStep, PagesMatchOperations, Presence, Added, Removed, Standing, TakeTurns, last_of, IsOpenIn, Ledger}
use Rattle.mlt_hash_form.specs.Changes.{ChangesRecord, IsHome, Spot, slot_of, slot_change}
use Rattle.mlt_hash_form.specs.File.{bucket_of}
use Rattle.mlt_hash_ghosts.{specs.Operations.Appends, specs.Ledgers.NoOtherLast, specs.Ledgers.last_by, specs.Events.ChangesSlot, specs.Events.IsRoomFor, specs.Events.MayAddKey, specs.Events.MayRemoveKey, proofs.InStep.frame, proofs.InStep.gone, proofs.InStep.made, proofs.SlotTests.ghost_from, proofs.SlotTests.live_from, proofs.SlotTests.no_ghost, proofs.SlotTests.no_live, proofs.Slots.ghost_home, proofs.Slots.live_home, proofs.Slots.slot_cases, proofs.Slots.slot_here}
use Rattle.mlt_hash_ghosts.proofs.Lists.{last_append, last_cases, none_last, not_empty, turns_append, turns_front}

module _ (ledger : Ledger) (pages' : FilePages) (key n i : ℕ) (bucket : BucketFields) (matches : PagesMatchOperations ledger) (home : IsHome ledger.bits ledger.pages ledger.root key n bucket) (small : i < 8) where
  same_slots : (buckets_of ledger.pages n).slots ≡ bucket.slots
  same_slots = ap (λ p. (bucket_of p).slots) home.found

  within : i < length (buckets_of ledger.pages n).slots
  within =
      let full : length bucket.slots ≡ 8 = rw (home.leads, home.found) at (home.form.form.whole (ledger.bits key) (home.bounded key)) in
      rw same_slots (omega (arith, full))

  slot_is : slot_at (buckets_of ledger.pages) n i ≡ get_or bucket.slots i Free
  slot_is = ap (λ ss. get_or ss i Free) same_slots

  old_live : is_live_of key (get_or bucket.slots i Free) ≡ true → (v : ℕ) × (slot_at (buckets_of ledger.pages) n i ≡ Live key v)
  old_live test = let r = live_from key _ test in (r.0, slot_is ∙ r.1)

  old_ghost : (owner : ℕ) → is_ghost_of key owner (get_or bucket.slots i Free) ≡ true → (v : ℕ) × (slot_at (buckets_of ledger.pages) n i ≡ Ghost key v owner)
  old_ghost owner test = let r = ghost_from key owner _ test in (r.0, slot_is ∙ r.1)

  old_not_kept : (s : Slot) → is_kept ledger.active (get_or bucket.slots i Free) ≡ false → slot_at (buckets_of ledger.pages) n i ≡ s → is_kept ledger.active s ≡ true → ⊥
  old_not_kept s free is kept = both_ways _ (ap (is_kept ledger.active) (sym is ∙ slot_is) ∙ free) kept

  absent : value_in key bucket.slots ≡ None → (v : ℕ) → HasRecord ledger.pages key v → ⊥
  absent none v r =
      let page : r.0 ≡ n = sym (live_home ledger.bits ledger.pages ledger.root home.form r.0 r.1 key v r.2) ∙ home.leads in
      let there : slot_at (buckets_of ledger.pages) n r.1 ≡ Live key v = rw page at r.2 in
      no_live key bucket.slots r.1 v none (sym (ap (λ ss. get_or ss r.1 Free) same_slots) ∙ there)

  ghostless : (owner : ℕ) → position (is_ghost_of key owner) bucket.slots ≡ None → (m j : ℕ) → IsGhostAt ledger.pages owner key m j → ⊥
  ghostless owner none m j g =
      let page : m ≡ n = sym (ghost_home ledger.bits ledger.pages ledger.root home.form m j key g.0 owner g.1) ∙ home.leads in
      let there : slot_at (buckets_of ledger.pages) n j ≡ Ghost key g.0 owner = rw page at g.1 in
      no_ghost key owner bucket.slots j g.0 none (sym (ap (λ ss. get_or ss j Free) same_slots) ∙ there)

  -- while a record of the key stands, no open transaction's last operation is a removal, and while none does, an addition
  not_removed : (v : ℕ) → slot_at (buckets_of ledger.pages) n i ≡ Live key v → (t : ℕ) → fin.contains ledger.active t ≡ true → last_of (ledger.standing t key) ≡ Some Removed → ⊥
  not_removed v live t is_open e = (matches.step t key is_open).absent e v (n, i, live)

  not_added : value_in key bucket.slots ≡ None → (t : ℕ) → fin.contains ledger.active t ≡ true → last_of (ledger.standing t key) ≡ Some Added → ⊥
  not_added none t is_open e = let r = (matches.step t key is_open).present e in absent none r.0 r.1

  -- where one open transaction has standing operations on the key, no other has
  others_none : (owner : ℕ) → fin.contains ledger.active owner ≡ true → (ledger.standing owner key ≡ [] → ⊥) → (t : ℕ) → fin.contains ledger.active t ≡ true → (t ≡ owner → ⊥) → last_of (ledger.standing t key) ≡ None
  others_none owner owner_open some t is_open differs =
      let stands : (p : Presence) → last_of (ledger.standing t key) ≡ Some p → ⊥ = λ p e.
      differs (matches.alone t owner key is_open owner_open (λ empty. let f : None ≡ Some p = sym (ap last_of empty) ∙ e in cc) some) in
      elim (last_cases (last_of (ledger.standing t key))) [
        | inl e ↦ e
        | inr e ↦ elim e [ inl f ↦ absurd (stands Added f) | inr f ↦ absurd (stands Removed f) ]
      ]

  none_of_both : (t : ℕ) → (last_of (ledger.standing t key) ≡ Some Added → ⊥) → (last_of (ledger.standing t key) ≡ Some Removed → ⊥) → last_of (ledger.standing t key) ≡ None
  none_of_both t not_one not_other =
      elim (last_cases (last_of (ledger.standing t key))) [
        | inl e ↦ e
        | inr e ↦ elim e [ inl f ↦ absurd (not_one f) | inr f ↦ absurd (not_other f) ]
      ]

  module _ (standing' : Standing) (owner : ℕ) (value : Option ℕ) (s : Slot) (change : ChangesRecord ledger.bits ledger.pages pages' ledger.root (slot_change key value n i s)) (owner_open : fin.contains ledger.active owner ≡ true)
      (others : (t k : ℕ) → (t ≡ owner → k ≡ key → ⊥) → standing' t k ≡ ledger.standing t k)
      (alone : (t : ℕ) → fin.contains ledger.active t ≡ true → (t ≡ owner → ⊥) → last_of (ledger.standing t key) ≡ None)
      (new_ghost : (k v t : ℕ) → s ≡ Ghost k v t → (k ≡ key) × (t ≡ owner))
      (new_live : (k v : ℕ) → s ≡ Live k v → k ≡ key)
      (was_ghost : (k v t : ℕ) → fin.contains ledger.active t ≡ true → slot_at (buckets_of ledger.pages) n i ≡ Ghost k v t → (k ≡ key) × (t ≡ owner))
      (was_live : (k v : ℕ) → slot_at (buckets_of ledger.pages) n i ≡ Live k v → k ≡ key)
      (turns' : TakeTurns None (standing' owner key))
      (step' : IsInStep ledger.bits (ledger.undoing owner) (last_of (standing' owner key)) pages' ledger.root owner key) where
    -- of the key itself, the others have no standing operation
    idle : (t k : ℕ) (p : Presence) → fin.contains ledger.active t ≡ true → (t ≡ owner → k ≡ key → ⊥) → k ≡ key → last_of (ledger.standing t k) ≡ Some p → ⊥
    idle t k p is_open pair e last =
        let none = alone t is_open (λ f. pair f e) in
        let last' : last_of (ledger.standing t key) ≡ Some p = rw e at last in
        none-some p (sym none ∙ last')

    step_beside : (t k : ℕ) → fin.contains ledger.active t ≡ true → (t ≡ owner → k ≡ key → ⊥) → IsInStep ledger.bits (ledger.undoing t) (last_of (standing' t k)) pages' ledger.root t k
    step_beside t k is_open pair =
        rw (others t k pair) (frame ledger.bits ledger.pages pages' ledger.root n i s home.form change.form change.sets within (ledger.undoing t) (last_of (ledger.standing t k)) t k
        (λ v q. let g = new_ghost k v t q in pair g.1 g.0)
        (λ v q. let g = was_ghost k v t is_open q in pair g.1 g.0)
        (λ e v q. idle t k Removed is_open pair (new_live k v q) e)
        (λ e v q. absurd (idle t k Added is_open pair (was_live k v q) e))
        (matches.step t k is_open))

    step_each : (t k : ℕ) → fin.contains ledger.active t ≡ true → IsInStep ledger.bits (ledger.undoing t) (last_of (standing' t k)) pages' ledger.root t k
    step_each t k is_open =
        elim (cases_eq t owner) [
          | inl e ↦ elim (cases_eq k key) [ inl f ↦ rw (e, f) step' | inr f ↦ step_beside t k is_open (λ _. f) ]
          | inr e ↦ step_beside t k is_open (λ q. absurd (e q))
        ]

    turns_each : (t k : ℕ) → fin.contains ledger.active t ≡ true → TakeTurns None (standing' t k)
    turns_each t k is_open =
        elim (cases_eq t owner) [
          | inl e ↦ elim (cases_eq k key) [ inl f ↦ rw (e, f) turns' | inr f ↦ rw (others t k (λ _. f)) (matches.turns t k is_open) ]
          | inr e ↦ rw (others t k (λ q. absurd (e q))) (matches.turns t k is_open)
        ]

    only_owner : (t : ℕ) → fin.contains ledger.active t ≡ true → (standing' t key ≡ [] → ⊥) → t ≡ owner
    only_owner t is_open some =
        elim (cases_eq t owner) [
          | inl e ↦ e
          | inr e ↦ absurd (some (others t key (λ q. absurd (e q)) ∙ none_last _ (alone t is_open e)))
        ]

    alone_each : (one two k : ℕ) → fin.contains ledger.active one ≡ true → fin.contains ledger.active two ≡ true → (standing' one k ≡ [] → ⊥) → (standing' two k ≡ [] → ⊥) → one ≡ two
    alone_each one two k one_open two_open some_one some_two =
        elim (cases_eq k key) [
          | inl e ↦ only_owner one one_open (rw e at some_one) ∙ sym (only_owner two two_open (rw e at some_two))
          | inr e ↦ matches.alone one two k one_open two_open (λ q. some_one (others one k (λ _. e) ∙ q)) (λ q. some_two (others two k (λ _. e) ∙ q))
        ]

    left_each : (t k m j : ℕ) → IsGhostAt pages' t k m j → t ≤ ledger.begun
    left_each t k m j g =
        elim (slot_cases (buckets_of ledger.pages) (buckets_of pages') n i s change.sets within m j) [
          | inl h ↦
              let there : slot_at (buckets_of pages') n i ≡ Ghost k g.0 t = rw (h.0, h.1) at g.1 in
              let q = new_ghost k g.0 t (sym (slot_here (buckets_of ledger.pages) (buckets_of pages') n i s change.sets within) ∙ there) in
              rw q.1 (matches.opened owner owner_open)
          | inr h ↦ matches.left t k m j (g.0, sym h.1 ∙ g.1)
        ]

    assembled : PagesMatchOperations (record ledger { standing = standing'; pages = pages' })
    assembled = record { step = step_each; turns = turns_each; alone = alone_each; opened = matches.opened; left = left_each }

  -- with one operation more, or one less, on the key alone
  module _ (standing' : Standing) (owner : ℕ) (owner_open : fin.contains ledger.active owner ≡ true) where
    appended_others : (p : Presence) → Appends ledger.standing standing' owner key p → (t k : ℕ) → (t ≡ owner → k ≡ key → ⊥) → standing' t k ≡ ledger.standing t k
    appended_others p more = more.others

    taken_others : (p : Presence) → Appends standing' ledger.standing owner key p → (t k : ℕ) → (t ≡ owner → k ≡ key → ⊥) → standing' t k ≡ ledger.standing t k
    taken_others p less t k pair = sym (less.others t k pair)

    appended_turns : (p : Presence) → Appends ledger.standing standing' owner key p → (last_of (ledger.standing owner key) ≡ Some p → ⊥) → TakeTurns None (standing' owner key)
    appended_turns p more differs = rw more.here (turns_append None (ledger.standing owner key) p (matches.turns owner key owner_open) differs)

    appended_last : (p : Presence) → Appends ledger.standing standing' owner key p → last_of (standing' owner key) ≡ Some p
    appended_last p more = ap last_of more.here ∙ last_append (ledger.standing owner key) p

    taken_turns : (p : Presence) → Appends standing' ledger.standing owner key p → TakeTurns None (standing' owner key) × (last_of (standing' owner key) ≡ Some p → ⊥)
    taken_turns p less = let turns : TakeTurns None (standing' owner key ++ p ∷ []) = rw less.here at (matches.turns owner key owner_open) in turns_front None (standing' owner key) p turns

    taken_last : (p : Presence) → Appends standing' ledger.standing owner key p → last_of (ledger.standing owner key) ≡ Some p
    taken_last p less = ap last_of less.here ∙ last_append (standing' owner key) p

    taken_alone : (p : Presence) → Appends standing' ledger.standing owner key p → (t : ℕ) → fin.contains ledger.active t ≡ true → (t ≡ owner → ⊥) → last_of (ledger.standing t key) ≡ None
    taken_alone p less = others_none owner owner_open (λ empty. not_empty (standing' owner key) p (sym less.here ∙ empty))

    -- a record that becomes a ghost, and a slot that becomes a record
    ghost_made : (w : ℕ) → slot_at (buckets_of ledger.pages) n i ≡ Live key w → ChangesRecord ledger.bits ledger.pages pages' ledger.root (slot_change key None n i (Ghost key 0 owner))
        → ((t k : ℕ) → (t ≡ owner → k ≡ key → ⊥) → standing' t k ≡ ledger.standing t k)
        → ((t : ℕ) → fin.contains ledger.active t ≡ true → (t ≡ owner → ⊥) → last_of (ledger.standing t key) ≡ None)
        → TakeTurns None (standing' owner key)
        → ((m j : ℕ) → IsGhostAt ledger.pages owner key m j → ⊥)
        → (last_of (standing' owner key) ≡ Some Added → ⊥)
        → (ledger.undoing owner ≡ false → last_of (standing' owner key) ≡ Some Removed)
        → PagesMatchOperations (record ledger { standing = standing'; pages = pages' })
    ghost_made w live change others alone turns none removed forward =
        assembled standing' owner None (Ghost key 0 owner) change owner_open others alone
        (λ k v t e. (let f : k ≡ key = cc in f, let f : t ≡ owner = cc in f))
        (λ k v e. cc)
        (λ k v t _ e. let f : Live key w ≡ Ghost k v t = sym live ∙ e in cc)
        (λ k v e. let f : Live key w ≡ Live k v = sym live ∙ e in cc)
        turns
        (made ledger.bits ledger.pages pages' ledger.root n i (Ghost key 0 owner) home.form change.form change.sets within (ledger.undoing owner) (last_of (standing' owner key)) owner key w refl live none removed forward)

    record_made : (value : ℕ) → ChangesRecord ledger.bits ledger.pages pages' ledger.root (slot_change key (Some value) n i (Live key value))
        → ((t k : ℕ) → (t ≡ owner → k ≡ key → ⊥) → standing' t k ≡ ledger.standing t k)
        → ((t : ℕ) → fin.contains ledger.active t ≡ true → (t ≡ owner → ⊥) → last_of (ledger.standing t key) ≡ None)
        → ((k v t : ℕ) → fin.contains ledger.active t ≡ true → slot_at (buckets_of ledger.pages) n i ≡ Ghost k v t → (k ≡ key) × (t ≡ owner))
        → ((k v : ℕ) → slot_at (buckets_of ledger.pages) n i ≡ Live k v → k ≡ key)
        → TakeTurns None (standing' owner key)
        → ((m j : ℕ) → IsGhostAt ledger.pages owner key m j → (m ≡ n) × (j ≡ i))
        → (last_of (standing' owner key) ≡ Some Removed → ⊥)
        → PagesMatchOperations (record ledger { standing = standing'; pages = pages' })
    record_made value change others alone was_ghost was_live turns only added =
        assembled standing' owner (Some value) (Live key value) change owner_open others alone
        (λ k v t e. cc)
        (λ k v e. cc)
        was_ghost was_live turns
        (gone ledger.bits ledger.pages pages' ledger.root n i (Live key value) home.form change.form change.sets within (ledger.undoing owner) (last_of (standing' owner key)) owner key value refl only added)

    -- the slot has a ghost of the transaction and key: the only one
    only_here : (v : ℕ) → slot_at (buckets_of ledger.pages) n i ≡ Ghost key v owner → (m j : ℕ) → IsGhostAt ledger.pages owner key m j → (m ≡ n) × (j ≡ i)
    only_here v e m j g = (matches.step owner key owner_open).once m j n i g (v, e)

    same_ghost : (v : ℕ) → slot_at (buckets_of ledger.pages) n i ≡ Ghost key v owner → (k w t : ℕ) → fin.contains ledger.active t ≡ true → slot_at (buckets_of ledger.pages) n i ≡ Ghost k w t → (k ≡ key) × (t ≡ owner)
    same_ghost v e k w t _ f = let g : Ghost key v owner ≡ Ghost k w t = sym e ∙ f in (let q : k ≡ key = cc in q, let q : t ≡ owner = cc in q)

    no_record : (v : ℕ) → slot_at (buckets_of ledger.pages) n i ≡ Ghost key v owner → (k w : ℕ) → slot_at (buckets_of ledger.pages) n i ≡ Live k w → k ≡ key
    no_record v e k w f = let g : Ghost key v owner ≡ Live k w = sym e ∙ f in cc

    pub removal : ledger.undoing owner ≡ false → NoOtherLast ledger owner key Added → is_live_of key (get_or bucket.slots i Free) ≡ true
        → ChangesRecord ledger.bits ledger.pages pages' ledger.root (slot_change key None n i (Ghost key 0 owner)) → Appends ledger.standing standing' owner key Removed
        → PagesMatchOperations (record ledger { standing = standing'; pages = pages' })
    removal forward unopposed test change more =
        let live = old_live test in
        let last = appended_last Removed more in
        ghost_made live.0 live.1 change (appended_others Removed more)
        (λ t is_open differs. none_of_both t (unopposed t is_open differs) (not_removed live.0 live.1 t is_open))
        (appended_turns Removed more (not_removed live.0 live.1 owner owner_open))
        (λ m j g. not_removed live.0 live.1 owner owner_open ((matches.step owner key owner_open).forward forward m j g))
        (λ e. let f : Some Removed ≡ Some Added = sym last ∙ e in cc)
        (λ _. last)

    pub undone_addition : ledger.undoing owner ≡ true → is_live_of key (get_or bucket.slots i Free) ≡ true
        → ChangesRecord ledger.bits ledger.pages pages' ledger.root (slot_change key None n i (Ghost key 0 owner)) → Appends standing' ledger.standing owner key Added
        → PagesMatchOperations (record ledger { standing = standing'; pages = pages' })
    undone_addition back test change less =
        let live = old_live test in
        let turns = taken_turns Added less in
        ghost_made live.0 live.1 change (taken_others Added less) (taken_alone Added less) turns.0
        ((matches.step owner key owner_open).revived (taken_last Added less))
        turns.1
        (λ forward. absurd (both_ways _ forward back))

    pub addition_by_ghost : (value : ℕ) → NoOtherLast ledger owner key Removed → value_in key bucket.slots ≡ None → is_ghost_of key owner (get_or bucket.slots i Free) ≡ true
        → ChangesRecord ledger.bits ledger.pages pages' ledger.root (slot_change key (Some value) n i (Live key value)) → Appends ledger.standing standing' owner key Added
        → PagesMatchOperations (record ledger { standing = standing'; pages = pages' })
    addition_by_ghost value unopposed none test change more =
        let ghost = old_ghost owner test in
        let last = appended_last Added more in
        record_made value change (appended_others Added more)
        (λ t is_open differs. none_of_both t (not_added none t is_open) (unopposed t is_open differs))
        (same_ghost ghost.0 ghost.1) (no_record ghost.0 ghost.1)
        (appended_turns Added more (not_added none owner owner_open))
        (only_here ghost.0 ghost.1)
        (λ e. let f : Some Added ≡ Some Removed = sym last ∙ e in cc)

    pub addition_by_put : (value : ℕ) → NoOtherLast ledger owner key Removed → value_in key bucket.slots ≡ None → position (is_ghost_of key owner) bucket.slots ≡ None → is_kept ledger.active (get_or bucket.slots i Free) ≡ false
        → ChangesRecord ledger.bits ledger.pages pages' ledger.root (slot_change key (Some value) n i (Live key value)) → Appends ledger.standing standing' owner key Added
        → PagesMatchOperations (record ledger { standing = standing'; pages = pages' })
    addition_by_put value unopposed none no_own free change more =
        let last = appended_last Added more in
        record_made value change (appended_others Added more)
        (λ t is_open differs. none_of_both t (not_added none t is_open) (unopposed t is_open differs))
        (λ k v t is_open e. absurd (old_not_kept (Ghost k v t) free e is_open)) (λ k v e. absurd (old_not_kept (Live k v) free e refl))
        (appended_turns Added more (not_added none owner owner_open))
        (λ m j g. absurd (ghostless owner no_own m j g))
        (λ e. let f : Some Added ≡ Some Removed = sym last ∙ e in cc)

    pub undone_removal : (value : ℕ) → is_ghost_of key owner (get_or bucket.slots i Free) ≡ true
        → ChangesRecord ledger.bits ledger.pages pages' ledger.root (slot_change key (Some value) n i (Live key value)) → Appends standing' ledger.standing owner key Removed
        → PagesMatchOperations (record ledger { standing = standing'; pages = pages' })
    undone_removal value test change less =
        let ghost = old_ghost owner test in
        let turns = taken_turns Removed less in
        record_made value change (taken_others Removed less) (taken_alone Removed less)
        (same_ghost ghost.0 ghost.1) (no_record ghost.0 ghost.1)
        turns.0
        (only_here ghost.0 ghost.1)
        turns.1

  -- a slot that becomes a record, or gets another value, for no operation on the key's presence
  module _ (value : ℕ) (change : ChangesRecord ledger.bits ledger.pages pages' ledger.root (slot_change key (Some value) n i (Live key value)))
      (was_ghost : (k v t : ℕ) → fin.contains ledger.active t ≡ true → slot_at (buckets_of ledger.pages) n i ≡ Ghost k v t → ⊥)
      (was_live : (k v : ℕ) → slot_at (buckets_of ledger.pages) n i ≡ Live k v → k ≡ key)
      (unopposed : (t : ℕ) → fin.contains ledger.active t ≡ true → last_of (ledger.standing t key) ≡ Some Removed → ⊥) where
    now_live : slot_at (buckets_of pages') n i ≡ Live key value
    now_live = slot_here (buckets_of ledger.pages) (buckets_of pages') n i (Live key value) change.sets within

    plain_step : (t k : ℕ) → fin.contains ledger.active t ≡ true → IsInStep ledger.bits (ledger.undoing t) (last_of (ledger.standing t k)) pages' ledger.root t k
    plain_step t k is_open =
        frame ledger.bits ledger.pages pages' ledger.root n i (Live key value) home.form change.form change.sets within (ledger.undoing t) (last_of (ledger.standing t k)) t k
        (λ v e. cc)
        (λ v e. was_ghost k v t is_open e)
        (λ e v q. let same : k ≡ key = cc in unopposed t is_open (rw same at e))
        (λ e v q. let same = was_live k v q in (value, (n, i, rw same now_live)))
        (matches.step t k is_open)

    plain_left : (t k m j : ℕ) → IsGhostAt pages' t k m j → t ≤ ledger.begun
    plain_left t k m j g =
        elim (slot_cases (buckets_of ledger.pages) (buckets_of pages') n i (Live key value) change.sets within m j) [
          | inl h ↦
              let there : slot_at (buckets_of pages') n i ≡ Ghost k g.0 t = rw (h.0, h.1) at g.1 in
              let f : Live key value ≡ Ghost k g.0 t = sym now_live ∙ there in
              cc
          | inr h ↦ matches.left t k m j (g.0, sym h.1 ∙ g.1)
        ]

    plain : PagesMatchOperations (record ledger { pages = pages' })
    plain = record { step = plain_step; turns = matches.turns; alone = matches.alone; opened = matches.opened; left = plain_left }

  pub plain_update : (value : ℕ) → is_live_of key (get_or bucket.slots i Free) ≡ true → ChangesRecord ledger.bits ledger.pages pages' ledger.root (slot_change key (Some value) n i (Live key value)) → PagesMatchOperations (record ledger { pages = pages' })
  plain_update value test change =
      let live = old_live test in
      plain value change
      (λ k v t _ e. let f : Live key live.0 ≡ Ghost k v t = sym live.1 ∙ e in cc)
      (λ k v e. let f : Live key live.0 ≡ Live k v = sym live.1 ∙ e in cc)
      (not_removed live.0 live.1)

  pub plain_put : (value : ℕ) → ((t : ℕ) → fin.contains ledger.active t ≡ true → last_of (ledger.standing t key) ≡ Some Removed → ⊥) → is_kept ledger.active (get_or bucket.slots i Free) ≡ false → ChangesRecord ledger.bits ledger.pages pages' ledger.root (slot_change key (Some value) n i (Live key value)) → PagesMatchOperations (record ledger { pages = pages' })
  plain_put value unopposed free change =
      plain value change
      (λ k v t is_open e. old_not_kept (Ghost k v t) free e is_open)
      (λ k v e. absurd (old_not_kept (Live k v) free e refl))
      unopposed

-- the laws as they are stated, of a spot
module _ (ledger : Ledger) (standing' : Standing) (pages' : FilePages) (spot : Spot) where
  pub removal_law : (owner key : ℕ) → PagesMatchOperations ledger → MayRemoveKey ledger owner key → is_live_of key (slot_of spot) ≡ true
      → ChangesSlot ledger pages' spot key None (Ghost key 0 owner) → Appends ledger.standing standing' owner key Removed
      → PagesMatchOperations (record ledger { standing = standing'; pages = pages' })
  removal_law owner key matches may live change =
      removal ledger pages' key spot.number spot.at spot.bucket matches change.at_home.home change.at_home.within standing' owner may.is_open may.forward may.unopposed live change.changes

  pub ghost_addition_law : (owner key value : ℕ) → PagesMatchOperations ledger → MayAddKey ledger owner key → value_in key spot.bucket.slots ≡ None → is_ghost_of key owner (slot_of spot) ≡ true
      → ChangesSlot ledger pages' spot key (Some value) (Live key value) → Appends ledger.standing standing' owner key Added
      → PagesMatchOperations (record ledger { standing = standing'; pages = pages' })
  ghost_addition_law owner key value matches may none ghost change =
      addition_by_ghost ledger pages' key spot.number spot.at spot.bucket matches change.at_home.home change.at_home.within standing' owner may.is_open value may.unopposed none ghost change.changes

  pub put_addition_law : (owner key value : ℕ) → PagesMatchOperations ledger → MayAddKey ledger owner key → IsRoomFor ledger.active spot owner key
      → ChangesSlot ledger pages' spot key (Some value) (Live key value) → Appends ledger.standing standing' owner key Added
      → PagesMatchOperations (record ledger { standing = standing'; pages = pages' })
  put_addition_law owner key value matches may room change =
      addition_by_put ledger pages' key spot.number spot.at spot.bucket matches change.at_home.home change.at_home.within standing' owner may.is_open value may.unopposed room.absent room.ghostless room.free change.changes

  pub undone_addition_law : (owner key : ℕ) → PagesMatchOperations ledger → IsOpenIn ledger owner → ledger.undoing owner ≡ true → is_live_of key (slot_of spot) ≡ true
      → ChangesSlot ledger pages' spot key None (Ghost key 0 owner) → Appends standing' ledger.standing owner key Added
      → PagesMatchOperations (record ledger { standing = standing'; pages = pages' })
  undone_addition_law owner key matches is_open back live change =
      undone_addition ledger pages' key spot.number spot.at spot.bucket matches change.at_home.home change.at_home.within standing' owner is_open back live change.changes

  pub undone_removal_law : (owner key value : ℕ) → PagesMatchOperations ledger → IsOpenIn ledger owner → is_ghost_of key owner (slot_of spot) ≡ true
      → ChangesSlot ledger pages' spot key (Some value) (Live key value) → Appends standing' ledger.standing owner key Removed
      → PagesMatchOperations (record ledger { standing = standing'; pages = pages' })
  undone_removal_law owner key value matches is_open ghost change =
      undone_removal ledger pages' key spot.number spot.at spot.bucket matches change.at_home.home change.at_home.within standing' owner is_open value ghost change.changes

pub plain_update_law : (ledger : Ledger) (pages' : FilePages) (spot : Spot) (key value : ℕ) → PagesMatchOperations ledger → is_live_of key (slot_of spot) ≡ true
    → ChangesSlot ledger pages' spot key (Some value) (Live key value) → PagesMatchOperations (record ledger { pages = pages' })
plain_update_law ledger pages' spot key value matches live change =
    plain_update ledger pages' key spot.number spot.at spot.bucket matches change.at_home.home change.at_home.within value live change.changes

pub plain_put_law : (ledger : Ledger) (pages' : FilePages) (spot : Spot) (key value : ℕ) → PagesMatchOperations ledger
    → ((owner : ℕ) → IsOpenIn ledger owner → last_by ledger owner key ≡ Some Removed → ⊥) → is_kept ledger.active (slot_of spot) ≡ false
    → ChangesSlot ledger pages' spot key (Some value) (Live key value) → PagesMatchOperations (record ledger { pages = pages' })
plain_put_law ledger pages' spot key value matches unopposed free change =
    plain_put ledger pages' key spot.number spot.at spot.bucket matches change.at_home.home change.at_home.within value unopposed free change.changes
