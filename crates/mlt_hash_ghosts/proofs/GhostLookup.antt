-- The look-up of a ghost in its key's bucket. Other crates are to cite this module.
use Rattle.std.proofs.Common.{ℕ, ◌≡◌, Bool, List, get_or, Option, Some, None, refl, sym, ap, inl, inr, ◌⊎◌, position, option_map}
use Rattle.std.proofs.lemmas.List.Quantifiers.{position-Some}
use Rattle.mlt_hash_ghosts.proofs.Names.{is_ghost_of, is_live_of, Page, Slot, Free, Live, Ghost, slot_at, value_in, HasForm, buckets_of, lead_of, IsGhostAt, PagesMatchOperations, IsOpenIn, Ledger, Added, Removed, last_of}
use Rattle.mlt_hash_form.specs.Form.{slot_value}
use Rattle.mlt_hash_ghosts.proofs.{SlotTests.ghost_from, SlotTests.live_from, SlotTests.no_ghost, SlotTests.no_live_test, Slots.ghost_home, Slots.live_home}

module _ (bits : ℕ → ℕ) (pages : ℕ → Option Page) (root key owner : ℕ) (form : HasForm bits pages root) where
  found_is_ghost : (i : ℕ) → position (is_ghost_of key owner) (buckets_of pages (lead_of pages root (bits key))).slots ≡ Some i → IsGhostAt pages owner key (lead_of pages root (bits key)) i
  found_is_ghost i found = ghost_from key owner _ (position-Some (is_ghost_of key owner) _ i Free found).1

  none_is_left : position (is_ghost_of key owner) (buckets_of pages (lead_of pages root (bits key))).slots ≡ None → (m i : ℕ) → IsGhostAt pages owner key m i → ⊥
  none_is_left none m i g =
      let page : m ≡ lead_of pages root (bits key) = sym (ghost_home bits pages root form m i key g.0 owner g.1) in
      let there : slot_at (buckets_of pages) (lead_of pages root (bits key)) i ≡ Ghost key g.0 owner = rw page at g.1 in
      no_ghost key owner _ i g.0 none there

  pub look_up_exact : ((i : ℕ) → position (is_ghost_of key owner) (buckets_of pages (lead_of pages root (bits key))).slots ≡ Some i → IsGhostAt pages owner key (lead_of pages root (bits key)) i) × (position (is_ghost_of key owner) (buckets_of pages (lead_of pages root (bits key))).slots ≡ None → (m i : ℕ) → IsGhostAt pages owner key m i → ⊥)
  look_up_exact = (found_is_ghost, none_is_left)

option_some : (o : Option ℕ) → (o ≡ None → ⊥) → (i : ℕ) × (o ≡ Some i)
option_some None some = absurd (some refl)
option_some (Some i) some = (i, refl)

option_cases : (o : Option ℕ) → (o ≡ None) ⊎ ((i : ℕ) × (o ≡ Some i))
option_cases None = inl refl
option_cases (Some i) = inr (i, refl)

-- what is tested somewhere is found
found_somewhere : (p : Slot → Bool) (slots : List Slot) → (position p slots ≡ None → ⊥) → (i : ℕ) × (position p slots ≡ Some i)
found_somewhere p slots some = option_some (position p slots) some

no_value : (key : ℕ) (slots : List Slot) → ((i v : ℕ) → get_or slots i Free ≡ Live key v → ⊥) → value_in key slots ≡ None
no_value key slots none =
    elim (option_cases (position (is_live_of key) slots)) [
      | inl e ↦ ap (option_map (λ i. slot_value (get_or slots i Free))) e
      | inr r ↦ let live = live_from key _ (position-Some (is_live_of key) slots r.0 Free r.1).1 in absurd (none r.0 live.0 live.1)
    ]

module _ (ledger : Ledger) (owner key : ℕ) (matches : PagesMatchOperations ledger) (form : HasForm ledger.bits ledger.pages ledger.root) (is_open : IsOpenIn ledger owner) where
  abbrev own_slots : List Slot
  own_slots = (buckets_of ledger.pages (lead_of ledger.pages ledger.root (ledger.bits key))).slots

  added_found : last_of (ledger.standing owner key) ≡ Some Added → (i : ℕ) × (position (is_live_of key) own_slots ≡ Some i)
  added_found e =
      let r = (matches.step owner key is_open).present e in
      let page : r.1.0 ≡ lead_of ledger.pages ledger.root (ledger.bits key) = sym (live_home ledger.bits ledger.pages ledger.root form r.1.0 r.1.1 key r.0 r.1.2) in
      let there : slot_at (buckets_of ledger.pages) (lead_of ledger.pages ledger.root (ledger.bits key)) r.1.1 ≡ Live key r.0 = rw page at r.1.2 in
      found_somewhere (is_live_of key) own_slots (λ none. no_live_test key own_slots r.1.1 r.0 none there)

  removed_found : last_of (ledger.standing owner key) ≡ Some Removed → ((i : ℕ) × (position (is_ghost_of key owner) own_slots ≡ Some i)) × (value_in key own_slots ≡ None)
  removed_found e =
      let step = matches.step owner key is_open in
      let g = step.ghost e in (
        found_somewhere (is_ghost_of key owner) own_slots (λ none. no_ghost key owner own_slots g.0 0 none g.1),
        no_value key own_slots (λ i v live. step.absent e v (lead_of ledger.pages ledger.root (ledger.bits key), i, live)),
      )

  pub undone_found : (last_of (ledger.standing owner key) ≡ Some Added → (i : ℕ) × (position (is_live_of key) own_slots ≡ Some i)) × (last_of (ledger.standing owner key) ≡ Some Removed → ((i : ℕ) × (position (is_ghost_of key owner) own_slots ≡ Some i)) × (value_in key own_slots ≡ None))
  undone_found = (added_found, removed_found)
