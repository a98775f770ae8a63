-- The laws of moved slots. Other crates are to cite this module.
use Rattle.std.proofs.Common.{Bool, ℕ, ◌≡◌, ◌≤◌, true, refl, sym, ◌∙◌, ap, subst, inl, inr, nat_cmp}
use Rattle.std.specs.FinSet as fin
use Rattle.mlt_hash_ghosts.proofs.Names.{is_kept, Slot, Live, Ghost, slot_at, FilePages, HasForm, HasRecord, buckets_of, both_ways, IsGhostAt, IsInStep, PagesMatchOperations, Ledger, last_of}
use Rattle.mlt_hash_form.{specs.Form.is_used, proofs.Splitting.used_from_kept}
use Rattle.mlt_hash_form.specs.Held.{Agrees, KeepsFile, RearrangesSlots, SeenPages, over}
use Rattle.mlt_hash_ghosts.{specs.Moves.MovesSlots, proofs.Slots.ghost_home}

-- slots that are moved twice, and those that a walk rearranged
pub moves_joined : (bits : ℕ → ℕ) (stays : Slot → Bool) (one two three : FilePages) (root : ℕ)
    → MovesSlots bits stays one two root → MovesSlots bits stays two three root → MovesSlots bits stays one three root
moves_joined bits stays one two three root first second = record {
  form = second.form;
  kept = λ t k h. second.kept t k (first.kept t k h);
  stood = λ m i u. let b = second.stood m i u in let a = first.stood b.0 i (ap is_used b.1 ∙ u) in (a.0, a.1 ∙ b.1);
}

pub rearranged_moved : (bits : ℕ → ℕ) (active : fin.FinSet nat_cmp) (seen : SeenPages) (before after : FilePages) (root : ℕ)
    → RearrangesSlots bits active seen before after root → MovesSlots bits (is_kept active) before after root
rearranged_moved bits active seen before after root rearranged = record {
  form = rearranged.form;
  kept = λ t k h. elim (rearranged.lost t (used_from_kept active t k) h) [ inl there ↦ there | inr gone ↦ absurd (both_ways _ gone.0 k) ];
  stood = λ m i u. let b = rearranged.stood m i u in (b.0, b.1);
}

module _ (ledger : Ledger) (pages' : FilePages) (matches : PagesMatchOperations ledger) (moves : MovesSlots ledger.bits (is_kept ledger.active) ledger.pages pages' ledger.root) where
  -- what is there stood there before, on some page
  slot_back : (m j : ℕ) (s : Slot) → slot_at (buckets_of pages') m j ≡ s → is_used s ≡ true → (o : ℕ) × (slot_at (buckets_of ledger.pages) o j ≡ s)
  slot_back m j s e used = let back = moves.stood m j (rw e used) in (back.0, back.1 ∙ e)

  ghost_back : (t k m j : ℕ) → IsGhostAt pages' t k m j → (o : ℕ) × IsGhostAt ledger.pages t k o j
  ghost_back t k m j g = let back = slot_back m j (Ghost k g.0 t) g.1 refl in (back.0, (g.0, back.1))

  record_back : (k v : ℕ) → HasRecord pages' k v → HasRecord ledger.pages k v
  record_back k v r = let back = slot_back r.0 r.1 (Live k v) r.2 refl in (back.0, r.1, back.1)

  moved_step : (t k : ℕ) → fin.contains ledger.active t ≡ true → IsInStep ledger.bits (ledger.undoing t) (last_of (ledger.standing t k)) pages' ledger.root t k
  moved_step t k is_open =
      let step = matches.step t k is_open in
      record {
        ghost = λ e.
            let g = step.ghost e in
            let there = moves.kept (Ghost k 0 t) is_open (_, g.0, g.1) in
            (there.1, rw (ghost_home ledger.bits pages' ledger.root moves.form there.0 there.1 k 0 t there.2) there.2);
        absent = λ e v r. step.absent e v (record_back k v r);
        present = λ e. let r = step.present e in (r.0, moves.kept (Live k r.0) refl r.1);
        revived = λ e m j g. let b = ghost_back t k m j g in step.revived e b.0 j b.1;
        once = λ m j l o g h.
            let a = ghost_back t k m j g in
            let b = ghost_back t k l o h in
            let here = ghost_home ledger.bits pages' ledger.root moves.form m j k g.0 t g.1 in
            let there = ghost_home ledger.bits pages' ledger.root moves.form l o k h.0 t h.1 in
            (sym here ∙ there, (step.once a.0 j b.0 o a.1 b.1).1);
        forward = λ f m j g. let b = ghost_back t k m j g in step.forward f b.0 j b.1;
      }

  moved_left : (t k m j : ℕ) → IsGhostAt pages' t k m j → t ≤ ledger.begun
  moved_left t k m j g = let b = ghost_back t k m j g in matches.left t k b.0 j b.1

  pub moved : PagesMatchOperations (record ledger { pages = pages' })
  moved = record { step = moved_step; turns = matches.turns; alone = matches.alone; opened = matches.opened; left = moved_left }

-- a walk at rest, on the clean pages with its writes
pub kept_moved : (ledger : Ledger) (seen : SeenPages) (rest : FilePages) → PagesMatchOperations ledger → HasForm ledger.bits ledger.pages ledger.root → Agrees seen ledger.pages
    → KeepsFile ledger.bits ledger.active ledger.root seen rest → PagesMatchOperations (record ledger { pages = over ledger.pages rest })
kept_moved ledger seen rest matches form agrees keeps =
    moved ledger (over ledger.pages rest) matches (rearranged_moved ledger.bits ledger.active seen ledger.pages (over ledger.pages rest) ledger.root (keeps ledger.pages agrees form))

-- pages that are the same, number by number
pub same_matched : (ledger : Ledger) (pages' : FilePages) → PagesMatchOperations ledger → ((n : ℕ) → pages' n ≡ ledger.pages n) → PagesMatchOperations (record ledger { pages = pages' })
same_matched ledger pages' matches same =
    let path : ledger.pages ≡ pages' = λ i n. sym (same n) i in
    subst (λ (p : FilePages). PagesMatchOperations (record ledger { pages = p })) path matches
