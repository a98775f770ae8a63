-- A wide pass that has changed its first record goes on to another key
use Rattle.std.proofs.Common.{◌≡◌, ℕ, ◌≤◌, true, Option, None, Some, is_some, refl, sym, ap, subst, ◌∙◌, inl, inr, arith}
use Rattle.std.specs.FinMap as map
use Rattle.mlt_hash.proofs.Names.{cases_eq, Exclusive, HeadFields, Page, Modes, with_page, stronger_exclusive, Slot, buckets_of, dir_of, header_of, row_of, slot_at, Agrees, over, own_or_clean, seen_as, LocalState, ReadsHeldPage, view_of, view_over, may_read, mode_of_others, mode_of_page, seen_held, held_page, header_held, header_mode, slot_after, WalkContext, Before, GoesAfter, HoldsBeside, IsChanged, IsHeaded, IsOwnSlot, MayWalk, SlotsStood, Stands, WalkFields, context_after, before_of, nothing_before, one_key, slot_on, Change, Pass, Phase}
use Rattle.mlt_page_locks.proofs.Maps.{same_entries}
use Rattle.mlt_hash_form.specs.Form.{is_used}
use Rattle.mlt_hash_access.proofs.{Since.all_written, Since.nothing_since, Since.read_is_seen, Views.agrees}
use Rattle.mlt_hash_split.proofs.{Closing.held_page_over, HeldPages.read_of, HeldPages.reads_as, HeldPages.same_header}
use Rattle.mlt_hash.{specs.Changes.IsChangedPhase, proofs.Beside.still_beside, proofs.Stood.own_after, proofs.Stood.slot_cases}

-- where it stands
changed_at : (phase : Phase) (context : WalkContext) (walk : WalkFields) (m : LocalState) → IsChangedPhase phase → Stands phase (one_key context) walk (view_of m) → (bucket : ℕ) × (done : Change) × IsChanged (one_key context) walk (view_of m) bucket done
changed_at (Phase.Changed bucket done) context walk m changed stands = (bucket, done, stands)
changed_at other context walk m changed stands = absurd changed

-- a page that is held exclusively stays as it is held
held_alike : (modes : Modes) (root q : ℕ) → map.get modes root ≡ Some Exclusive → map.get modes q ≡ map.get (with_page modes root Exclusive) q
held_alike modes root q held =
    elim (cases_eq q root) [
      | inl here ↦ subst (λ (p : ℕ). map.get modes p ≡ map.get (with_page modes root Exclusive) p) (sym here) (held ∙ sym (mode_of_page modes root Exclusive ∙ ap Some (stronger_exclusive (map.get modes root))))
      | inr elsewhere ↦ sym (mode_of_others modes root Exclusive q elsewhere)
    ]

module _ (context : WalkContext) (walk : WalkFields) (m : LocalState) (first : context.before ≡ nothing_before) (wide : walk.pass ≡ Pass.Wide) (phase : IsChangedPhase walk.phase) (given : MayWalk context m walk) where
  ready : MayWalk (one_key context) m walk
  ready = subst (λ (b : Before). MayWalk (context_after b context) m walk) first given

  changed : (bucket : ℕ) × (done : Change) × IsChanged (one_key context) walk (view_of m) bucket done
  changed = changed_at walk.phase context walk m phase ready.stands

  abbrev header : HeadFields
  header = changed.2.header

  -- it holds the header,
  root_is_exclusive : map.get (view_of m).modes context.root ≡ Some Exclusive
  root_is_exclusive = changed.2.holds.on_header ∙ ap (λ p. Some (header_mode p)) wide

  clean_agrees : Agrees (view_of m).seen ready.file.clean
  clean_agrees = agrees m ready.file.clean ready.may ready.file.is_clean

  -- each slot that it wrote is its own, or stood on a page that it has seen,
  pub slots_stood : SlotsStood (view_of m).own context.tx (view_of m)
  slots_stood n p written i used =
      let clean : ℕ → Option Page = ready.file.clean in
      let own : ℕ → Option Page = (view_of m).own in
      let rest : ℕ → Option Page = changed.2.rest in
      let s : Slot = slot_after changed.1 walk.key context.tx in
      let there : slot_at (buckets_of (over clean own)) n i ≡ slot_on (Some p) i = ap (λ o. slot_on (own_or_clean o (clean n)) i) written in
      elim (slot_cases (buckets_of (over clean rest)) (buckets_of (over clean own)) changed.0 changed.2.slot s (changed.2.changes.changes clean clean_agrees ready.file.form).sets n i) [
        | inl new ↦ inl (subst (IsOwnSlot context.tx) (sym new ∙ there) (own_after changed.1 walk.key context.tx))
        | inr old ↦
            let stood = (changed.2.changes.keeps clean clean_agrees ready.file.form).stood n i (ap is_used (sym old ∙ there) ∙ used) in
            let held : is_some ((view_of m).seen stood.0) ≡ true = elim stood.2 [ inl same ↦ ap (λ q. is_some ((view_of m).seen q)) same ∙ (all_written m ready.may n (ap is_some written)).0 | inr other ↦ other ] in
            let seen = seen_as ((view_of m).seen stood.0) held in
            inr (stood.0, seen.0, seen.1, ap (λ (q : Option Page). slot_on q i) (sym (clean_agrees stood.0 seen.0 seen.1)) ∙ stood.1 ∙ sym old ∙ there)
      ]

  seen_header : is_some ((view_of m).seen context.root) ≡ true
  seen_header = ap is_some (seen_held m context.root (may_read m context.root Exclusive root_is_exclusive))

  -- and reads it
  pub header_read : (h : HeadFields) × ReadsHeldPage (view_of m) context.root (Page.Head h)
  header_read = (header, read_of ((view_of m).seen context.root) ((view_of m).own context.root) (Page.Head header) seen_header changed.2.head)

  module _ (h : HeadFields) (reads : ReadsHeldPage (view_of m) context.root (Page.Head h)) where
    read_as : held_page (view_of m) context.root ≡ Some (Page.Head h)
    read_as = reads_as (view_of m) context.root (Some (Page.Head h)) reads

    same_read : header ≡ h
    same_read = same_header (view_of m) context.root header h changed.2.head read_as

    pub shallow : h.depth ≤ context.max_depth
    shallow = subst (λ (h : HeadFields). h.depth ≤ context.max_depth) same_read changed.2.shallow

    pub small : h.depth ≤ 16
    small = let most = ready.small in omega (arith, shallow, most)

    agree : Agrees (view_of m).seen ready.file.clean
    agree = agrees m ready.file.clean ready.may ready.file.is_clean

    head_over : over ready.file.clean (view_of m).own context.root ≡ Some (Page.Head h)
    head_over = sym (held_page_over (view_of m) ready.file.clean context.root agree seen_header) ∙ read_as

    module _ (key dir row depth : ℕ) (dir_is : dir ≡ dir_of h (context.bits key)) (row_is : row ≡ row_of h (context.bits key)) (depth_is : depth ≡ h.depth) where
      abbrev on : WalkFields
      on = record walk { key = key; mode = Exclusive; phase = Phase.Headed dir row depth; split = None }

      abbrev then : WalkContext
      then = context_after (before_of (view_of m)) context

      headed : IsHeaded then on (view_over (view_of m).own m) dir row depth
      headed = record {
        goes_after = subst (λ (p : Pass). GoesAfter p (before_of (view_of m))) (sym wide) (omega arith);
        unwritten = nothing_since (view_of m);
        header = h;
        held = same_entries (view_of m).modes (with_page (view_of m).modes context.root Exclusive) (λ q. held_alike (view_of m).modes context.root q root_is_exclusive) ∙ ap (λ p. header_held (view_of m).modes p context.root) (sym wide);
        among = still_beside (view_of m) (view_over (view_of m).own m) h 18 refl (subst (λ (h : HeadFields). HoldsBeside (view_of m) h 18) same_read changed.2.among);
        head = read_is_seen (view_of m) context.root (Page.Head h) seen_header read_as;
        dir_is = dir_is;
        row_is = row_is;
        depth_is = depth_is;
        shallow = shallow;
      }

      -- **It may go on over what it has written.**
      pub goes_on : MayWalk then m on
      goes_on = record {
        bounded = ready.bounded;
        small = ready.small;
        may = ready.may;
        written = all_written m ready.may;
        file = record { clean = ready.file.clean; is_clean = ready.file.is_clean; form = (changed.2.changes.changes ready.file.clean agree ready.file.form).form };
        shallow = subst (λ (p : Option Page). (header_of p).depth ≤ context.max_depth) (sym head_over) shallow;
        stands = headed;
      }
