-- What is left when all that stands is taken back is the base of the committed transactions: an image is of that
use Rattle.std.proofs.Common.{◌≡◌, ℕ, true, false, Option, None, Some, is_some, refl, sym, ap, subst, ◌∙◌}
use Rattle.std.specs.FinMap as map
use Rattle.mlt_manager.proofs.Names.{Step, UndoneTo, Transaction, with_base, IsManager, ManagerFields, state_of, lists_by}
use Rattle.mlt_order.{specs.Histories.Stage.Running, proofs.UndoLaws.undone_to_same}
use Rattle.mlt_trace_check.proofs.Histories.{nothing_of_others}
use Rattle.mlt_tx.specs.Standing.{LeadsFromLeft, entries_of, standing_in}
use Rattle.mlt_manager.specs.Images.{ImageFields, IsImageAt, ShowState}
use Rattle.mlt_manager.proofs.{Promises.committed_of, Stepped.same_base}

module _ {P : Type 0} (bits_of : P → ℕ → ℕ) (m : ManagerFields P) (h : IsManager bits_of m) where
  -- undo lists have what the history says that stands
  stands : (i : ℕ) → standing_in m.txs i ≡ (lists_by m).transcripts i
  stands i = by (map.get m.txs i) refl
    where
      not_running : map.get m.txs i ≡ None → (lists_by m).stage i ≡ Running → ⊥
      not_running none running =
          let both : true ≡ false = sym ((h.sound.match.records.running i).1 running) ∙ h.sound.opened i ∙ ap is_some none in
          cc both

      by : (one : Option Transaction) → map.get m.txs i ≡ one → standing_in m.txs i ≡ (lists_by m).transcripts i
      by None none = ap entries_of none ∙ sym (nothing_of_others m.shared.history.items h.base h.sound.match.records.history i (not_running none))
      by (Some one) there = ap entries_of there ∙ (h.sound.fits i one there).stands

  -- **What the slots show and what stands are an image of the committed base.**
  pub image_of_committed : (image : ImageFields) → ShowState m image.slots → LeadsFromLeft m.txs image.standing → image.commits ≡ m.commits → IsImageAt m image
  image_of_committed image shown leads commits =
      let led = with_base (state_of bits_of m h.images h.base) h.sound in
      let from_lists = undone_to_same Step led.0 h.base (lists_by m).transcripts (standing_in m.txs) stands led.1.undone in
      let undone : UndoneTo Step led.0 (standing_in m.txs) shown.0 = subst (UndoneTo Step led.0 (standing_in m.txs)) (sym (same_base bits_of m h 0 shown.0 shown.1)) from_lists in
      record {
        base = led.0;
        committed = committed_of bits_of m h led.0 led.1;
        of_base = record { state = shown.0; shown = shown.2; leads = leads led.0 shown.0 undone };
        commits = commits;
      }
