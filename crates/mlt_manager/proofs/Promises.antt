-- Every manager keeps its promises
use Rattle.std.proofs.Common.{◌≡◌, ℕ, List, refl, sym, subst, nat_cmp}
use Rattle.std.specs.FinMap as map
use Rattle.mlt_manager.proofs.Names.{Base, Step, empty_base, UndoneTo, TraceItem, FilePages, GivesPseudokeys, HasForm, IsRecordMap, live_records, Page, clean_pages, AreBegunInOrder, ArePlaced, abstract_state_of, with_base, IsManager, ManagerFields, state_of, IsCommittedBaseOf, KeepsPromises, PassesTheChecker, lists_by}
use Rattle.std.specs.FinSet as set
use Rattle.mlt_hash_form.specs.{File.IsOnceLive, Prefixes.IsExtendibleHashFile}
use Rattle.mlt_hash_ghosts.proofs.Transactions.{kept_by_match}
use Rattle.mlt_trace.specs.{Ranges.AllFit, Items.trace_text, Numbers.committed_txs}
use Rattle.mlt_trace_check.{specs.Writable.AreWritable, specs.Traces.IsAcceptedTrace, specs.Traces.told, proofs.Histories.serializable}
use Rattle.mlt_order.specs.{Histories.IsCommitOrderSerializable, Runs.IsSerialBase}
use Rattle.mlt_tx_meaning.specs.AbstractStates.{ledger_of}
use Rattle.mlt_manager_invariant.specs.Traced.{IsCommittedBase}
use Rattle.mlt_manager.{specs.Courses.KeepsPromiseOver, specs.Courses.committed_by, specs.Courses.course_of, proofs.CleanPages.pages_clean, proofs.Courses.alike, proofs.Courses.keeps_busy, proofs.Courses.stands_in, proofs.Headline.pages_mean, proofs.Objects.serial_does, proofs.Objects.undone_does, proofs.PassLocks.pass_locks, proofs.PassLocks.written_locks, proofs.Stepped.same_base}

module _ {P : Type 0} (bits_of : P → ℕ → ℕ) (m : ManagerFields P) (h : IsManager bits_of m) where
  abbrev pages : map.FinMap nat_cmp Page
  pages = clean_pages h.images m.shared.pages.store.pages

  -- what is committed leads to a base, and what is open leads on
  pub serial : IsCommitOrderSerializable Step empty_base (lists_by m) h.base
  serial = serializable m.shared.history.items h.base h.sound.match.records.history

  -- **Every manager keeps the promise over its course.**
  abbrev main_kept : IsRecordMap (live_records pages) (map.get pages) → IsOnceLive (map.get pages) → KeepsPromiseOver (course_of m) m
  main_kept is_map once = record {
    serial = record {
      base = serial.0;
      alone = serial_does (committed_by m.shared.history.items) empty_base serial.0 serial.1;
      state = h.base;
      taken_back = undone_does serial.0 h.base (course_of m).ops
          (subst (λ f. UndoneTo Step serial.0 f h.base) (alike _ _ (λ tx. stands_in bits_of m h tx (map.get m.txs tx) refl)) serial.2);
    };
    clean = pages;
    put_back = pages_clean bits_of m h.images h.base h.sound;
    busy = keeps_busy bits_of m h;
    means = pages_mean pages h.base is_map once h.sound.match.records.means;
  }

  -- **Every manager keeps its promises.**
  pub promises_kept : ((bits : ℕ → ℕ) (active : set.FinSet nat_cmp) (pages : FilePages) (root : ℕ) → GivesPseudokeys bits → HasForm bits pages root → IsExtendibleHashFile bits active pages root)
      → ((bits : ℕ → ℕ) (pages : map.FinMap nat_cmp Page) (root : ℕ) → GivesPseudokeys bits → HasForm bits (map.get pages) root → IsRecordMap (live_records pages) (map.get pages))
      → KeepsPromises bits_of m
  promises_kept has_file has_records = record {
    main = main_kept (has_records (bits_of m.root.pseudo) pages m.root.page h.sound.match.file.bounded h.sound.match.file.form) (has_file (bits_of m.root.pseudo) m.active (map.get pages) m.root.page h.sound.match.file.bounded h.sound.match.file.form).once;
    file = has_file (bits_of m.root.pseudo) m.active (map.get pages) m.root.page h.sound.match.file.bounded h.sound.match.file.form;
    can_be = h.sound.match.records.means.can_be;
    ghosts = kept_by_match (ledger_of (abstract_state_of (state_of bits_of m h.images h.base))) h.sound.match.file.ghosts;
    locks = λ i. record { of_pass = pass_locks (state_of bits_of m h.images h.base) i h.sound; written = written_locks (state_of bits_of m h.images h.base) i h.sound };
    history = record {
      in_table = h.sound.opened;
      in_history = h.sound.match.records.running;
      number = λ i one there. (h.sound.fits i one there).number;
      undo = λ i one there. (h.sound.fits i one there).stands;
      held = h.sound.held;
      page_locks = h.sound.running.compatible;
    };
    begun = h.sound.begun;
    commits = h.sound.commits;
  }

  pub committed_of : (base : Base) → IsCommittedBase (state_of bits_of m h.images h.base) base → IsCommittedBaseOf m base
  committed_of base c = record {
    serial = c.serial;
    undone = λ state leads. subst (λ (b : Base). UndoneTo Step base (lists_by m).transcripts b) (sym (same_base bits_of m h 0 state leads)) c.undone;
  }

  -- the text of the history is an accepted trace
  pub checker_passed : (items : List TraceItem) → items ≡ m.shared.history.items → AllFit items
      → ((l : List TraceItem) → ArePlaced l → AreBegunInOrder l → AllFit l → AreWritable l)
      → ((l : List TraceItem) (base : Base) → AreWritable l → ArePlaced l → IsSerialBase Step empty_base (told l).committed base → IsAcceptedTrace (trace_text l) (committed_txs l) base)
      → PassesTheChecker m
  checker_passed items is fit writable accepted =
      let l = m.shared.history.items in
      let led = with_base (state_of bits_of m h.images h.base) h.sound in
      record {
        base = led.0;
        accepted = accepted l led.0 (writable l h.traced.placed h.sound.begun (subst AllFit is fit)) h.traced.placed led.1.serial;
        committed = committed_of led.0 led.1;
      }
