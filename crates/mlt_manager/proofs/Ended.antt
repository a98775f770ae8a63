-- Beginnings and ends of transactions keep what is always true of a manager
use Rattle.std.proofs.Common.{◌≡◌, ◌<◌, ℕ, ◌+◌, false, List, [], ◌∷◌, ◌++◌, length, refl, sym, ap, subst, ◌∙◌, arith}
use Rattle.std.specs.FinMap as map
use Rattle.std.specs.FinSet as set
use Rattle.mlt_manager.proofs.Names.{not_true, ObjOp, ObjReply, TraceItem, commit_count, Transaction, State, pending_room, HasEnded, IsManager, ManagerFields, state_of}
use Rattle.mlt_trace.proofs.ItemLaws.{commits_counted}
use Rattle.mlt_page_subtx.specs.Images.{started}
use Rattle.mlt_manager_invariant.{specs.Transactions.Begins, specs.Transactions.BeginsAbort, specs.Transactions.Ends, proofs.Aborts.abort_sound, proofs.Begins.begin_sound, proofs.Ends.close_sound, proofs.Ends.commit_sound, proofs.Items.begin_traced, proofs.Items.close_traced, proofs.Items.commit_traced, proofs.TraceStays.abort_traced}
use Rattle.mlt_manager.{specs.Answers.HasBegun, specs.Answers.HasBegunAbort, specs.Answers.HasClosed, specs.Answers.HasCommitted, proofs.Called.was_idle, proofs.Called.was_with, proofs.Counts.no_more_commits}
use Rattle.mlt_manager.proofs.Keeping.{changed_keeps, len_added, removed_keeps, same_manager, set_added}

module _ {P : Type 0} (bits_of : P → ℕ → ℕ) (m : ManagerFields P) (h : IsManager bits_of m) (tx : ℕ) (m' : ManagerFields P) where
  abbrev pub now : State
  now = state_of bits_of m h.images h.base

  -- an end, as the laws have it
  ends_by : (item : TraceItem) → (e : HasEnded m m' tx item) → Ends now tx e.one m'.shared item
  ends_by item e =
      let none : pending_room e.one.at ≡ 0 = ap pending_room e.idle in
      record {
        idle = e.idle;
        pages = e.pages;
        held = e.held;
        reserved = e.reserved;
        items = e.items;
        room = omega (arith, none, e.room);
      }

  same_ends : (commits : ℕ) (item : TraceItem) (e : HasEnded m m' tx item) → m' ≡ record m { shared = m'.shared; txs = m'.txs; active = m'.active; commits = commits }
      → m' ≡ record m { shared = m'.shared; txs = map.remove m.txs tx; active = set.remove m.active tx; commits = commits }
  same_ends commits item e rest = rest ∙ (λ p. record m { shared = m'.shared; txs = e.txs p; active = e.active p; commits = commits })

  pub committed_keeps : (number : ℕ) → HasCommitted m m' tx number → IsManager bits_of m'
  committed_keeps number c =
      let e = c.ends in
      let next : number ≡ commit_count m.shared.history.items + 1 = c.next ∙ ap (λ n. n + 1) h.limits.counted in
      let ends = subst (λ (n : ℕ). Ends now tx e.one m'.shared (TraceItem.Commit tx n)) next (ends_by (TraceItem.Commit tx number) e) in
      let count : number ≡ commit_count m'.shared.history.items = next ∙ sym (ap commit_count e.items ∙ commits_counted m.shared.history.items tx number) in
      same_manager bits_of m' (record m { shared = m'.shared; txs = map.remove m.txs tx; active = set.remove m.active tx; commits = number }) (same_ends number (TraceItem.Commit tx number) e c.rest)
      (removed_keeps bits_of m h tx number e.one m'.shared e.there (λ i. (e.pages i).locks.max_open) (λ i. (e.pages i).store.max_pages) count (omega (arith, c.next)) (record {
        images = map.remove h.images tx;
        base = h.base;
        sound = commit_sound now tx e.one m'.shared h.sound e.there ends;
        traced = commit_traced now tx e.one m'.shared h.sound h.traced e.there ends;
      }))

  nothing_left : (entries : List (ObjOp × ObjReply)) → length entries ≡ 0 → entries ≡ []
  nothing_left [] is = refl
  nothing_left (x ∷ xs) is = absurd cc

  pub closed_keeps : HasClosed m m' tx → IsManager bits_of m'
  closed_keeps c =
      let e = c.ends in
      let ends = ends_by (TraceItem.Abort tx) e in
      let none : e.one.undo.entries ≡ [] = nothing_left e.one.undo.entries (was_with m.txs tx 0 e.one c.nothing e.there) in
      let count = h.limits.counted ∙ sym (ap commit_count e.items ∙ no_more_commits m.shared.history.items (TraceItem.Abort tx ∷ []) refl) in
      same_manager bits_of m' (record m { shared = m'.shared; txs = map.remove m.txs tx; active = set.remove m.active tx; commits = m.commits }) (same_ends m.commits (TraceItem.Abort tx) e c.rest)
      (removed_keeps bits_of m h tx m.commits e.one m'.shared e.there (λ i. (e.pages i).locks.max_open) (λ i. (e.pages i).store.max_pages) count (omega arith) (record {
        images = map.remove h.images tx;
        base = h.base;
        sound = close_sound now tx e.one m'.shared h.sound e.there none ends;
        traced = close_traced now tx e.one m'.shared h.sound h.traced e.there none ends;
      }))

  some_left : (entries : List (ObjOp × ObjReply)) (count : ℕ) → length entries ≡ count → 0 < count → entries ≡ [] → ⊥
  some_left entries count is some none = let zero_of : length entries ≡ 0 = ap length none in omega (arith, is, some, zero_of)

  pub abort_begun_keeps : HasBegunAbort m m' tx → IsManager bits_of m'
  abort_begun_keeps a =
      let ch = a.puts.changes in
      let put = a.puts.put in
      let begins : BeginsAbort ch.before ch.after = record {
        idle = was_idle m.txs tx a.count ch.before a.idle ch.was;
        some = some_left ch.before.undo.entries a.count (was_with m.txs tx a.count ch.before a.idle ch.was) a.some;
        subtx = ap (λ (t : Transaction). t.subtx) put;
        undo = ap (λ (t : Transaction). t.undo) put;
        undoing = ap (λ (t : Transaction). t.at) put;
      } in
      same_manager bits_of m' (record m { shared = m.shared; txs = map.insert m.txs tx ch.after }) (a.rest ∙ (λ p. record m { txs = ch.is p }))
      (changed_keeps bits_of m h tx ch.before ch.after m.shared ch.was (record { locks = refl; pages = refl; commits = refl }) (record {
        images = h.images;
        base = h.base;
        sound = abort_sound now tx ch.before ch.after h.sound ch.was begins;
        traced = abort_traced now tx ch.before ch.after h.images h.traced ch.was begins;
      }))

  pub begun_keeps : HasBegun m m' tx → IsManager bits_of m'
  begun_keeps b =
      let begins : Begins now b.one m'.shared = record {
        subtx = subst (λ (n : ℕ). b.one.subtx ≡ started n) b.number b.subtx;
        entries = b.entries;
        idle = b.idle;
        pages = b.pages;
        objects = b.objects;
        items = b.items ∙ ap (λ (n : ℕ). m.shared.history.items ++ TraceItem.Begin n ∷ []) b.number;
        room = b.room;
      } in
      let few : map.len m.txs < m.shared.pages.locks.max_open = subst (λ (n : ℕ). map.len m.txs < n) (sym h.limits.locks_for) b.free in
      let not_open : set.contains m.active (m.begun + 1) ≡ false = not_true (set.contains m.active (m.begun + 1)) (λ is. let low = h.sound.match.file.ghosts.opened (m.begun + 1) is in absurd (omega (arith, low))) in
      let more : map.len (map.insert m.txs (m.begun + 1) b.one) ≡ map.len m.txs + 1 = len_added m.txs (m.begun + 1) b.one (sym (h.sound.opened (m.begun + 1)) ∙ not_open) in
      let more_open : set.len (set.insert m.active (m.begun + 1)) ≡ set.len m.active + 1 = set_added m.active (m.begun + 1) not_open in
      same_manager bits_of m' (record m { shared = m'.shared; txs = map.insert m.txs (m.begun + 1) b.one; active = set.insert m.active (m.begun + 1); begun = m.begun + 1 })
      (b.rest ∙ (λ p. record m { shared = m'.shared; txs = map.insert m.txs (b.number p) b.one; active = set.insert m.active (b.number p); begun = b.number p }))
      (record {
        images = map.insert h.images (m.begun + 1) map.empty;
        base = h.base;
        sound = begin_sound now b.one m'.shared h.sound few begins;
        traced = begin_traced now b.one m'.shared h.sound h.traced begins;
        limits = record {
          locks_for = (λ i. (b.pages i).locks.max_open) ∙ h.limits.locks_for;
          pages_for = (λ i. (b.pages i).store.max_pages) ∙ h.limits.pages_for;
          few_open = omega (arith, b.free, more);
          open_in_set = omega (arith, h.limits.open_in_set, more, more_open);
          set_holds = h.limits.set_holds;
          few_ids = omega (arith, b.left);
          ids_fit = h.limits.ids_fit;
          ops_fit = h.limits.ops_fit;
          ended = omega (arith, h.limits.ended, more);
          counted = h.limits.counted ∙ sym (ap commit_count begins.items ∙ no_more_commits m.shared.history.items (TraceItem.Begin (m.begun + 1) ∷ []) refl);
        };
      })
