-- The laws of beginnings and ends. Other crates are to cite this module.
use Rattle.std.proofs.Common.{ℕ, ◌≡◌, ◌+◌, ◌≤◌, nat_eq, ◌&&◌, ◌||◌, Bool, true, false, not, [], Option, None, refl, sym, ◌∙◌, ap, arith, inl, inr, nat_cmp, eq-eqb, ne_eqb}
use Rattle.std.specs.Cmp.{nat_cmp_total, unsigned_tied}
use Rattle.std.specs.FinSet as fin
use Rattle.mlt_hash_ghosts.proofs.Names.{both_ways, cases_eq, is_kept, Slot, Free, Live, Ghost, Page, slot_at, buckets_of, IsGhostAt, IsInStep, PagesMatchOperations, IsOpenIn, Ledger, Standing, TakeTurns, last_of}
use Rattle.mlt_hash_ghosts.specs.Ghosts.{GhostsAreKept}

-- members of a set with one number more, and with one less
inserted : (active : fin.FinSet nat_cmp) (x q : ℕ) → fin.contains (fin.insert active x) q ≡ (nat_eq q x || fin.contains active q)
inserted active x q = fin.contains-insert nat_cmp_total active x q ∙ ap (λ b. b || fin.contains active q) (unsigned_tied q x)

removed : (active : fin.FinSet nat_cmp) (x q : ℕ) → fin.contains (fin.remove active x) q ≡ (not (nat_eq q x) && fin.contains active q)
removed active x q = fin.contains-remove nat_cmp_total active x q ∙ ap (λ b. not b && fin.contains active q) (unsigned_tied q x)

open_beside : (active : fin.FinSet nat_cmp) (x q : ℕ) → fin.contains (fin.insert active x) q ≡ true → (q ≡ x → ⊥) → fin.contains active q ≡ true
open_beside active x q is_open differs = sym (ap (λ b. b || fin.contains active q) (ne_eqb q x differs)) ∙ sym (inserted active x q) ∙ is_open

not_closed : (active : fin.FinSet nat_cmp) (x : ℕ) → fin.contains (fin.remove active x) x ≡ false
not_closed active x = removed active x x ∙ ap (λ b. not b && fin.contains active x) (eq-eqb x x refl)

kept_open : (active : fin.FinSet nat_cmp) (x q : ℕ) → (q ≡ x → ⊥) → fin.contains (fin.remove active x) q ≡ fin.contains active q
kept_open active x q differs = removed active x q ∙ ap (λ b. not b && fin.contains active q) (ne_eqb q x differs)

still_open : (active : fin.FinSet nat_cmp) (x q : ℕ) → fin.contains (fin.remove active x) q ≡ true → (q ≡ x → ⊥) × (fin.contains active q ≡ true)
still_open active x q is_open =
    let differs : q ≡ x → ⊥ = λ e. both_ways _ (not_closed active x) (rw e at is_open) in
    (differs, sym (kept_open active x q differs) ∙ is_open)

pub kept_by_match : (ledger : Ledger) → PagesMatchOperations ledger → GhostsAreKept ledger
kept_by_match ledger matches = record {
  ghost = λ owner key o. (matches.step owner key o).ghost;
  absent = λ owner key o. (matches.step owner key o).absent;
  once = λ owner key o. (matches.step owner key o).once;
}

pub free_file : (ledger : Ledger) → ledger.active ≡ fin.empty → ((n i : ℕ) → slot_at (buckets_of ledger.pages) n i ≡ Free) → PagesMatchOperations ledger
free_file ledger none free =
    let closed : (t : ℕ) → IsOpenIn ledger t → ⊥ = λ t o. both_ways _ (ap (λ s. fin.contains s t) none ∙ fin.contains-empty nat_cmp t) o in
    record {
      step = λ t k o. absurd (closed t o);
      turns = λ t k o. absurd (closed t o);
      alone = λ one two k o p e f. absurd (closed one o);
      opened = λ t o. absurd (closed t o);
      left = λ t k n i g. let e : Free ≡ Ghost k g.0 t = sym (free n i) ∙ g.1 in cc;
    }

-- a transaction without operations and without ghosts
step_of_none : (bits : ℕ → ℕ) (undoing : Bool) (pages : ℕ → Option Page) (root t k : ℕ) → ((n i : ℕ) → IsGhostAt pages t k n i → ⊥) → IsInStep bits undoing None pages root t k
step_of_none bits undoing pages root t k none = record {
  ghost = λ e. cc;
  absent = λ e. cc;
  present = λ e. cc;
  revived = λ e n i g. none n i g;
  once = λ n i m j g h. absurd (none n i g);
  forward = λ f n i g. absurd (none n i g);
}

module _ (ledger : Ledger) (matches : PagesMatchOperations ledger) where
  module _ (standing' : Standing) (new : (k : ℕ) → standing' (ledger.begun + 1) k ≡ []) (others : (t k : ℕ) → (t ≡ ledger.begun + 1 → ⊥) → standing' t k ≡ ledger.standing t k) where
    old_open : (t : ℕ) → fin.contains (fin.insert ledger.active (ledger.begun + 1)) t ≡ true → (t ≡ ledger.begun + 1 → ⊥) → fin.contains ledger.active t ≡ true
    old_open t = open_beside ledger.active (ledger.begun + 1) t

    no_ghosts : (k n i : ℕ) → IsGhostAt ledger.pages (ledger.begun + 1) k n i → ⊥
    no_ghosts k n i g = let low = matches.left (ledger.begun + 1) k n i g in absurd (omega arith)

    new_step : (t k : ℕ) → t ≡ ledger.begun + 1 → IsInStep ledger.bits (ledger.undoing t) (last_of (standing' t k)) ledger.pages ledger.root t k
    new_step t k e = rw (e, new) (step_of_none ledger.bits (ledger.undoing (ledger.begun + 1)) ledger.pages ledger.root (ledger.begun + 1) k (no_ghosts k))

    begun_step : (t k : ℕ) → fin.contains (fin.insert ledger.active (ledger.begun + 1)) t ≡ true → IsInStep ledger.bits (ledger.undoing t) (last_of (standing' t k)) ledger.pages ledger.root t k
    begun_step t k is_open = elim (cases_eq t (ledger.begun + 1)) [ inl e ↦ new_step t k e | inr e ↦ rw (others t k e) (matches.step t k (old_open t is_open e)) ]

    begun_turns : (t k : ℕ) → fin.contains (fin.insert ledger.active (ledger.begun + 1)) t ≡ true → TakeTurns None (standing' t k)
    begun_turns t k is_open = elim (cases_eq t (ledger.begun + 1)) [ inl e ↦ rw (e, new) tt | inr e ↦ rw (others t k e) (matches.turns t k (old_open t is_open e)) ]

    some_old : (t k : ℕ) → (standing' t k ≡ [] → ⊥) → t ≡ ledger.begun + 1 → ⊥
    some_old t k some e = some (ap (λ x. standing' x k) e ∙ new k)

    begun_alone : (one two k : ℕ) → fin.contains (fin.insert ledger.active (ledger.begun + 1)) one ≡ true → fin.contains (fin.insert ledger.active (ledger.begun + 1)) two ≡ true → (standing' one k ≡ [] → ⊥) → (standing' two k ≡ [] → ⊥) → one ≡ two
    begun_alone one two k one_open two_open some_one some_two =
        let old_one = some_old one k some_one in
        let old_two = some_old two k some_two in
        matches.alone one two k (old_open one one_open old_one) (old_open two two_open old_two) (λ q. some_one (others one k old_one ∙ q)) (λ q. some_two (others two k old_two ∙ q))

    begun_opened : (t : ℕ) → fin.contains (fin.insert ledger.active (ledger.begun + 1)) t ≡ true → t ≤ ledger.begun + 1
    begun_opened t is_open = elim (cases_eq t (ledger.begun + 1)) [ inl e ↦ omega arith | inr e ↦ let low = matches.opened t (old_open t is_open e) in omega arith ]

    begun_left : (t k n i : ℕ) → IsGhostAt ledger.pages t k n i → t ≤ ledger.begun + 1
    begun_left t k n i g = let low = matches.left t k n i g in omega arith

    begin : PagesMatchOperations (record ledger { begun = ledger.begun + 1; active = fin.insert ledger.active (ledger.begun + 1); standing = standing' })
    begin = record { step = begun_step; turns = begun_turns; alone = begun_alone; opened = begun_opened; left = begun_left }

  module _ (undoing' : ℕ → Bool) (fewer : (t : ℕ) → undoing' t ≡ false → ledger.undoing t ≡ false) where
    abort_step : (t k : ℕ) → fin.contains ledger.active t ≡ true → IsInStep ledger.bits (undoing' t) (last_of (ledger.standing t k)) ledger.pages ledger.root t k
    abort_step t k is_open =
        let step = matches.step t k is_open in
        record {
          ghost = step.ghost;
          absent = step.absent;
          present = step.present;
          revived = step.revived;
          once = step.once;
          forward = λ f. step.forward (fewer t f);
        }

    abort : PagesMatchOperations (record ledger { undoing = undoing' })
    abort = record { step = abort_step; turns = matches.turns; alone = matches.alone; opened = matches.opened; left = matches.left }

  module _ (standing' : Standing) (owner : ℕ) (others : (t k : ℕ) → (t ≡ owner → ⊥) → standing' t k ≡ ledger.standing t k) where
    closed_step : (t k : ℕ) → fin.contains (fin.remove ledger.active owner) t ≡ true → IsInStep ledger.bits (ledger.undoing t) (last_of (standing' t k)) ledger.pages ledger.root t k
    closed_step t k is_open = let still = still_open ledger.active owner t is_open in rw (others t k still.0) (matches.step t k still.1)

    closed_turns : (t k : ℕ) → fin.contains (fin.remove ledger.active owner) t ≡ true → TakeTurns None (standing' t k)
    closed_turns t k is_open = let still = still_open ledger.active owner t is_open in rw (others t k still.0) (matches.turns t k still.1)

    closed_alone : (one two k : ℕ) → fin.contains (fin.remove ledger.active owner) one ≡ true → fin.contains (fin.remove ledger.active owner) two ≡ true → (standing' one k ≡ [] → ⊥) → (standing' two k ≡ [] → ⊥) → one ≡ two
    closed_alone one two k one_open two_open some_one some_two =
        let still_one = still_open ledger.active owner one one_open in
        let still_two = still_open ledger.active owner two two_open in
        matches.alone one two k still_one.1 still_two.1 (λ q. some_one (others one k still_one.0 ∙ q)) (λ q. some_two (others two k still_two.0 ∙ q))

    closed : PagesMatchOperations (record ledger { active = fin.remove ledger.active owner; standing = standing' })
    closed = record { step = closed_step; turns = closed_turns; alone = closed_alone; opened = λ t o. matches.opened t (still_open ledger.active owner t o).1; left = matches.left }

-- whose room is kept when a transaction is closed
freed : (active : fin.FinSet nat_cmp) (owner key value : ℕ) → is_kept (fin.remove active owner) (Ghost key value owner) ≡ false
freed active owner key value = not_closed active owner

kept_beside : (active : fin.FinSet nat_cmp) (owner : ℕ) (s : Slot) → ((key value : ℕ) → s ≡ Ghost key value owner → ⊥) → is_kept (fin.remove active owner) s ≡ is_kept active s
kept_beside active owner Free other = refl
kept_beside active owner (Live k v) other = refl
kept_beside active owner (Ghost k v t) other = kept_open active owner t (λ e. other k v (ap (Ghost k v) e))

pub close_law : (ledger : Ledger) (standing' : Standing) (owner : ℕ) → PagesMatchOperations ledger → ((t key : ℕ) → (t ≡ owner → ⊥) → standing' t key ≡ ledger.standing t key)
    → PagesMatchOperations (record ledger { active = fin.remove ledger.active owner; standing = standing' })
    × ((key value : ℕ) → is_kept (fin.remove ledger.active owner) (Ghost key value owner) ≡ false)
    × ((s : Slot) → ((key value : ℕ) → s ≡ Ghost key value owner → ⊥) → is_kept (fin.remove ledger.active owner) s ≡ is_kept ledger.active s)
close_law ledger standing' owner matches others = (closed ledger matches standing' owner others, freed ledger.active owner, kept_beside ledger.active owner)

pub begin_law : (ledger : Ledger) (standing' : Standing) → PagesMatchOperations ledger → ((key : ℕ) → standing' (ledger.begun + 1) key ≡ []) → ((owner key : ℕ) → (owner ≡ ledger.begun + 1 → ⊥) → standing' owner key ≡ ledger.standing owner key)
    → PagesMatchOperations (record ledger { begun = ledger.begun + 1; active = fin.insert ledger.active (ledger.begun + 1); standing = standing' })
begin_law ledger standing' matches = begin ledger matches standing'

pub abort_law : (ledger : Ledger) (undoing' : ℕ → Bool) → PagesMatchOperations ledger → ((owner : ℕ) → undoing' owner ≡ false → ledger.undoing owner ≡ false) → PagesMatchOperations (record ledger { undoing = undoing' })
abort_law ledger undoing' matches = abort ledger matches undoing'
