-- Each change of one cell's record keeps the file with its ghosts, whatever the records mean.
use Rattle.std.proofs.Common.{◌≡◌, ℕ, ◌+◌, ◌-◌, ◌%◌, ◌^◌, true, false, Option, Some, None, subst, sym, refl, inl, inr, nat_cmp}
use Rattle.std.specs.FinMap as map
use Rattle.mlt_tx_meaning.proofs.Names.{IsInRange, key_number, Cell, Page, ObjOp, Account, Element, Counter, Size, cell_of, RecChange, size_change_on, Change, Set, last_by, Added, Presence, Removed, Standing, Performs, ChangesPages, KeepsPages, LeavesChange, IsOpenAt, IsFileWithGhosts, AbstractState, ledger_with, record_at}
use Rattle.mlt_tx_meaning.proofs.{Matches.kept_pages, Replies.ForResizes, Standings.IsUnopposed, Standings.Says}
use Rattle.mlt_tx_meaning.proofs.SlotGhosts.{puts, puts_unsaid, removes, revived_was_removed, revives, sets, takes_addition_back, takes_removal_back}

-- ---- what is done

module _ (state : AbstractState) (tx : ℕ) (cell : Cell) (pages : map.FinMap nat_cmp Page) (stood standing : Standing)
    (h : IsFileWithGhosts (ledger_with state stood) state.max_depth) (is_open : IsOpenAt state tx) (forward : state.undoing tx ≡ false) where
  -- where this was done to the presence of the key, and this to its record
  abbrev pub KeepsGhosts : Option Presence → RecChange → Type 0
  KeepsGhosts said change = LeavesChange state tx cell change pages → Says said stood standing tx (key_number cell) → IsUnopposed said (ledger_with state stood) tx (key_number cell)
      → IsFileWithGhosts (ledger_with (record state { pages = pages }) standing) state.max_depth

  pub added : (v : ℕ) → KeepsGhosts (Some Added) (RecChange.Add v)
  added v e says unopposed =
      let alone = unopposed Removed (λ f. cc f) in
      elim e.performs [
        | inl put ↦ puts state tx cell (RecChange.Add v) pages stood h e standing v put is_open alone says
        | inr revived ↦ revives state tx cell (RecChange.Add v) pages stood h e standing v revived is_open alone says
      ]

  pub removed : KeepsGhosts (Some Removed) RecChange.ToGhost
  removed e says unopposed = removes state tx cell RecChange.ToGhost pages stood h e standing e.performs is_open forward (unopposed Added (λ f. cc f)) says

  pub updated : (v : ℕ) → KeepsGhosts None (RecChange.Set v)
  updated v e says unopposed = sets state tx cell (RecChange.Set v) pages stood h e standing v e.performs says

  -- where no removal stands of the key, there is no ghost to revive
  pub counted : ((owner : ℕ) → last_by (ledger_with state stood) owner (key_number cell) ≡ Some Removed → ⊥) → (v : ℕ) → KeepsGhosts None (RecChange.Add v)
  counted none v e says unopposed =
      elim e.performs [
        | inl put ↦ puts_unsaid state tx cell (RecChange.Add v) pages stood h e standing v put none says
        | inr revived ↦ absurd (none tx (revived_was_removed state tx cell (RecChange.Add v) pages stood h e v revived is_open forward))
      ]

-- pages that stay keep it
pub file_stays : (state : AbstractState) (pages : map.FinMap nat_cmp Page) (stood standing : Standing) → IsFileWithGhosts (ledger_with state stood) state.max_depth → KeepsPages state pages → standing ≡ stood
    → IsFileWithGhosts (ledger_with (record state { pages = pages }) standing) state.max_depth
file_stays state pages stood standing h same says =
    let kept = subst (λ (s : Standing). IsFileWithGhosts (ledger_with state s) state.max_depth) (sym says) h in
    subst (λ (p : map.FinMap nat_cmp Page). IsFileWithGhosts (ledger_with (record state { pages = p }) standing) state.max_depth) (sym (kept_pages state pages same)) kept

-- to add or to take away an amount gives the record some value
sets_more : (n : ℕ) (live : Option ℕ) (done : Change) → Performs (RecChange.Plus n) live done → (v : ℕ) × (done ≡ Set v)
sets_more n (Some v) done is = ((v + n) % 2 ^ 64, is)
sets_more n None done is = absurd is

sets_less : (n : ℕ) (live : Option ℕ) (done : Change) → Performs (RecChange.Minus n) live done → (v : ℕ) × (done ≡ Set v)
sets_less n (Some v) done is = ((v + (2 ^ 64 - n)) % 2 ^ 64, is)
sets_less n None done is = absurd is

-- ---- what is taken back

module _ (state : AbstractState) (tx : ℕ) (cell : Cell) (pages : map.FinMap nat_cmp Page) (stood standing : Standing)
    (h : IsFileWithGhosts (ledger_with state stood) state.max_depth) (is_open : IsOpenAt state tx) where
  -- where this is taken back of the presence of the key, and this is done to its record
  abbrev KeepsGhostsBack : Option Presence → RecChange → Type 0
  KeepsGhostsBack said change = LeavesChange state tx cell change pages → Says said standing stood tx (key_number cell)
      → IsFileWithGhosts (ledger_with (record state { pages = pages }) standing) state.max_depth

  pub added_back : state.undoing tx ≡ true → KeepsGhostsBack (Some Added) RecChange.ToGhost
  added_back backward e says = takes_addition_back state tx cell RecChange.ToGhost pages stood h e standing e.performs is_open backward says

  pub removed_back : KeepsGhostsBack (Some Removed) RecChange.Revive
  removed_back e says = takes_removal_back state tx cell RecChange.Revive pages stood h e standing 0 e.performs is_open says

  pub lowered : (n : ℕ) → KeepsGhostsBack None (RecChange.Minus n)
  lowered n e says = let v = sets_less n (record_at state cell) e.done e.performs in sets state tx cell (RecChange.Minus n) pages stood h e standing v.0 v.1 (sym says)

  pub raised : (n : ℕ) → KeepsGhostsBack None (RecChange.Plus n)
  raised n e says = let v = sets_more n (record_at state cell) e.done e.performs in sets state tx cell (RecChange.Plus n) pages stood h e standing v.0 v.1 (sym says)

-- ---- a size, which is no key's presence

module _ (state : AbstractState) (tx : ℕ) (op : ObjOp) (pages : map.FinMap nat_cmp Page) (standing : Standing)
    (h : IsFileWithGhosts (ledger_with state standing) state.max_depth) (is_open : IsOpenAt state tx) (range : IsInRange (cell_of op)) where
  -- where this is done to the size record of the operation's set
  abbrev pub KeepsResized : Option RecChange → Type 0
  KeepsResized change = ChangesPages state tx (size_change_on op change) pages → IsFileWithGhosts (ledger_with (record state { pages = pages }) standing) state.max_depth

  on_its_set : (change : RecChange) → ((s : ℕ) → IsInRange (Cell.Size s) → LeavesChange state tx (Cell.Size s) change pages → IsFileWithGhosts (ledger_with (record state { pages = pages }) standing) state.max_depth)
      → KeepsResized (Some change)
  on_its_set change each = of_op op range
    where
      of_op : (o : ObjOp) → IsInRange (cell_of o) → ChangesPages state tx (size_change_on o (Some change)) pages → IsFileWithGhosts (ledger_with (record state { pages = pages }) standing) state.max_depth
      of_op (Element s e o) range e' = each s range.0 e'
      of_op (Account a o) range keeps = file_stays state pages standing standing h keeps refl
      of_op (Counter c o) range keeps = file_stays state pages standing standing h keeps refl
      of_op (Size s) range keeps = file_stays state pages standing standing h keeps refl

  of_none : (o : ObjOp) → ChangesPages state tx (size_change_on o None) pages → KeepsPages state pages
  of_none (Element s e o) keeps = keeps
  of_none (Account a o) keeps = keeps
  of_none (Counter c o) keeps = keeps
  of_none (Size s) keeps = keeps

  pub resized : ForResizes KeepsResized
  resized = record {
    raised = on_its_set (RecChange.Plus 1) (λ s is e. raised state tx (Cell.Size s) pages standing standing h is_open 1 e refl);
    lowered = on_its_set (RecChange.Minus 1) (λ s is e. lowered state tx (Cell.Size s) pages standing standing h is_open 1 e refl);
    stays = λ e. file_stays state pages standing standing h (of_none op e) refl;
  }

  -- where no removal stands of its key, there is no ghost to revive
  pub size_made : state.undoing tx ≡ false → ((s : ℕ) → IsInRange (Cell.Size s) → (owner : ℕ) → last_by (ledger_with state standing) owner (key_number (Cell.Size s)) ≡ Some Removed → ⊥) → KeepsResized (Some (RecChange.Add 1))
  size_made forward none =
      on_its_set (RecChange.Add 1) (λ s is e. counted state tx (Cell.Size s) pages standing standing h is_open forward (none s is) 1 e refl tt)
