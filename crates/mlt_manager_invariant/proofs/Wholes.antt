-- Of whom nothing was taken back, where one open transaction changes, comes or goes
use Rattle.std.proofs.Common.{◌≡◌, ◌≢◌, ℕ, List, [], ◌∷◌, ◌++◌, false, Some, sym, ap, subst, ◌∙◌, inl, inr, nat_cmp}
use Rattle.std.specs.FinMap as map
use Rattle.std.proofs.lemmas.Bool.{cases_eq}
use Rattle.mlt_manager_invariant.proofs.Names.{TraceItem, IsWhole, whole_more, Transaction, State, is_undoing, IsTraced}
use Rattle.mlt_manager_invariant.proofs.Tables.{inserted_elsewhere, inserted_here, removed_elsewhere, removed_here}

abbrev pub AllWhole : map.FinMap nat_cmp Transaction → List TraceItem → Type 0
AllWhole txs items = (j : ℕ) (t : Transaction) → map.get txs j ≡ Some t → is_undoing t.at ≡ false → IsWhole items j

abbrev pub OthersWhole : map.FinMap nat_cmp Transaction → ℕ → List TraceItem → Type 0
OthersWhole txs i items = (j : ℕ) (t : Transaction) → j ≢ i → map.get txs j ≡ Some t → is_undoing t.at ≡ false → IsWhole items j

pub whole_with : (txs : map.FinMap nat_cmp Transaction) (i : ℕ) (after : Transaction) (items : List TraceItem) → OthersWhole txs i items → (is_undoing after.at ≡ false → IsWhole items i)
    → AllWhole (map.insert txs i after) items
whole_with txs i after items others own j t found forward = elim (cases_eq j i) [
  | inl here ↦
      let both : Some after ≡ Some t = sym (inserted_here txs i after) ∙ sym (ap (λ n. map.get (map.insert txs i after) n) here) ∙ found in
      let same : after ≡ t = cc both in
      subst (IsWhole items) (sym here) (own (ap (λ (u : Transaction). is_undoing u.at) same ∙ forward))
  | inr differ ↦ others j t differ (sym (inserted_elsewhere txs i after j differ) ∙ found) forward
]

pub whole_without : (txs : map.FinMap nat_cmp Transaction) (i : ℕ) (items : List TraceItem) → OthersWhole txs i items → AllWhole (map.remove txs i) items
whole_without txs i items others j t found forward = elim (cases_eq j i) [
  | inl here ↦ let none = sym (removed_here txs i) ∙ sym (ap (λ n. map.get (map.remove txs i) n) here) ∙ found in absurd (cc none)
  | inr differ ↦ others j t differ (sym (removed_elsewhere txs i j differ) ∙ found) forward
]

-- others stay so, where one more item takes nothing of them back
pub others_more : (txs : map.FinMap nat_cmp Transaction) (i : ℕ) (items new : List TraceItem) (item : TraceItem) → new ≡ items ++ item ∷ [] → ((j : ℕ) → j ≢ i → item ≢ TraceItem.Back j)
    → OthersWhole txs i items → OthersWhole txs i new
others_more txs i items new item is apart others j t differ found forward =
    subst (λ (l : List TraceItem). IsWhole l j) (sym is) (whole_more items item j (apart j differ) (others j t differ found forward))

pub others_of : (s : State) (i : ℕ) → IsTraced s → OthersWhole s.txs i s.shared.history.items
others_of s i traced j t differ found forward = traced.whole j t found forward
