-- What a history has told of each outcome, one item after another.
use Rattle.std.proofs.Common.{◌≡◌, ◌≢◌, ◌↔◌, ℕ, ◌+◌, ◌-◌, ◌<◌, ◌≤◌, List, [], ◌∷◌, ◌++◌, All, Some, true, false, length, get_or, slice_get, replicate, slice_set, take, drop, refl, sym, ap, subst, ◌∙◌, inl, inr, arith, length-append, take-append-drop}
use Rattle.std.proofs.lemmas.{List.get_or-set_other, List.get_or-set_same, List.get_or-replicate, List.Elements.All-get_or}
use Rattle.mlt_trace_audit.proofs.Names.{cases_eq, same_Some, slice_get-get_or, slice_get_read, slice_get_within, TraceItem, Outcome, NumbersAgree, AreOrdered, IsOfHistory, begin_count, begun_txs, begun_txs-append, is_told, tx_of}
use Rattle.mlt_trace_audit.{proofs.Counts.numbers_are, proofs.Orderly.begun_in_order, proofs.Orderly.told_of_begun}
use Rattle.mlt_trace_audit.proofs.Telling.{nothing_of_other, nothing_untold, one_place, told_nothing, whole_is_closed}
use Rattle.mlt_trace_audit.specs.Telling.{ArePlacesOf, HasTold, IsWholeIn, nothing_told}
use Rattle.mlt_trace_audit.specs.declared.progress.Progress.{Progress}

-- of the outcome that each place names the items have told as much as its progress says
abbrev pub HaveTold : List Outcome → List ℕ → List Progress → List TraceItem → Type 0
HaveTold outcomes places told items =
    (k : ℕ) → k < length places → (o : Outcome) → slice_get outcomes (get_or places k 0 - 1) ≡ Some o
    → HasTold o items (get_or told k nothing_told)

module _ (outcomes : List Outcome) (places : List ℕ) (named : ArePlacesOf places outcomes) where
  pub number_of : (k : ℕ) → k < length places → (o : Outcome) → slice_get outcomes (get_or places k 0 - 1) ≡ Some o → o.tx ≡ k + 1
  number_of k few o found = let n = named k few in ap (λ (o : Outcome). o.tx) (same_Some o n.0 (sym found ∙ n.2)) ∙ n.3

  module _ (told : List Progress) (size : length told ≡ length places) (items : List TraceItem) (have : HaveTold outcomes places told items) (item : TraceItem) where
    -- an item of which outcomes tell nothing
    pub have_untold : is_told item ≡ false → HaveTold outcomes places told (items ++ item ∷ [])
    have_untold untold k few o found = told_nothing o items (get_or told k nothing_told) (have k few o found) item (nothing_untold o.tx item untold)

    -- an item of transaction n + 1, whose progress is then this
    pub have_item : (n : ℕ) (p : Progress) → n < length places → tx_of item ≡ n + 1
        → ((o : Outcome) → slice_get outcomes (get_or places n 0 - 1) ≡ Some o → HasTold o (items ++ item ∷ []) p)
        → HaveTold outcomes places (slice_set told n p) (items ++ item ∷ [])
    have_item n p within of_n next k few o found = elim (cases_eq k n) [
      | inl own ↦
          let found_n = subst (λ k. slice_get outcomes (get_or places k 0 - 1) ≡ Some o) own found in
          let here = subst (λ k. get_or (slice_set told n p) k nothing_told ≡ p) (sym own) (get_or-set_same told n p nothing_told (omega (arith, within, size))) in
          subst (HasTold o (items ++ item ∷ [])) (sym here) (next o found_n)
      | inr apart ↦
          let here = get_or-set_other told n k p nothing_told apart in
          let number = number_of k few o found in
          subst (HasTold o (items ++ item ∷ [])) (sym here)
          (told_nothing o items (get_or told k nothing_told) (have k few o found) item (nothing_of_other o.tx item (λ same. apart (omega (arith, same, number, of_n)))))
    ]

-- at first nothing is told
pub none_told : (outcomes : List Outcome) (places : List ℕ) → HaveTold outcomes places (replicate (length places) nothing_told) []
none_told outcomes places k few o found = subst (HasTold o []) (sym (get_or-replicate (length places) k nothing_told nothing_told few)) (record { few = omega arith; ops = refl; closed = refl })

module _ (history : List TraceItem) (ordered : AreOrdered history) where
  -- an item of which outcomes tell, as it was read, is of a transaction that was begun
  pub begun_at : (i : ℕ) (item read : TraceItem) → i < length history → item ≡ get_or history i item → read ≡ item → is_told read ≡ true → (0 < tx_of read) × (tx_of read ≤ begin_count history)
  begun_at i item read within is same told =
      let there = slice_get_read history (length history) i item refl within is in
      let begun = told_of_begun (begin_count (take i history)) read (ordered i read (there ∙ ap Some (sym same))) told in
      let whole = ap begin_count (sym (take-append-drop i history)) ∙ ap length (begun_txs-append (take i history) (drop i history)) ∙ length-append (begun_txs (take i history)) (begun_txs (drop i history)) in
      (begun.0, omega (arith, begun.1, whole))

module _ (outcomes : List Outcome) (history : List TraceItem) (ordered : AreOrdered history) where
  module _ (numbers : NumbersAgree outcomes history) (places : List ℕ) (named : ArePlacesOf places outcomes) (size : length places ≡ begin_count history) where
    -- no number is above the last
    pub at_most : All (λ o. o.tx ≤ length places) outcomes
    at_most = ((numbers_are history (begun_in_order history ordered) outcomes (length places) size).0 numbers).0

    -- the place of a number names the outcome that has it
    found_at : (j : ℕ) (d : Outcome) → j < length outcomes → (get_or outcomes j d).tx ≢ 0 → slice_get outcomes (get_or places ((get_or outcomes j d).tx - 1) 0 - 1) ≡ Some (get_or outcomes j d)
    found_at j d within some =
        let o = get_or outcomes j d in
        let k = o.tx - 1 in
        let low : o.tx ≤ length places = All-get_or (λ o. o.tx ≤ length places) outcomes j d within at_most in
        let few : k < length places = omega (arith, low, some) in
        let n = named k few in
        let next : k + 1 ≡ o.tx = omega (arith, some) in
        let there = slice_get_within outcomes (get_or places k 0 - 1) n.0 n.2 in
        let named_is : get_or outcomes (get_or places k 0 - 1) d ≡ n.0 = same_Some _ _ (sym (slice_get-get_or outcomes (get_or places k 0 - 1) d there) ∙ n.2) in
        let once = ((numbers_are history (begun_in_order history ordered) outcomes (length places) size).0 numbers).1 k few in
        let same = one_place outcomes (k + 1) j (get_or places k 0 - 1) d once within there (sym next) (ap (λ (o : Outcome). o.tx) named_is ∙ n.3) in
        ap (slice_get outcomes) (sym same) ∙ slice_get-get_or outcomes j d within

    module _ (told : List Progress) (have : HaveTold outcomes places told history) where
      whole_at : (j : ℕ) (d : Outcome) → j < length outcomes → IsWholeIn told (get_or outcomes j d) ↔ IsOfHistory history (get_or outcomes j d)
      whole_at j d within =
          let o = get_or outcomes j d in
          let is = λ (some : o.tx ≢ 0).
          let low : o.tx ≤ length places = All-get_or (λ o. o.tx ≤ length places) outcomes j d within at_most in
          whole_is_closed o history (get_or told (o.tx - 1) nothing_told) (have (o.tx - 1) (omega (arith, low, some)) o (found_at j d within some)) in
          (λ whole some. (is some).0 (whole some), λ closed some. (is some).1 (closed some))

      pub all_whole : All (IsWholeIn told) outcomes ↔ All (IsOfHistory history) outcomes
      all_whole = (λ whole j d within. (whole_at j d within).0 (whole j d within), λ closed j d within. (whole_at j d within).1 (closed j d within))
