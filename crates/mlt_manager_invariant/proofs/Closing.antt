-- What is held and what runs once a transaction is closed
use Rattle.std.proofs.Common.{◌≡◌, ◌≢◌, ℕ, List, [], ◌∷◌, true, false, not, nat_eq, cond, refl, ap, ◌∙◌, filter}
use Rattle.mlt_manager_invariant.proofs.Names.{items_of, is_of_other, AllRunning, KeepsRunning}
use Rattle.mlt_order.proofs.Parts.{items_of-without_other, items_of-without_same, without}

filter_is_without : {P : Type 0} (i : ℕ) (xs : List (ℕ × P)) → filter (is_of_other i) xs ≡ without i xs
filter_is_without i [] = refl
filter_is_without i (x ∷ xs) =
    let rest = filter_is_without i xs in
    elim (nat_eq x.0 i) as (λ b. cond (not b) (x ∷ filter (is_of_other i) xs) (filter (is_of_other i) xs) ≡ cond b (without i xs) (x ∷ without i xs)) [
      | true ↦ rest
      | false ↦ ap (λ l. x ∷ l) rest
    ]

-- of the transaction nothing is left, and of others all
pub nothing_of : {P : Type 0} (i : ℕ) (xs : List (ℕ × P)) → items_of i (filter (is_of_other i) xs) ≡ []
nothing_of i xs = ap (items_of i) (filter_is_without i xs) ∙ items_of-without_same i xs

pub all_of_others : {P : Type 0} (i j : ℕ) (xs : List (ℕ × P)) → j ≢ i → items_of j (filter (is_of_other i) xs) ≡ items_of j xs
all_of_others i j xs ne = ap (items_of j) (filter_is_without i xs) ∙ items_of-without_other i j xs ne

-- one event after another leaves what both leave
pub one_after_another : (i : ℕ) (old mid new : AllRunning) → KeepsRunning i old mid → KeepsRunning i mid new → KeepsRunning i old new
one_after_another i old mid new first later = record {
  may = later.may;
  views = λ u ne. later.views u ne ∙ first.views u ne;
  images = λ u ne. later.images u ne ∙ first.images u ne;
  holders = λ u ne. later.holders u ne ∙ first.holders u ne;
}
