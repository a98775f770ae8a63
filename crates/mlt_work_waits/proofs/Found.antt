-- For whom a transaction waits, by a search
use Rattle.std.proofs.Common.{◌≡◌, ℕ, ◌==◌, Bool, true, false, is_some, cond, List, [], ◌∷◌, Option, None, Some, refl, sym, ◌∙◌, inl, inr, find, ap, option_map, eq-eqb, eqb-true}
use Rattle.std.{specs.Option.option_or, proofs.lemmas.Bool.false≢true}
use Rattle.mlt_work_waits.specs.declared.wait.Waiting.{Waiting}
use Rattle.mlt_work_waits.specs.Waits.{IsAmong, IsAwake, IsFor, Waits, holder_in, holder_of, wait_in}

abbrev in_more : Waiting → List Waiting → ℕ → Bool → Option ℕ
in_more first more x here = option_map (λ (wait : Waiting). wait.holder) (cond here (Some first) (find (λ (wait : Waiting). wait.waiter == x) more))

-- what is found is a wait of x,
found_is_among : (waits : List Waiting) (x y : ℕ) → holder_in waits x ≡ Some y → IsAmong waits x y
found_is_among [] x y found = let none : None ≡ Some y = found in cc
found_is_among (first ∷ more) x y found =
    elim (first.waiter == x) as (λ b. (first.waiter == x) ≡ b → in_more first more x b ≡ Some y → IsAmong (first ∷ more) x y) [
      | true ↦ λ is here. let same : Some first.holder ≡ Some y = here in inl (eqb-true first.waiter x is, cc)
      | false ↦ λ _ there. inr (found_is_among more x y there)
    ] refl found

abbrev first_of_more : Waiting → List Waiting → ℕ → Bool → Option Waiting
first_of_more first more x here = cond here (Some first) (wait_in more x)

-- it is a wait of x indeed,
found_is_of : (waits : List Waiting) (x : ℕ) (wait : Waiting) → wait_in waits x ≡ Some wait → wait.waiter ≡ x
found_is_of [] x wait found = let none : None ≡ Some wait = found in cc
found_is_of (first ∷ more) x wait found =
    elim (first.waiter == x) as (λ b. (first.waiter == x) ≡ b → first_of_more first more x b ≡ Some wait → wait.waiter ≡ x) [
      | true ↦ λ is here. let same : Some first ≡ Some wait = here in let one : first ≡ wait = cc in ap (λ (w : Waiting). w.waiter) (sym one) ∙ eqb-true first.waiter x is
      | false ↦ λ _ there. found_is_of more x wait there
    ] refl found

-- and where none is found, x waits for nobody
none_is_among : (waits : List Waiting) (x y : ℕ) → holder_in waits x ≡ None → IsAmong waits x y → ⊥
none_is_among [] x y none among = among
none_is_among (first ∷ more) x y none among =
    elim (first.waiter == x) as (λ b. (first.waiter == x) ≡ b → in_more first more x b ≡ None → ⊥) [
      | true ↦ λ _ some. let is : Some first.holder ≡ None = some in cc
      | false ↦ λ differ there. elim among [
        | inl here ↦ false≢true (sym differ ∙ eq-eqb first.waiter x here.0)
        | inr later ↦ none_is_among more x y there later
      ]
    ] refl none

pub found_is_for : (waits : Waits) (x y : ℕ) → holder_of waits x ≡ Some y → IsFor waits x y
found_is_for waits x y found =
    elim (holder_in waits.objects x) as (λ o. holder_in waits.objects x ≡ o → option_or o (holder_in waits.pages x) ≡ Some y → IsFor waits x y) [
      | None ↦ λ _ in_pages. inr (found_is_among waits.pages x y in_pages)
      | Some z ↦ λ is some. let same : Some z ≡ Some y = some in inl (found_is_among waits.objects x y (is ∙ same))
    ] refl found

pub none_is_for : (waits : Waits) (x y : ℕ) → holder_of waits x ≡ None → IsFor waits x y → ⊥
none_is_for waits x y none for =
    elim (holder_in waits.objects x) as (λ o. holder_in waits.objects x ≡ o → option_or o (holder_in waits.pages x) ≡ None → ⊥) [
      | None ↦ λ not_object not_page. elim for [ inl object ↦ none_is_among waits.objects x y not_object object | inr page ↦ none_is_among waits.pages x y not_page page ]
      | Some z ↦ λ _ some. let is : Some z ≡ None = some in cc
    ] refl none

-- the wait of x that is found is one for its holder
pub found_is_wait : (waits : List Waiting) (x : ℕ) (wait : Waiting) → wait_in waits x ≡ Some wait → (wait.waiter ≡ x) × IsAmong waits x wait.holder
found_is_wait waits x wait found = (found_is_of waits x wait found, found_is_among waits x wait.holder (ap (option_map (λ (w : Waiting). w.holder)) found))

-- x waits for nobody where no holder is found, and for the one that is found
pub awake_if : (waits : Waits) (x : ℕ) (found : Option ℕ) → found ≡ holder_of waits x → is_some found ≡ false → IsAwake waits x
awake_if waits x None is _ = λ y. none_is_for waits x y (sym is)
awake_if waits x (Some y) is none = absurd (false≢true (sym none))

pub waits_if : (waits : Waits) (x : ℕ) (found : Option ℕ) → found ≡ holder_of waits x → is_some found ≡ true → (y : ℕ) × IsFor waits x y
waits_if waits x None is some = absurd (false≢true some)
waits_if waits x (Some y) is _ = (y, found_is_for waits x y (sym is))
