-- What stands in a table after a change.
use Rattle.std.proofs.Common.{◌≡◌, ◌≢◌, ℕ, refl, sym, subst, inl, inr, eq-eqb, ne_eqb}
use Rattle.std.proofs.lemmas.Bool.{cases_eq}
use Rattle.mlt_order.specs.Tables.{table_with, SameElsewhere}

-- by cases on the number that changed
pub at_each : (i : ℕ) (F : ℕ → Type 0) → F i → ((j : ℕ) → j ≢ i → F j) → (j : ℕ) → F j
at_each i F here there j = elim (cases_eq i j) [ inl e ↦ subst F e here | inr n ↦ there j (λ e. n (sym e)) ]

module _ {X : Type 0} where
  pub with_entry-same : (table : ℕ → X) (i j : ℕ) (entry : X) → i ≡ j → table_with table i entry j ≡ entry
  with_entry-same table i j entry e = rw (eq-eqb i j e) refl

  pub with_entry-other : (table : ℕ → X) (i j : ℕ) (entry : X) → j ≢ i → table_with table i entry j ≡ table j
  with_entry-other table i j entry n = let m : i ≢ j = λ e. n (sym e) in rw (ne_eqb i j m) refl

  -- the entry is there, and all others are as before
  pub changed : (table : ℕ → X) (i : ℕ) (entry : X) → (table_with table i entry i ≡ entry) × SameElsewhere table (table_with table i entry) i
  changed table i entry = (with_entry-same table i i entry refl, λ j n. with_entry-other table i j entry n)
