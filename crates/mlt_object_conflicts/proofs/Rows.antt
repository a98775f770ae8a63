-- A kind whose table has rows: where a class with an amount is legal, and what it leads to. What is shown of classes and
-- amounts holds of operations and replies.
use Rattle.std.proofs.Common.{◌≡◌, ℕ, Bool, false, Option, None, Some, refl, sym, ap, subst, ◌∙◌}
use Rattle.mlt_object_conflicts.proofs.Names.{RightCommutesBackward, marked_classes, paired, IsOfClass, BreaksAt, ClassesCommute}

module _ {S O R C : Type 0}
    (class_of : O → R → Option C) (IsLegal : O → R → S → Type 0) (next_of : O → R → S → S)
    (amount : O → R → ℕ) (Fits : O → Type 0) (Legal : C → ℕ → S → Type 0) (after : C → ℕ → S → S) where
  -- where a row is legal
  abbrev pub RowIsLegal : Option C → ℕ → S → Type 0
  RowIsLegal None n s = ⊥
  RowIsLegal (Some c) n s = Legal c n s

  -- what a row leads to
  abbrev pub row_after : Option C → ℕ → S → S
  row_after None n s = s
  row_after (Some c) n s = after c n s

  -- the step by the kind's definitions
  abbrev pub StepBy : S → O → R → S → Type 0
  StepBy before op reply after = IsLegal op reply before × (next_of op reply before ≡ after)

  -- the rows are those of the kind's definitions
  pub record HasRows : Type 0 where
    pub into : (o : O) (r : R) (s : S) → IsLegal o r s → RowIsLegal (class_of o r) (amount o r) s × Fits o
    pub from : (o : O) (r : R) (s : S) → RowIsLegal (class_of o r) (amount o r) s → Fits o → IsLegal o r s
    pub next : (o : O) (r : R) (s : S) → RowIsLegal (class_of o r) (amount o r) s → next_of o r s ≡ row_after (class_of o r) (amount o r) s

  -- classes with amounts commute in every state
  abbrev pub RowsCommute : C → C → Type 0
  RowsCommute p q =
      (n k : ℕ) (s : S) → Legal p n s → Legal q k (after p n s) →
      Legal q k s × Legal p n (after q k s) × (after q k (after p n s) ≡ after p n (after q k s))

  -- classes with amounts break in a state
  abbrev pub RowsBreak : C → C → ℕ → ℕ → S → Type 0
  RowsBreak p q n k s =
      Legal p n s × Legal q k (after p n s) ×
      (Legal q k s → Legal p n (after q k s) → after q k (after p n s) ≡ after p n (after q k s) → ⊥)

  module _ (rows : HasRows) where
    -- a step of an operation of a class, as its row
    step_into : (x : O × R) (c : C) (s t : S) → IsOfClass class_of x c → StepBy s x.0 x.1 t → Legal c (amount x.0 x.1) s × Fits x.0 × (after c (amount x.0 x.1) s ≡ t)
    step_into x c s t is h =
        let legal = rows.into x.0 x.1 s h.0 in
        let F : Option C → Type 0 = λ row. RowIsLegal row (amount x.0 x.1) s in
        let G : Option C → Type 0 = λ row. row_after row (amount x.0 x.1) s ≡ t in
        (subst F is legal.0, legal.1, subst G is (sym (rows.next x.0 x.1 s legal.0) ∙ h.1))

    step_from : (x : O × R) (c : C) (s : S) → IsOfClass class_of x c → Legal c (amount x.0 x.1) s → Fits x.0 → StepBy s x.0 x.1 (after c (amount x.0 x.1) s)
    step_from x c s is legal fits =
        let F : Option C → Type 0 = λ row. RowIsLegal row (amount x.0 x.1) s in
        let G : Option C → Type 0 = λ row. next_of x.0 x.1 s ≡ row_after row (amount x.0 x.1) s in
        let row = subst F (sym is) legal in
        (rows.from x.0 x.1 s row fits, subst G is (rows.next x.0 x.1 s row))

    pub classes_commute : (p q : C) → RowsCommute p q → ClassesCommute StepBy class_of p q
    classes_commute p q commute x y x_is y_is b m s h i =
        let n = amount x.0 x.1 in
        let k = amount y.0 y.1 in
        let first = step_into x p b m x_is h in
        let second = step_into y q m s y_is i in
        let F : S → Type 0 = Legal q k in
        let t = commute n k b first.0 (subst F (sym first.2) second.0) in
        let other = after q k b in
        let back = step_from x p other x_is t.1 first.1 in
        (other, step_from y q b y_is t.0 second.1, (back.0, back.1 ∙ sym t.2 ∙ ap (after q k) first.2 ∙ second.2))

    pub classes_break : (p q : C) (x y : O × R) (s : S) → IsOfClass class_of x p → IsOfClass class_of y q → Fits x.0 → Fits y.0 →
        RowsBreak p q (amount x.0 x.1) (amount y.0 y.1) s → BreaksAt (paired StepBy) s x y
    classes_break p q x y s x_is y_is x_fits y_fits break =
        let n = amount x.0 x.1 in
        let k = amount y.0 y.1 in
        let middle = after p n s in (
          middle,
          after q k middle,
          step_from x p s x_is break.0 x_fits,
          step_from y q middle y_is break.1 y_fits,
          λ other h i.
              let second = step_into y q s other y_is h in
              let first = step_into x p other (after q k middle) x_is i in
              let F : S → Type 0 = Legal p n in
              break.2 second.0 (subst F (sym second.2) first.0) (sym first.2 ∙ ap (after p n) (sym second.2)),
        )

    -- items whose classes are not marked commute, and those without a class are never legal
    pub items_commute : (marks : C → C → Bool) → ((p q : C) → marks p q ≡ false → RowsCommute p q) →
        (x y : O × R) → marked_classes marks (class_of x.0 x.1) (class_of y.0 y.1) ≡ false → RightCommutesBackward (paired StepBy) x y
    items_commute marks sound x y free =
        let Goal : Option C → Option C → Type 0 = λ p q.
        class_of x.0 x.1 ≡ p → class_of y.0 y.1 ≡ q → marked_classes marks p q ≡ false → RightCommutesBackward (paired StepBy) x y in
        let none : (z : O × R) (s t : S) → class_of z.0 z.1 ≡ None → StepBy s z.0 z.1 t → ⊥ = λ z s t is h.
        let F : Option C → Type 0 = λ row. RowIsLegal row (amount z.0 z.1) s in
        subst F is (rows.into z.0 z.1 s h.0).0 in
        elim (class_of x.0 x.1) as (λ p. Goal p (class_of y.0 y.1)) [
          | None ↦ λ p_is q_is e b m s h i. absurd (none x b m p_is h)
          | Some p ↦ elim (class_of y.0 y.1) as (λ q. Goal (Some p) q) [
            | None ↦ λ p_is q_is e b m s h i. absurd (none y m s q_is i)
            | Some q ↦ λ p_is q_is e. classes_commute p q (sound p q e) x y p_is q_is
          ]
        ] refl refl free
