-- What breaks on one cell breaks over whole bases.
use Rattle.std.proofs.Common.{◌≡◌, ◌⊎◌, ℕ, Bool, true, false, ◌&&◌, Option, None, Some, nat_eq, refl, sym, ap, subst, ◌∙◌, inl, inr, ne_eqb, MatchBool}
use Rattle.mlt_object_conflicts.proofs.Names.{cases_eq, Cell, ObjOp, Account, Element, Counter, Size, AccountOp, ElementOp, CounterOp, ObjReply, Is, AccountStep, ElementStep, CounterStep, CellStep, AccountState, ElementState, CounterState, NoState, Base, Step, state_at, with_state, empty_base, step_to, state_here, RightCommutesBackward, ElementClass, Added, Removed, account_class, account_marks, element_class, element_item, element_marks, counter_class, counter_marks, clashes, marked_classes, base_of_one, changes_told, on_element, told_size, paired, BreaksAt, ClassesConflict}
use Rattle.mlt_object_kinds.{specs.Cells.CellState, specs.Bases.TellsSize, proofs.BaseLaws.cell_step_states, specs.Operations.cell_of}
use Rattle.mlt_object_conflicts.{proofs.BaseCommutes.clash_free_commute, proofs.SizeBreaks.added_breaks, proofs.SizeBreaks.removed_breaks, specs.BaseConflicts.IsLike, specs.BaseConflicts.SomeLikeThemBreak, specs.Sizes.tells_size, proofs.AccountExact.account_exact, proofs.ElementExact.element_exact, proofs.CounterExact.counter_exact}

-- the operation asks for no size, and so is told none
abbrev AsksNoSize : ObjOp → Type 0
AsksNoSize (Size s) = ⊥
AsksNoSize _ = Unit {0}

told_of_none : (b : Base) (x : ObjOp × ObjReply) → AsksNoSize x.0 → TellsSize b x
told_of_none b (Size s, reply) asks = absurd asks
told_of_none b (Account a o, reply) asks = tt
told_of_none b (Element s e o, reply) asks = tt
told_of_none b (Counter c o, reply) asks = tt

-- from a breach on a cell, one over bases
breaks_over_bases : (p q : ObjOp × ObjReply) (s : CellState) → AsksNoSize p.0 → AsksNoSize q.0 → cell_of p.0 ≡ cell_of q.0 → BreaksAt CellStep s p q →
    (base : Base) × BreaksAt Step base p q
breaks_over_bases p q s p_asks q_asks one break =
    let c = cell_of p.0 in
    let d = cell_of q.0 in
    let states = cell_step_states p s break.0 break.2 in
    let base = with_state empty_base c s in
    let here : state_at base c ≡ s = state_here empty_base c s states.0 in
    let middle = with_state base c break.0 in
    let middle_here : state_at middle c ≡ break.0 = state_here base c break.0 states.1 in
    let first : Step base p middle = step_to base p break.0 (subst (λ x. CellStep x p break.0) (sym here) break.2) (told_of_none base p p_asks) in
    let middle_there : state_at middle d ≡ break.0 = subst (λ (x : Cell). state_at middle x ≡ break.0) one middle_here in
    let after = with_state middle d break.1 in
    let second : Step middle q after = step_to middle q break.1 (subst (λ x. CellStep x q break.1) (sym middle_there) break.3) (told_of_none middle q q_asks) in
    let after_there : state_at after d ≡ break.1 = state_here middle d break.1 (cell_step_states q break.0 break.1 break.3).1 in
    let there : state_at base d ≡ s = subst (λ (x : Cell). state_at base x ≡ s) one here in (
      base,
      (
        middle,
        after,
        first,
        second,
        λ other h i.
            let h' : CellStep s q (state_at other d) = subst (λ x. CellStep x q (state_at other d)) there h.0 in
            let i' : CellStep (state_at other d) p (state_at after d) = subst (λ (x : Cell). CellStep (state_at other x) p (state_at after x)) one i.0 in
            break.4 (state_at other d) h' (subst (CellStep (state_at other d) p) after_there i'),
      ),
    )

account_breaks : (a b : ℕ) (s : Option ℕ) (x y : AccountOp × ObjReply) → BreaksAt (paired AccountStep) s x y →
    BreaksAt CellStep (AccountState s) (Account a x.0, x.1) (Account b y.0, y.1)
account_breaks a b s x y break = (
  AccountState break.0,
  AccountState break.1,
  break.2,
  break.3,
  λ other. elim other as (λ o. CellStep (AccountState s) (Account b y.0, y.1) o → CellStep o (Account a x.0, x.1) (AccountState break.1) → ⊥) [
    | AccountState t ↦ break.4 t
    | ElementState t ↦ λ h i. h
    | CounterState t ↦ λ h i. h
    | NoState ↦ λ h i. h
  ],
)

element_breaks : (s e t f : ℕ) (b : Bool) (x y : ElementOp × ObjReply) → BreaksAt (paired ElementStep) b x y →
    BreaksAt CellStep (ElementState b) (Element s e x.0, x.1) (Element t f y.0, y.1)
element_breaks s e t f b x y break = (
  ElementState break.0,
  ElementState break.1,
  break.2,
  break.3,
  λ other. elim other as (λ o. CellStep (ElementState b) (Element t f y.0, y.1) o → CellStep o (Element s e x.0, x.1) (ElementState break.1) → ⊥) [
    | AccountState t ↦ λ h i. h
    | ElementState t ↦ break.4 t
    | CounterState t ↦ λ h i. h
    | NoState ↦ λ h i. h
  ],
)

counter_breaks : (c d : ℕ) (s : ℕ) (x y : CounterOp × ObjReply) → BreaksAt (paired CounterStep) s x y →
    BreaksAt CellStep (CounterState s) (Counter c x.0, x.1) (Counter d y.0, y.1)
counter_breaks c d s x y break = (
  CounterState break.0,
  CounterState break.1,
  break.2,
  break.3,
  λ other. elim other as (λ o. CellStep (CounterState s) (Counter d y.0, y.1) o → CellStep o (Counter c x.0, x.1) (CounterState break.1) → ⊥) [
    | AccountState t ↦ λ h i. h
    | ElementState t ↦ λ h i. h
    | CounterState t ↦ break.4 t
    | NoState ↦ λ h i. h
  ],
)

module _ {S O R C : Type 0} (step : S → O → R → S → Type 0) (class_of : O → R → Option C) (marks : C → C → Bool)
    (exact : (p q : C) → marks p q ≡ true → ClassesConflict step class_of p q) where
  -- items of the classes of these break at some state
  abbrev pub LikeItemsBreak : O × R → O × R → Type 0
  LikeItemsBreak x y =
      (s : S) × (first : O × R) × (second : O × R) × (class_of first.0 first.1 ≡ class_of x.0 x.1) × (class_of second.0 second.1 ≡ class_of y.0 y.1) ×
      BreaksAt (paired step) s first second

  pub like_items_break : (x y : O × R) → marked_classes marks (class_of x.0 x.1) (class_of y.0 y.1) ≡ true → LikeItemsBreak x y
  like_items_break x y marked =
      let Goal : Option C → Option C → Type 0 = λ p q.
      class_of x.0 x.1 ≡ p → class_of y.0 y.1 ≡ q → marked_classes marks p q ≡ true → LikeItemsBreak x y in
      elim (class_of x.0 x.1) as (λ p. Goal p (class_of y.0 y.1)) [
        | None ↦ λ p_is q_is e. absurd (cc e)
        | Some p ↦ elim (class_of y.0 y.1) as (λ q. Goal (Some p) q) [
          | None ↦ λ p_is q_is e. absurd (cc e)
          | Some q ↦ λ p_is q_is e. let t = exact p q e in (t.0, t.1, t.2, t.3 ∙ sym p_is, t.4 ∙ sym q_is, t.5)
        ]
      ] refl refl marked

account_conflict : (p q : _) → account_marks p q ≡ true → ClassesConflict AccountStep account_class p q
account_conflict p q e = rw e at (account_exact p q)

element_conflict : (p q : _) → element_marks p q ≡ true → ClassesConflict ElementStep element_class p q
element_conflict p q e = rw e at (element_exact p q)

counter_conflict : (p q : _) → counter_marks p q ≡ true → ClassesConflict CounterStep counter_class p q
counter_conflict p q e = rw e at (counter_exact p q)

-- a test that holds, held
held_test : (b c : Bool) → (b && c) ≡ true → (b ≡ true) × (c ≡ true)
held_test true c e = (refl, e)
held_test false c e = absurd (cc e)

-- numbers that compare equal are equal
same_number : (a b : ℕ) → nat_eq a b ≡ true → a ≡ b
same_number a b e = elim (cases_eq a b) [ inl same ↦ same | inr n ↦ absurd (let f = rw (ne_eqb a b n) at e in cc f) ]

-- a size that is changed is told by a number, and an operation that changes it adds or removes
told_by_a_number : (class : Option ElementClass) (a : ObjReply) → changes_told class a ≡ true → tells_size a ≡ true
told_by_a_number class (Is n) changes = refl
told_by_a_number None a changes = absurd (cc changes)
told_by_a_number (Some c) a changes = absurd (cc changes)

counted_classes : (class : Option ElementClass) (a : ObjReply) → changes_told class a ≡ true → (class ≡ Some Added) ⊎ (class ≡ Some Removed)
counted_classes (Some Added) a changes = inl refl
counted_classes (Some Removed) a changes = inr refl
counted_classes None a changes = absurd (cc changes)
counted_classes (Some c) (Is n) changes = absurd (cc changes)
counted_classes (Some c) a changes = absurd (cc changes)

-- where operations clash, some like them break
pub clashing_break : (held requested : ObjOp × ObjReply) → clashes held requested ≡ true → SomeLikeThemBreak held requested
clashing_break (Account a op, reply) (Account b other, answer) clash =
    let test = held_test (nat_eq a b) (marked_classes account_marks (account_class op reply) (account_class other answer)) clash in
    let t = like_items_break AccountStep account_class account_marks account_conflict (op, reply) (other, answer) test.1 in
    let first : ObjOp × ObjReply = (Account a t.1.0, t.1.1) in
    let second : ObjOp × ObjReply = (Account b t.2.0, t.2.1) in
    let base = breaks_over_bases first second (AccountState t.0) tt tt (ap Cell.Account (same_number a b test.0)) (account_breaks a b t.0 t.1 t.2 t.5) in
    (base.0, first, second, (refl, t.3), (refl, t.4), base.1)
clashing_break (Element s e op, reply) (Element t f other, answer) clash =
    let marked = marked_classes element_marks (element_class op reply) (element_class other answer) in
    let test = held_test (nat_eq s t && nat_eq e f) marked clash in
    let same = held_test (nat_eq s t) (nat_eq e f) test.0 in
    let u = like_items_break ElementStep element_class element_marks element_conflict (op, reply) (other, answer) test.1 in
    let first : ObjOp × ObjReply = (Element s e u.1.0, u.1.1) in
    let second : ObjOp × ObjReply = (Element t f u.2.0, u.2.1) in
    let sets = same_number s t same.0 in
    let elements = same_number e f same.1 in
    let base = breaks_over_bases first second (ElementState u.0) tt tt (λ i. Cell.Element (sets i) (elements i)) (element_breaks s e t f u.0 u.1 u.2 u.5) in
    (base.0, first, second, (refl, u.3), (refl, u.4), base.1)
clashing_break (Counter c op, reply) (Counter d other, answer) clash =
    let test = held_test (nat_eq c d) (marked_classes counter_marks (counter_class op reply) (counter_class other answer)) clash in
    let t = like_items_break CounterStep counter_class counter_marks counter_conflict (op, reply) (other, answer) test.1 in
    let first : ObjOp × ObjReply = (Counter c t.1.0, t.1.1) in
    let second : ObjOp × ObjReply = (Counter d t.2.0, t.2.1) in
    let base = breaks_over_bases first second (CounterState t.0) tt tt (ap Cell.Counter (same_number c d test.0)) (counter_breaks c d t.0 t.1 t.2 t.5) in
    (base.0, first, second, (refl, t.3), (refl, t.4), base.1)
clashing_break (Element s e op, reply) (Size t, answer) clash =
    let test = held_test (nat_eq s t) (changes_told (element_class op reply) answer) clash in
    let sizes : (n : ℕ) → IsLike (told_size t n) (Size t, answer) = λ n. (refl, sym (told_by_a_number _ answer test.1)) in
    elim (counted_classes (element_class op reply) answer test.1) [
      | inl added ↦
          let break = (added_breaks s e).0 in
          (base_of_one s e false, on_element s e (element_item Added), told_size t 1, (refl, sym added), sizes 1, subst (λ u. BreaksAt Step (base_of_one s e false) (on_element s e (element_item Added)) (told_size u 1)) (same_number s t test.0) break)
      | inr removed ↦
          let break = (removed_breaks s e).0 in
          (base_of_one s e true, on_element s e (element_item Removed), told_size t 0, (refl, sym removed), sizes 0, subst (λ u. BreaksAt Step (base_of_one s e true) (on_element s e (element_item Removed)) (told_size u 0)) (same_number s t test.0) break)
    ]
clashing_break (Size s, reply) (Element t f other, answer) clash =
    let test = held_test (nat_eq s t) (changes_told (element_class other answer) reply) clash in
    let sizes : (n : ℕ) → IsLike (told_size s n) (Size s, reply) = λ n. (refl, sym (told_by_a_number _ reply test.1)) in
    elim (counted_classes (element_class other answer) reply test.1) [
      | inl added ↦
          let break = (added_breaks t f).1 in
          (base_of_one t f false, told_size s 0, on_element t f (element_item Added), sizes 0, (refl, sym added), subst (λ u. BreaksAt Step (base_of_one t f false) (told_size u 0) (on_element t f (element_item Added))) (sym (same_number s t test.0)) break)
      | inr removed ↦
          let break = (removed_breaks t f).1 in
          (base_of_one t f true, told_size s 1, on_element t f (element_item Removed), sizes 1, (refl, sym removed), subst (λ u. BreaksAt Step (base_of_one t f true) (told_size u 1) (on_element t f (element_item Removed))) (sym (same_number s t test.0)) break)
    ]
clashing_break (Account a op, reply) (Element t f other, answer) clash = absurd (cc clash)
clashing_break (Account a op, reply) (Counter d other, answer) clash = absurd (cc clash)
clashing_break (Account a op, reply) (Size t, answer) clash = absurd (cc clash)
clashing_break (Element s e op, reply) (Account b other, answer) clash = absurd (cc clash)
clashing_break (Element s e op, reply) (Counter d other, answer) clash = absurd (cc clash)
clashing_break (Counter c op, reply) (Account b other, answer) clash = absurd (cc clash)
clashing_break (Counter c op, reply) (Element t f other, answer) clash = absurd (cc clash)
clashing_break (Counter c op, reply) (Size t, answer) clash = absurd (cc clash)
clashing_break (Size s, reply) (Account b other, answer) clash = absurd (cc clash)
clashing_break (Size s, reply) (Counter d other, answer) clash = absurd (cc clash)
clashing_break (Size s, reply) (Size t, answer) clash = absurd (cc clash)

-- a test of clashes is exact
pub clash_exact : (held requested : ObjOp × ObjReply) → MatchBool (clashes held requested) (SomeLikeThemBreak held requested) (RightCommutesBackward Step held requested)
clash_exact held requested =
    elim (clashes held requested) as (λ b. clashes held requested ≡ b → MatchBool b (SomeLikeThemBreak held requested) (RightCommutesBackward Step held requested)) [
      | true ↦ clashing_break held requested
      | false ↦ clash_free_commute held requested
    ] refl
