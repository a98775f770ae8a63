-- A step that changes the size of a set breaks with the sizes of the set.
use Rattle.std.proofs.Common.{◌≡◌, ◌≢◌, ℕ, ◌+◌, Bool, true, false, cond, ◌&&◌, nat_eq, is_some, refl, sym, ap, subst, ◌∙◌, arith, MatchBool}
use Rattle.std.specs.FinMap as map
use Rattle.mlt_object_conflicts.proofs.Names.{Cell, ElementOp, ObjOp, ObjReply, Is, ElementStep, Base, Step, empty_base, state_at, with_state, ElementState, NoState, base_one_answer, state_here, step_to, ElementClass, Added, Removed, element_class, element_item, clashes, base_of_one, changes_told, on_element, told_size, BreaksAt, IsOfClass}
use Rattle.mlt_object_kinds.{specs.Bases.element_at, specs.Bases.element_cmp, specs.Bases.size_at, proofs.Sizes.size_of_empty, proofs.Sizes.size_with_element}
use Rattle.mlt_object_conflicts.{specs.Sizes.BreaksSizes, specs.Sizes.ConflictsWithSizes, specs.Sizes.CommutesWithSizes, specs.Sizes.counts, proofs.BaseCommutes.clash_free_commute}

-- each size may be asked for
size_step : (b : Base) (s : ℕ) → Step b (told_size s (size_at b s)) b
size_step b s = step_to b (told_size s (size_at b s)) NoState tt refl

same_told : (m n : ℕ) → ◌≡◌ {A = ObjReply} (Is m) (Is n) → m ≡ n
same_told m n e = cc

-- behind a step the size is another one than before it
break_behind : (b m : Base) (s : ℕ) (x : ObjOp × ObjReply) → Step b x m → size_at m s ≢ size_at b s → BreaksAt Step b x (told_size s (size_at m s))
break_behind b m s x h differ = (m, m, h, size_step m s, λ other k i. differ (same_told _ _ k.2))

-- and before it the size is another one than behind it
break_before : (b m : Base) (s : ℕ) (x : ObjOp × ObjReply) → Step b x m → size_at m s ≢ size_at b s → BreaksAt Step b (told_size s (size_at b s)) x
break_before b m s x h differ = (
  b,
  m,
  size_step b s,
  h,
  λ other k i.
      let one : other ≡ m = (base_one_answer b other m x.0 x.1 x.1 k h).1 in
      differ (ap (λ d. size_at d s) (sym one) ∙ sym (same_told _ _ i.2)),
)

-- ---- bases of one element

size_of_one : (s e : ℕ) (p : Bool) → size_at (base_of_one s e p) s ≡ cond p 1 0
size_of_one s e p =
    let count = size_with_element empty_base s e p in
    let none : element_at empty_base s e ≡ false = ap is_some (map.get-empty element_cmp (s, e)) in
    let count' : size_at (base_of_one s e p) s + 0 ≡ size_at empty_base s + cond p 1 0 = subst (λ b. size_at (base_of_one s e p) s + cond b 1 0 ≡ size_at empty_base s + cond p 1 0) none count in
    let empty = size_of_empty s in
    omega arith

size_then : (s e : ℕ) (p q : Bool) → size_at (with_state (base_of_one s e p) (Cell.Element s e) (ElementState q)) s ≡ cond q 1 0
size_then s e p q =
    let base = base_of_one s e p in
    let count = size_with_element base s e q in
    let here : state_at base (Cell.Element s e) ≡ ElementState p = state_here empty_base (Cell.Element s e) (ElementState p) tt in
    let is : element_at base s e ≡ p = cc in
    let count' : size_at (with_state base (Cell.Element s e) (ElementState q)) s + cond p 1 0 ≡ size_at base s + cond q 1 0 =
    subst (λ b. size_at (with_state base (Cell.Element s e) (ElementState q)) s + cond b 1 0 ≡ size_at base s + cond q 1 0) is count in
    let one = size_of_one s e p in
    omega arith

-- an operation on the element that changes whether it is there breaks
one_breaks : (s e : ℕ) (item : ElementOp × ObjReply) (p q : Bool) → ElementStep p item.0 item.1 q → ◌≢◌ {A = ℕ} (cond q 1 0) (cond p 1 0) →
    BreaksSizes (base_of_one s e p) s e item (cond p 1 0) (cond q 1 0)
one_breaks s e item p q step differ =
    let base = base_of_one s e p in
    let x = on_element s e item in
    let m = with_state base (Cell.Element s e) (ElementState q) in
    let here : state_at base (Cell.Element s e) ≡ ElementState p = state_here empty_base (Cell.Element s e) (ElementState p) tt in
    let is : p ≡ element_at base s e = cc in
    let h : Step base x m = step_to base x (ElementState q) (subst (λ b. ElementStep b item.0 item.1 q) is step) tt in
    let first = size_of_one s e p in
    let second = size_then s e p q in
    let apart : size_at m s ≢ size_at base s = λ same. differ (sym second ∙ same ∙ first) in (
      subst (λ n. BreaksAt Step base x (told_size s n)) second (break_behind base m s x h apart),
      subst (λ n. BreaksAt Step base (told_size s n) x) first (break_before base m s x h apart),
    )

pub added_breaks : (s e : ℕ) → BreaksSizes (base_of_one s e false) s e (element_item Added) 0 1
added_breaks s e = one_breaks s e (element_item Added) false true (tt, refl) (λ h. absurd (omega arith))

pub removed_breaks : (s e : ℕ) → BreaksSizes (base_of_one s e true) s e (element_item Removed) 1 0
removed_breaks s e = one_breaks s e (element_item Removed) true false (tt, refl) (λ h. absurd (omega arith))

-- ---- which classes conflict with sizes

-- an operation of a class that does not count clashes with no size
no_clash : (s e : ℕ) (item : ElementOp × ObjReply) (class : ElementClass) (t n : ℕ) → IsOfClass element_class item class → counts class ≡ false →
    (clashes (on_element s e item) (told_size t n) ≡ false) × (clashes (told_size t n) (on_element s e item) ≡ false)
no_clash s e item class t n is free =
    let not : changes_told (element_class item.0 item.1) (Is n) ≡ false = ap (λ c. changes_told c (Is n)) is ∙ free in
    let never : (b : Bool) → (b && changes_told (element_class item.0 item.1) (Is n)) ≡ false =
    λ b. ap (λ x. b && x) not ∙ elim b as (λ b. (b && false) ≡ false) [ true ↦ refl | false ↦ refl ] in
    (never (nat_eq s t), never (nat_eq t s))

pub uncounted_commute : (class : ElementClass) → counts class ≡ false → CommutesWithSizes class
uncounted_commute class free s e t n item is =
    let no = no_clash s e item class t n is free in
    (clash_free_commute (on_element s e item) (told_size t n) no.0, clash_free_commute (told_size t n) (on_element s e item) no.1)

pub others_do_not_count : (class : ElementClass) → class ≢ Added → class ≢ Removed → counts class ≡ false
others_do_not_count Added added removed = absurd (added refl)
others_do_not_count Removed added removed = absurd (removed refl)
others_do_not_count _ added removed = refl

pub counted_conflict : (class : ElementClass) → counts class ≡ true → ConflictsWithSizes class
counted_conflict Added is = let break = added_breaks 0 0 in (base_of_one 0 0 false, 0, 0, element_item Added, 0, 1, refl, break)
counted_conflict Removed is = let break = removed_breaks 0 0 in (base_of_one 0 0 true, 0, 0, element_item Removed, 1, 0, refl, break)
counted_conflict _ is = absurd (cc is)

pub counts_exact : (class : ElementClass) → MatchBool (counts class) (ConflictsWithSizes class) (CommutesWithSizes class)
counts_exact class =
    elim (counts class) as (λ b. counts class ≡ b → MatchBool b (ConflictsWithSizes class) (CommutesWithSizes class)) [
      | true ↦ counted_conflict class
      | false ↦ uncounted_commute class
    ] refl
