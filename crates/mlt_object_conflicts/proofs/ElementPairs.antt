-- The rows of elements, and which classes right commute backward: one tactic serves every pair.
use Rattle.std.proofs.Common.{◌≡◌, ℕ, Bool, true, false, refl, arith}
use Rattle.mlt_object_conflicts.proofs.Names.{IsLegalOnElement, element_after, ElementOp, Add, ObjReply, ElementClass, Added, Removed, element_class, element_marks, element_before}
use Rattle.mlt_object_conflicts.proofs.Rows.{RowIsLegal, row_after, HasRows}

-- where a class is legal; it has no amount
abbrev pub Legal : ElementClass → ℕ → Bool → Type 0
Legal c n s = element_before c ≡ s

-- what it leaves there
abbrev pub left_by : ElementClass → Bool → Bool
left_by Added s = true
left_by Removed s = false
left_by _ s = s

abbrev pub after : ElementClass → ℕ → Bool → Bool
after c n s = left_by c s

abbrev pub Fits : ElementOp → Type 0
Fits _ = Unit {0}

abbrev pub amount : ElementOp → ObjReply → ℕ
amount _ _ = 0

abbrev RowLegal : ElementOp → ObjReply → Bool → Type 0
RowLegal o r s = RowIsLegal element_class IsLegalOnElement element_after amount Fits Legal after (element_class o r) 0 s

abbrev Fitting : ElementOp → ObjReply → Bool → Type 0
Fitting o r s =
    (IsLegalOnElement o r s → RowLegal o r s) × (RowLegal o r s → IsLegalOnElement o r s) ×
    (RowLegal o r s → element_after o r s ≡ row_after element_class IsLegalOnElement element_after amount Fits Legal after (element_class o r) 0 s)

fitting : (o : ElementOp) (r : ObjReply) (s : Bool) → Fitting o r s
fitting o r s =
    elim o as (λ o. Fitting o r s) [
      | Add ↦ elim r as (λ r. Fitting Add r s) [
        | ObjReply.Added ↦ elim s as (λ s. Fitting Add ObjReply.Added s) [ true ↦ (λ h. grind arith, λ h. grind arith, λ h. refl) | false ↦ (λ h. grind arith, λ h. grind arith, λ h. refl) ]
        | r ↦ elim s as (λ s. Fitting Add r s) [ true ↦ (λ h. grind arith, λ h. grind arith, λ h. refl) | false ↦ (λ h. grind arith, λ h. grind arith, λ h. refl) ]
      ]
      | o ↦ elim r as (λ r. Fitting o r s) [
        | ObjReply.Added ↦ elim s as (λ s. Fitting o ObjReply.Added s) [ true ↦ (λ h. grind arith, λ h. grind arith, λ h. refl) | false ↦ (λ h. grind arith, λ h. grind arith, λ h. refl) ]
        | r ↦ elim s as (λ s. Fitting o r s) [ true ↦ (λ h. grind arith, λ h. grind arith, λ h. refl) | false ↦ (λ h. grind arith, λ h. grind arith, λ h. refl) ]
      ]
    ]

pub element_has_rows : HasRows element_class IsLegalOnElement element_after amount Fits Legal after
element_has_rows = record {
  into = λ o r s h. ((fitting o r s).0 h, tt);
  from = λ o r s h f. (fitting o r s).1 h;
  next = λ o r s h. (fitting o r s).2 h;
}

abbrev Commute : ElementClass → ElementClass → Bool → Type 0
Commute p q s =
    element_marks p q ≡ false → element_before p ≡ s → element_before q ≡ left_by p s →
    (element_before q ≡ s) × (element_before p ≡ left_by q s) × (left_by q (left_by p s) ≡ left_by p (left_by q s))

rows_commute : (p q : ElementClass) (s : Bool) → Commute p q s
rows_commute p q s =
    elim p as (λ p. Commute p q s) [
      | Added ↦ elim q as (λ q. Commute Added q s) [
        | Added ↦ elim s as (λ s. Commute Added Added s) [ true ↦ λ e h i. (cc, cc, cc) | false ↦ λ e h i. (cc, cc, cc) ]
        | q ↦ elim s as (λ s. Commute Added q s) [ true ↦ λ e h i. (cc, cc, cc) | false ↦ λ e h i. (cc, cc, cc) ]
      ]
      | p ↦ elim q as (λ q. Commute p q s) [
        | Added ↦ elim s as (λ s. Commute p Added s) [ true ↦ λ e h i. (cc, cc, cc) | false ↦ λ e h i. (cc, cc, cc) ]
        | q ↦ elim s as (λ s. Commute p q s) [ true ↦ λ e h i. (cc, cc, cc) | false ↦ λ e h i. (cc, cc, cc) ]
      ]
    ]

-- classes that are not marked right commute backward
pub element_rows_commute : (p q : ElementClass) → element_marks p q ≡ false → (n k : ℕ) (s : Bool) → Legal p n s → Legal q k (after p n s) →
    Legal q k s × Legal p n (after q k s) × (after q k (after p n s) ≡ after p n (after q k s))
element_rows_commute p q free n k s h i = rows_commute p q s free h i

abbrev Breaks : ElementClass → ElementClass → Type 0
Breaks p q =
    element_marks p q ≡ true → (element_before q ≡ left_by p (element_before p)) ×
    (element_before q ≡ element_before p → element_before p ≡ left_by q (element_before p) → ⊥)

breaks : (p q : ElementClass) → Breaks p q
breaks p q =
    elim p as (λ p. Breaks p q) [
      | Added ↦ elim q as (λ q. Breaks Added q) [ Added ↦ λ e. (cc, λ h i. cc) | _ ↦ λ e. (cc, λ h i. cc) ]
      | p ↦ elim q as (λ q. Breaks p q) [ Added ↦ λ e. (cc, λ h i. cc) | _ ↦ λ e. (cc, λ h i. cc) ]
    ]

-- marked classes break in the state where the held one is legal
pub element_rows_break : (p q : ElementClass) → element_marks p q ≡ true → let s = element_before p in
    Legal p 0 s × Legal q 0 (left_by p s) × (Legal q 0 s → Legal p 0 (left_by q s) → left_by q (left_by p s) ≡ left_by p (left_by q s) → ⊥)
element_rows_break p q marked = let t = breaks p q marked in (refl, t.0, λ h i e. t.1 h i)
