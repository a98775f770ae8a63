-- The laws of the table of accounts: one answer, one start, and states stay in range.
use Rattle.std.proofs.Common.{◌≡◌, ℕ, ◌+◌, Option, None, Some, refl, sym, ◌∙◌, ap, subst, arith}
use Rattle.mlt_object_kinds.specs.{declared.account.AccountOp.AccountOp, declared.account.AccountOp.TheVariants.Open, declared.operation.ObjReply.ObjReply, declared.operation.ObjReply.TheVariants.Opened, Accounts.AccountStep, Accounts.IsAccount, Accounts.IsLegalOnAccount, Accounts.account_after}

abbrev OneReply : Option ℕ → AccountOp → ObjReply → ObjReply → Type 0
OneReply s o r q = IsLegalOnAccount o r s → IsLegalOnAccount o q s → r ≡ q

replies_none : (o : AccountOp) (r q : ObjReply) → OneReply None o r q
replies_none o r q =
    elim o as (λ o. OneReply None o r q) [
      | Open ↦ elim r as (λ r. OneReply None Open r q) [
        | Opened ↦ elim q as (λ q. OneReply None Open Opened q) [
          | Opened ↦ λ h i. first_of (cc, grind arith)
          | _ ↦ λ h i. first_of (cc, grind arith)
        ]
        | r ↦ elim q as (λ q. OneReply None Open r q) [
          | Opened ↦ λ h i. first_of (cc, grind arith)
          | _ ↦ λ h i. first_of (cc, grind arith)
        ]
      ]
      | o ↦ elim r as (λ r. OneReply None o r q) [
        | Opened ↦ elim q as (λ q. OneReply None o Opened q) [
          | Opened ↦ λ h i. first_of (cc, grind arith)
          | _ ↦ λ h i. first_of (cc, grind arith)
        ]
        | r ↦ elim q as (λ q. OneReply None o r q) [
          | Opened ↦ λ h i. first_of (cc, grind arith)
          | _ ↦ λ h i. first_of (cc, grind arith)
        ]
      ]
    ]

replies_some : (b : ℕ) (o : AccountOp) (r q : ObjReply) → OneReply (Some b) o r q
replies_some b o r q =
    elim o as (λ o. OneReply (Some b) o r q) [
      | Open ↦ elim r as (λ r. OneReply (Some b) Open r q) [
        | Opened ↦ elim q as (λ q. OneReply (Some b) Open Opened q) [
          | Opened ↦ λ h i. first_of (cc, grind arith)
          | _ ↦ λ h i. first_of (cc, grind arith)
        ]
        | r ↦ elim q as (λ q. OneReply (Some b) Open r q) [
          | Opened ↦ λ h i. first_of (cc, grind arith)
          | _ ↦ λ h i. first_of (cc, grind arith)
        ]
      ]
      | o ↦ elim r as (λ r. OneReply (Some b) o r q) [
        | Opened ↦ elim q as (λ q. OneReply (Some b) o Opened q) [
          | Opened ↦ λ h i. first_of (cc, grind arith)
          | _ ↦ λ h i. first_of (cc, grind arith)
        ]
        | r ↦ elim q as (λ q. OneReply (Some b) o r q) [
          | Opened ↦ λ h i. first_of (cc, grind arith)
          | _ ↦ λ h i. first_of (cc, grind arith)
        ]
      ]
    ]

one_reply : (s : Option ℕ) (o : AccountOp) (r q : ObjReply) → OneReply s o r q
one_reply s o r q = elim s as (λ s. OneReply s o r q) [ None ↦ replies_none o r q | Some b ↦ replies_some b o r q ]

pub account_one_answer : (s : Option ℕ) (o : AccountOp) (r q : ObjReply) (t u : Option ℕ)
    → AccountStep s o r t → AccountStep s o q u → (r ≡ q) × (t ≡ u)
account_one_answer s o r q t u h k =
    let same : r ≡ q = one_reply s o r q h.0 k.0 in
    (same, sym h.1 ∙ ap (λ r. account_after o r s) same ∙ k.1)

-- a state as a number, 0 where it is absent
abbrev pub level : Option ℕ → ℕ
level None = 0
level (Some b) = b + 1

pub level_injective : (s t : Option ℕ) → level s ≡ level t → s ≡ t
level_injective None None e = refl
level_injective None (Some c) e = absurd (omega arith)
level_injective (Some b) None e = absurd (omega arith)
level_injective (Some b) (Some c) e = let same : b ≡ c = omega arith in ap Some same

abbrev OneStart : AccountOp → ObjReply → Option ℕ → Option ℕ → Type 0
OneStart o r s u = IsLegalOnAccount o r s → IsLegalOnAccount o r u → level (account_after o r s) ≡ level (account_after o r u) → level s ≡ level u

starts : (o : AccountOp) (r : ObjReply) (s u : Option ℕ) → OneStart o r s u
starts o r s u =
    elim o as (λ o. OneStart o r s u) [
      | Open ↦ elim r as (λ r. OneStart Open r s u) [
        | Opened ↦ elim s as (λ s. OneStart Open Opened s u) [
          | None ↦ elim u as (λ u. OneStart Open Opened None u) [
            | None ↦ λ h i e. first_of (omega arith, cc)
            | Some c ↦ λ h i e. first_of (omega arith, cc)
          ]
          | Some b ↦ elim u as (λ u. OneStart Open Opened (Some b) u) [
            | None ↦ λ h i e. first_of (omega arith, cc)
            | Some c ↦ λ h i e. first_of (omega arith, cc)
          ]
        ]
        | r ↦ elim s as (λ s. OneStart Open r s u) [
          | None ↦ elim u as (λ u. OneStart Open r None u) [
            | None ↦ λ h i e. first_of (omega arith, cc)
            | Some c ↦ λ h i e. first_of (omega arith, cc)
          ]
          | Some b ↦ elim u as (λ u. OneStart Open r (Some b) u) [
            | None ↦ λ h i e. first_of (omega arith, cc)
            | Some c ↦ λ h i e. first_of (omega arith, cc)
          ]
        ]
      ]
      | o ↦ elim r as (λ r. OneStart o r s u) [
        | Opened ↦ elim s as (λ s. OneStart o Opened s u) [
          | None ↦ elim u as (λ u. OneStart o Opened None u) [
            | None ↦ λ h i e. first_of (omega arith, cc)
            | Some c ↦ λ h i e. first_of (omega arith, cc)
          ]
          | Some b ↦ elim u as (λ u. OneStart o Opened (Some b) u) [
            | None ↦ λ h i e. first_of (omega arith, cc)
            | Some c ↦ λ h i e. first_of (omega arith, cc)
          ]
        ]
        | r ↦ elim s as (λ s. OneStart o r s u) [
          | None ↦ elim u as (λ u. OneStart o r None u) [
            | None ↦ λ h i e. first_of (omega arith, cc)
            | Some c ↦ λ h i e. first_of (omega arith, cc)
          ]
          | Some b ↦ elim u as (λ u. OneStart o r (Some b) u) [
            | None ↦ λ h i e. first_of (omega arith, cc)
            | Some c ↦ λ h i e. first_of (omega arith, cc)
          ]
        ]
      ]
    ]

pub account_one_start : (s u t : Option ℕ) (o : AccountOp) (r : ObjReply) → AccountStep s o r t
    → AccountStep u o r t → s ≡ u
account_one_start s u t o r h k = level_injective s u (starts o r s u h.0 k.0 (ap level (h.1 ∙ sym k.1)))

abbrev Stays : AccountOp → ObjReply → Option ℕ → Type 0
Stays o r s = IsLegalOnAccount o r s → IsAccount s × IsAccount (account_after o r s)

stays : (o : AccountOp) (r : ObjReply) (s : Option ℕ) → Stays o r s
stays o r s =
    elim o as (λ o. Stays o r s) [
      | Open ↦ elim r as (λ r. Stays Open r s) [
        | Opened ↦ elim s as (λ s. Stays Open Opened s) [ None ↦ λ h. grind arith | Some b ↦ λ h. grind arith ]
        | r ↦ elim s as (λ s. Stays Open r s) [ None ↦ λ h. grind arith | Some b ↦ λ h. grind arith ]
      ]
      | o ↦ elim r as (λ r. Stays o r s) [
        | Opened ↦ elim s as (λ s. Stays o Opened s) [ None ↦ λ h. grind arith | Some b ↦ λ h. grind arith ]
        | r ↦ elim s as (λ s. Stays o r s) [ None ↦ λ h. grind arith | Some b ↦ λ h. grind arith ]
      ]
    ]

pub account_stays : (s t : Option ℕ) (o : AccountOp) (r : ObjReply) → AccountStep s o r t → IsAccount s × IsAccount t
account_stays s t o r h = let k = stays o r s h.0 in (k.0, subst IsAccount h.1 k.1)
