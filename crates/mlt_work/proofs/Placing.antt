-- Runs at their places.
use Rattle.std.proofs.Common.{◌≡◌, ◌≢◌, ◌⊎◌, ℕ, zero, suc, ◌+◌, ◌-◌, ◌<◌, ◌≤◌, List, [], ◌∷◌, ◌++◌, length, map, set, append_assoc, cond, Bool, refl, sym, ap, ◌∙◌, subst, inl, inr, ⊎_elim, arith, get_or, Option, Some, None, IfSome, IsSome, lt-ltb, append-nil, length-set, get_or-set_same, get_or-set_other, All, Vec, Global}
use Rattle.std.proofs.lemmas.{List.length-map, List.map-append, List.Elements.All-pop, Bool.Decides.eqb_tells, Bool.Decides.nat_tests}
use Rattle.mlt_work.{specs.declared.claim_handles.ClaimView.ClaimView, specs.Claims.view, specs.Claims.times, specs.Claims.after_draw, proofs.ClaimMoves.times-append, specs.ClientOutcomes.OutcomeRelation, specs.declared.forms.ClientRun.ClientRun}
use Rattle.mlt_script_serial.specs.declared.outcome.Outcome.{Outcome}
use Rattle.mlt_script.specs.{declared.script.Script.Script, Scripts.ScriptForm}
use Rattle.mlt_work.specs.Places.{AreAllOutcomes, AreInPlace, HasRunAt, HaveRuns, IsClientRun, KeepsRuns, place_of, scripts_of_clients}

-- a draw of a client
pub draws_client : (v w : ClaimView) (clients n : ℕ) (drawn : List ℕ) → v ≡ view 1 1 clients drawn → w ≡ after_draw v n → n < clients → w ≡ view 1 1 clients (drawn ++ n ∷ [])
draws_client v w clients n drawn e f small =
    f ∙ ap (λ (u : ClaimView). after_draw u n) e ∙ ap (λ (b : Bool). view 1 (cond b 1 (1 - 1)) clients (drawn ++ n ∷ [])) (lt-ltb n clients small)

pub get_any : {X : Type 0} → (l : List X) (i : ℕ) (d e : X) → i < length l → get_or l i d ≡ get_or l i e
get_any [] i d e h = absurd (omega arith)
get_any (x ∷ xs) zero d e h = refl
get_any (x ∷ xs) (suc i) d e h = get_any xs i d e (omega arith)

-- a run is put at its place
pub in_place_set : (are_outcomes : OutcomeRelation) (lists : List (List ScriptForm)) (slots : List (Option ClientRun)) (r : ClientRun) → IsClientRun are_outcomes lists r → r.place < length slots
    → AreInPlace are_outcomes lists slots → AreInPlace are_outcomes lists (set slots r.place (Some r))
in_place_set are_outcomes lists slots r run within h i below =
    let here : i < length slots = omega (arith, length-set slots r.place (Some r)) in
    let P : Option ClientRun → Type 0 = λ s. IfSome s (λ r. (r.place ≡ i) × IsClientRun are_outcomes lists r) in
    ⊎_elim
    (λ t. subst P (sym (ap (λ (k : ℕ). get_or (set slots r.place (Some r)) k None) t.1 ∙ get_or-set_same slots r.place (Some r) None within)) (sym t.1, run))
    (λ t. subst P (sym (get_or-set_other slots r.place i (Some r) None t.1)) (h i here))
    (eqb_tells i r.place)

pub still_some : (slots : List (Option ClientRun)) (r : ClientRun) (i : ℕ) → r.place < length slots → IsSome (get_or slots i None) → IsSome (get_or (set slots r.place (Some r)) i None)
still_some slots r i within h =
    ⊎_elim
    (λ t. subst (λ (s : Option ClientRun). IsSome s) (sym (ap (λ (k : ℕ). get_or (set slots r.place (Some r)) k None) t.1 ∙ get_or-set_same slots r.place (Some r) None within)) refl)
    (λ t. subst (λ (s : Option ClientRun). IsSome s) (sym (get_or-set_other slots r.place i (Some r) None t.1)) h)
    (eqb_tells i r.place)

pub its_time : (n : ℕ) → 0 < times n (n ∷ [])
its_time n = grind (arith, nat_tests)

-- what was still to be put is put, or is still to be put
pub filled_step : (slots : List (Option ClientRun)) (r : ClientRun) (before rest : List ClientRun) (i : ℕ) → before ≡ rest ++ r ∷ [] → r.place < length slots
    → IsSome (get_or slots i None) ⊎ (0 < times i (map place_of before)) → IsSome (get_or (set slots r.place (Some r)) i None) ⊎ (0 < times i (map place_of rest))
filled_step slots r before rest i e within (inl h) = inl (still_some slots r i within h)
filled_step slots r before rest i e within (inr h) =
    let sum : times i (map place_of before) ≡ times i (map place_of rest) + times i (r.place ∷ []) =
    ap (λ (rs : List ClientRun). times i (map place_of rs)) e ∙ ap (times i) (map-append place_of rest (r ∷ [])) ∙ times-append i (map place_of rest) (r.place ∷ []) in
    ⊎_elim
    (λ t.
    inl (subst (λ (s : Option ClientRun). IsSome s) (sym (ap (λ (k : ℕ). get_or (set slots r.place (Some r)) k None) t.1 ∙ get_or-set_same slots r.place (Some r) None within)) refl))
    (λ t. inr (not_one i r.place (times i (map place_of rest)) t.1 (omega arith)))
    (eqb_tells i r.place)
  where
    not_one : (i n k : ℕ) → i ≢ n → 0 < k + times i (n ∷ []) → 0 < k
    not_one i n k ne h = grind (arith, nat_tests)

-- Runs are being put at their places. These numbers are the places of all of them: each has its run, or that is still to be put.
pub record ArePut (are_outcomes : OutcomeRelation) (clients : List (Vec Script Global)) (before : List (Option ClientRun)) (places : List ℕ) (slots : List (Option ClientRun)) (rest : List ClientRun) : Type 0 where
  pub len : length slots ≡ length clients
  pub placed : AreInPlace are_outcomes (scripts_of_clients clients) slots
  pub runs : All (IsClientRun are_outcomes (scripts_of_clients clients)) rest
  pub kept : KeepsRuns before slots
  pub filled : (place : ℕ) → place < length clients → 0 < times place places → HasRunAt slots place ⊎ (0 < times place (map place_of rest))

-- the last of them is put
pub last_put : (are_outcomes : OutcomeRelation) (clients : List (Vec Script Global)) (before : List (Option ClientRun)) (places : List ℕ) (slots : List (Option ClientRun)) (all rest : List ClientRun) (r : ClientRun)
    → ArePut are_outcomes clients before places slots all → all ≡ rest ++ r ∷ [] → ArePut are_outcomes clients before places (set slots r.place (Some r)) rest
last_put are_outcomes clients before places slots all rest r h e =
    let lists : List (List ScriptForm) = scripts_of_clients clients in
    let popped = All-pop (IsClientRun are_outcomes lists) all rest (Some r) e h.runs in
    let within : r.place < length slots = omega (arith, popped.1.0, length-map clients (λ (client : Vec Script Global). client.items), h.len) in
    record {
      len = length-set slots r.place (Some r) ∙ h.len;
      placed = in_place_set are_outcomes lists slots r popped.1 within h.placed;
      runs = popped.0;
      kept = λ i below had. still_some slots r i within (h.kept i below had);
      filled = λ i below drawn. filled_step slots r all rest i e within (h.filled i below drawn);
    }

-- what the first handle and another drew has its runs
pub filled_join : (clients n : ℕ) (slots after : List (Option ClientRun)) (first drawn places : List ℕ) → length slots ≡ clients → length after ≡ clients → drawn ≡ places ++ n ∷ [] → clients ≤ n
    → KeepsRuns slots after → HaveRuns first slots → HaveRuns places after → HaveRuns (first ++ drawn) after
filled_join clients n slots after first drawn places long long' e past kept f g i below h =
    let sum : times i (first ++ drawn) ≡ times i first + times i drawn = times-append i first drawn in
    let part : times i drawn ≡ times i places + times i (n ∷ []) = ap (times i) e ∙ times-append i places (n ∷ []) in
    two i n (times i first) (times i places) (IsSome (get_or after i None)) (omega arith) (omega arith) (λ a. kept i (omega arith) (f i (omega arith) a)) (λ b. g i below b)
  where
    pos : (k : ℕ) → (k ≡ 0) ⊎ (0 < k)
    pos zero = inl refl
    pos (suc k) = inr (omega arith)

    two : (i n a b : ℕ) (P : Type 0) → i ≢ n → 0 < a + (b + times i (n ∷ [])) → (0 < a → P) → (0 < b → P) → P
    two i n a b P ne h l r = ⊎_elim (λ z. r (none i n a b ne z h)) l (pos a)
      where
        none : (i n a b : ℕ) → i ≢ n → a ≡ 0 → 0 < a + (b + times i (n ∷ [])) → 0 < b
        none i n a b ne z h = grind (arith, nat_tests)

pub past_join : (n : ℕ) (first drawn places : List ℕ) → drawn ≡ places ++ n ∷ [] → 0 < times n (first ++ drawn)
past_join n first drawn places e =
    let sum : times n (first ++ drawn) ≡ times n first + times n drawn = times-append n first drawn in
    let part : times n drawn ≡ times n places + times n (n ∷ []) = ap (times n) e ∙ times-append n places (n ∷ []) in
    let one = its_time n in
    omega arith

-- one more client
pub all_push : (are_outcomes : OutcomeRelation) (ls : List (List ScriptForm)) (os : List Outcome) (c : List ScriptForm) (front : List Outcome) → AreAllOutcomes are_outcomes ls os → are_outcomes c front
    → AreAllOutcomes are_outcomes (ls ++ c ∷ []) (os ++ front)
all_push are_outcomes [] os c front h o = (front, [], (ap (λ (l : List Outcome). l ++ front) h ∙ sym (append-nil front)), o, refl)
all_push are_outcomes (l ∷ ls) os c front h o = (h.0, h.1 ++ front, (ap (λ (z : List Outcome). z ++ front) h.2 ∙ append_assoc h.0 h.1 front), h.3, all_push are_outcomes ls h.1 c front h.4 o)
