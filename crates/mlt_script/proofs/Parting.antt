-- Scripts that are parted by their clients.
use Rattle.std.proofs.Common.{Vec, Global, ◌≡◌, ℕ, zero, suc, ◌+◌, ◌<◌, List, [], ◌∷◌, ◌++◌, length, reverse, replicate, get_or, set, map, ◌==◌, Bool, true, false, cond, refl, sym, ap, subst, ◌∙◌, append_assoc, length-append, arith, append-nil, length-set}
use Rattle.std.proofs.lemmas.List.{reverse-append, reverse-reverse, map-append, get_or-replicate, length-replicate, length-map, map-set, get_or-map, replicate-append-replicate}
use Rattle.mlt_script.specs.{declared.script.Script.Script, Scripts.ScriptForm}
use Rattle.mlt_script.specs.Clients.{scripts_of, if_any, parts_below, parts_of, AreFilled}

pub filled_none : (lists : List (List ScriptForm)) → lists ≡ replicate 1000 [] → AreFilled [] lists
filled_none lists e =
    subst (AreFilled []) (sym e) (length-replicate {A = List ScriptForm} 1000 [], λ client below. get_or-replicate {A = List ScriptForm} 1000 client [] [] below)

same_place : (lists : List (List ScriptForm)) (i : ℕ) (x : List ScriptForm) → i < length lists → get_or (set lists i x) i [] ≡ x
same_place [] i x h = absurd (omega (arith, h))
same_place (y ∷ lists) zero x h = refl
same_place (y ∷ lists) (suc i) x h = same_place lists i x (omega (arith, h))

other_place : (lists : List (List ScriptForm)) (i j : ℕ) (x : List ScriptForm) → (i == j) ≡ false → get_or (set lists i x) j [] ≡ get_or lists j []
other_place [] i j x h = refl
other_place (y ∷ lists) zero zero x h = absurd (cc h)
other_place (y ∷ lists) zero (suc j) x h = refl
other_place (y ∷ lists) (suc i) zero x h = refl
other_place (y ∷ lists) (suc i) (suc j) x h = other_place lists i j x (other_suc i j h) where
  other_suc : (i j : ℕ) → (suc i == suc j) ≡ false → (i == j) ≡ false
  other_suc i j h = grind arith

-- one script more is put into its client's list
one_filled : (b : Bool) (done : List ScriptForm) (s : ScriptForm) (lists : List (List ScriptForm)) (c : ℕ) → (s.client == c) ≡ b → s.client < length lists
    → get_or lists c [] ≡ reverse (scripts_of c done) → get_or lists s.client [] ≡ reverse (scripts_of s.client done)
    → get_or (set lists s.client (get_or lists s.client [] ++ s ∷ [])) c [] ≡ reverse (cond b (s ∷ scripts_of c done) (scripts_of c done))
one_filled true done s lists c e l h k =
    let same : s.client ≡ c = grind arith in
    subst (λ (i : ℕ). get_or (set lists s.client (get_or lists s.client [] ++ s ∷ [])) i [] ≡ reverse (s ∷ scripts_of i done)) same
    (same_place lists s.client (get_or lists s.client [] ++ s ∷ []) l ∙ ap (λ (xs : List ScriptForm). xs ++ s ∷ []) k ∙ sym (reverse-append (s ∷ []) (scripts_of s.client done)))
one_filled false done s lists c e l h k = other_place lists s.client c (get_or lists s.client [] ++ s ∷ []) e ∙ h

pub filled_more : (done : List ScriptForm) (s : ScriptForm) (lists : List (List ScriptForm)) → s.client < 1000 → AreFilled done lists
    → AreFilled (s ∷ done) (set lists s.client (get_or lists s.client [] ++ s ∷ []))
filled_more done s lists small h =
    let inside : s.client < length lists = let l = h.0 in omega (arith, l, small) in (
      length-set lists s.client (get_or lists s.client [] ++ s ∷ []) ∙ h.0,
      λ c below. one_filled (s.client == c) done s lists c refl inside (h.1 c below) (h.1 s.client small),
    )

-- so many empty lists
abbrev pub empties : ℕ → List (List ScriptForm)
empties n = replicate n []

-- The lists of the clients from n on were parted off.
abbrev pub Parted : List ScriptForm → List (List ScriptForm) → List (List ScriptForm) → Type 0
Parted scripts lists parts = ((client : ℕ) → client < length lists → get_or lists client [] ≡ reverse (scripts_of client scripts))
    × (parts_below (length lists) scripts ++ reverse parts ≡ parts_below 1000 scripts)

pub parted_none : (scripts : List ScriptForm) (lists : List (List ScriptForm)) → AreFilled scripts lists → Parted scripts lists []
parted_none scripts lists h =
    (λ c below. h.1 c (let l = h.0 in omega (arith, l, below)), append-nil (parts_below (length lists) scripts) ∙ ap (λ n. parts_below n scripts) h.0)

last_is : (left : List (List ScriptForm)) (x : List ScriptForm) → get_or (left ++ x ∷ []) (length left) [] ≡ x
last_is [] x = refl
last_is (y ∷ left) x = last_is left x

before_last : (left : List (List ScriptForm)) (x : List ScriptForm) (i : ℕ) → i < length left → get_or (left ++ x ∷ []) i [] ≡ get_or left i []
before_last [] x i h = absurd (omega (arith, h))
before_last (y ∷ left) x zero h = refl
before_last (y ∷ left) x (suc i) h = before_last left x i (omega (arith, h))

one_or_none : (xs : List ScriptForm) → reverse (if_any xs) ≡ if_any xs
one_or_none [] = refl
one_or_none (x ∷ xs) = refl

pub parted_more : (scripts : List ScriptForm) (lists left parts more : List (List ScriptForm)) (x : List ScriptForm) → lists ≡ left ++ x ∷ [] → more ≡ parts ++ if_any (reverse x)
    → Parted scripts lists parts → Parted scripts left more
parted_more scripts lists left parts more x e f h =
    let n : length lists ≡ suc (length left) = ap (λ (xs : List (List ScriptForm)). length xs) e ∙ rw length-append (omega arith) in
    let last : x ≡ reverse (scripts_of (length left) scripts) =
    sym (last_is left x) ∙ ap (λ (xs : List (List ScriptForm)). get_or xs (length left) []) (sym e) ∙ h.0 (length left) (omega (arith, n)) in
    let part : reverse x ≡ scripts_of (length left) scripts = ap reverse last ∙ reverse-reverse (scripts_of (length left) scripts) in
    let turned : reverse more ≡ if_any (scripts_of (length left) scripts) ++ reverse parts =
    ap reverse f ∙ reverse-append parts (if_any (reverse x)) ∙ ap (λ (xs : List (List ScriptForm)). xs ++ reverse parts) (one_or_none (reverse x) ∙ ap if_any part) in (
      λ c below. sym (before_last left x c below) ∙ ap (λ (xs : List (List ScriptForm)). get_or xs c []) (sym e) ∙ h.0 c (omega (arith, n, below)),
      ap (λ (xs : List (List ScriptForm)). parts_below (length left) scripts ++ xs) turned
          ∙ sym (append_assoc (parts_below (length left) scripts) (if_any (scripts_of (length left) scripts)) (reverse parts))
          ∙ ap (λ k. parts_below k scripts ++ reverse parts) (sym n) ∙ h.1,
    )

pub parted_all : (scripts : List ScriptForm) (lists parts : List (List ScriptForm)) → length lists ≡ 0 → Parted scripts lists parts → reverse parts ≡ parts_of scripts
unfolding parts_of
parted_all scripts lists parts z h = sym (ap (λ k. parts_below k scripts ++ reverse parts) z) ∙ h.1

-- what lists of scripts have in them
abbrev pub lists : List (Vec Script Global) → List (List ScriptForm)
lists table = map (λ (list : Vec Script Global). list.items) table

-- a script is put at the end of its client's list
pub pushed : (table : List (Vec Script Global)) (k : ℕ) (old new : Vec Script Global) (s : ScriptForm) (done : List ScriptForm) → k ≡ s.client → s.client < 1000
    → old ≡ get_or table k old → new.items ≡ old.items ++ s ∷ [] → AreFilled done (lists table) → AreFilled (s ∷ done) (lists (set table k new))
pushed table k old new s done e small v p h =
    let items : Vec Script Global → List ScriptForm = λ list. list.items in
    let long : length (lists table) ≡ length table = length-map table items in
    let inside : k < length table = let l = h.0 in omega (arith, l, long, e, small) in
    let entry : old.items ≡ get_or (lists table) s.client [] =
    ap items v ∙ sym (get_or-map items table k old [] inside) ∙ ap (λ (j : ℕ). get_or (lists table) j []) e in
    let same : lists (set table k new) ≡ set (lists table) s.client (get_or (lists table) s.client [] ++ s ∷ []) =
    map-set items table k new ∙ ap (λ (j : ℕ). set (lists table) j new.items) e
    ∙ ap (λ (xs : List ScriptForm). set (lists table) s.client xs) (p ∙ ap (λ (xs : List ScriptForm). xs ++ s ∷ []) entry) in
    subst (AreFilled (s ∷ done)) (sym same) (filled_more done s (lists table) small h)

map_reverse : (table : List (Vec Script Global)) → lists (reverse table) ≡ reverse (lists table)
map_reverse [] = refl
map_reverse (x ∷ table) =
    ap lists (reverse-append (x ∷ []) table) ∙ map-append (λ (list : Vec Script Global). list.items) (reverse table) (x ∷ [])
    ∙ ap (λ (xs : List (List ScriptForm)). xs ++ x.items ∷ []) (map_reverse table) ∙ sym (reverse-append (x.items ∷ []) (lists table))

pub popped : (table left : List (Vec Script Global)) (x : Vec Script Global) → table ≡ left ++ x ∷ [] → lists table ≡ lists left ++ x.items ∷ []
popped table left x e = ap lists e ∙ map-append (λ (list : Vec Script Global). list.items) left (x ∷ [])

pub turned_round : (scripts : List ScriptForm) (table parts result : List (Vec Script Global)) → length table ≡ 0 → result ≡ reverse parts → Parted scripts (lists table) (lists parts) → lists result ≡ parts_of scripts
turned_round scripts table parts result z e h =
    let items : Vec Script Global → List ScriptForm = λ list. list.items in
    ap lists e ∙ map_reverse parts ∙ parted_all scripts (lists table) (lists parts) (length-map table items ∙ z) h
