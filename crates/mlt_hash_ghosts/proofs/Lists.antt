-- Lists of operations on a key's presence
use Rattle.std.proofs.Common.{◌≡◌, List, [], ◌∷◌, ◌++◌, Option, Some, None, refl, inl, inr, ◌⊎◌}
use Rattle.std.specs.List.{last_or}
use Rattle.mlt_hash_ghosts.proofs.Names.{Presence, Added, Removed, TakeTurns, last_of}

pub last_append_from : (o : Option Presence) (xs : List Presence) (p : Presence) → last_or o (xs ++ p ∷ []) ≡ Some p
last_append_from o [] p = refl
last_append_from o (x ∷ xs) p = last_append_from (Some x) xs p

pub last_append : (xs : List Presence) (p : Presence) → last_of (xs ++ p ∷ []) ≡ Some p
last_append = last_append_from None

last_some : (x : Presence) (xs : List Presence) → last_or (Some x) xs ≡ None → ⊥
last_some x [] e = cc
last_some x (y ∷ ys) e = last_some y ys e

pub none_last : (xs : List Presence) → last_of xs ≡ None → xs ≡ []
none_last [] e = refl
none_last (x ∷ xs) e = absurd (last_some x xs e)

pub not_empty : (xs : List Presence) (p : Presence) → xs ++ p ∷ [] ≡ [] → ⊥
not_empty [] p e = cc
not_empty (x ∷ xs) p e = cc

pub turns_append : (o : Option Presence) (xs : List Presence) (p : Presence) → TakeTurns o xs → (last_or o xs ≡ Some p → ⊥) → TakeTurns o (xs ++ p ∷ [])
turns_append o [] p turns differs = (differs, tt)
turns_append o (x ∷ xs) p turns differs = (turns.0, turns_append (Some x) xs p turns.1 differs)

pub turns_front : (o : Option Presence) (xs : List Presence) (p : Presence) → TakeTurns o (xs ++ p ∷ []) → TakeTurns o xs × (last_or o xs ≡ Some p → ⊥)
turns_front o [] p turns = (tt, turns.0)
turns_front o (x ∷ xs) p turns = let rest = turns_front (Some x) xs p turns.1 in ((turns.0, rest.0), rest.1)

pub last_cases : (o : Option Presence) → (o ≡ None) ⊎ ((o ≡ Some Added) ⊎ (o ≡ Some Removed))
last_cases None = inl refl
last_cases (Some Added) = inr (inl refl)
last_cases (Some Removed) = inr (inr refl)
