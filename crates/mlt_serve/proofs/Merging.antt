-- Lists that are taken in one after another, the last one first.
use Rattle.std.proofs.Common.{◌≡◌, ◌++◌, ◌∷◌, [], List, subst, ap, ◌∙◌, IsPermutation, flat_map, append_assoc, append-nil}
use Rattle.std.proofs.lemmas.{Grind.flat_map-append, List.Sorted.IsPermutation-append_comm, List.Sorted.IsPermutation-append_left}
use Rattle.mlt_serve.proofs.Names.{IsPermutation-append_right, IsPermutation-trans}

module _ {X A : Type 0} (f : X → List A) (xs : List X) (x : X) where
  last_last : flat_map f (xs ++ x ∷ []) ≡ flat_map f xs ++ f x
  last_last = flat_map-append f xs (x ∷ []) ∙ ap (λ (ys : List A). flat_map f xs ++ ys) (append-nil (f x))

  -- what the last element gives may go behind what was taken in
  pub last_behind : (all got : List A) → IsPermutation all (flat_map f (xs ++ x ∷ []) ++ got) → IsPermutation all (flat_map f xs ++ (got ++ f x))
  last_behind all got before =
      let front = flat_map f xs in
      let in_three : flat_map f (xs ++ x ∷ []) ++ got ≡ front ++ (f x ++ got) = ap (λ (ys : List A). ys ++ got) last_last ∙ append_assoc front (f x) got in
      IsPermutation-trans all (front ++ (f x ++ got)) (front ++ (got ++ f x)) (subst (λ (ys : List A). IsPermutation all ys) in_three before)
      (IsPermutation-append_right front (f x ++ got) (got ++ f x) (IsPermutation-append_comm (f x) got))

-- once none is left, what comes last goes behind all
pub behind_all : {A : Type 0} (all none got last new : List A) → none ≡ [] → IsPermutation all (none ++ got) → IsPermutation (got ++ last) new → IsPermutation (all ++ last) new
behind_all {A} all none got last new is before after =
    let same = subst (λ (xs : List A). IsPermutation all (xs ++ got)) is before in
    IsPermutation-trans (all ++ last) (got ++ last) new (IsPermutation-append_left last all got same) after
