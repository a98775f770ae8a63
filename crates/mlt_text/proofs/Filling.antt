-- Reads behind held bytes, and bytes moved to the start.
use Rattle.std.proofs.Common.{◌≡◌, ℕ, ◌+◌, ◌-◌, ◌<◌, ◌≤◌, List, ◌++◌, length, take, drop, Option, sym, ap, subst, ◌∙◌, arith, length-take, length-drop, Result, Ok, Err, IfOk}
use Rattle.std.{proofs.Math.Seq.take-append-add, proofs.Math.Seq.take-add, proofs.Math.Seq.drop-append-add, proofs.lemmas.List.take-append-le, proofs.lemmas.List.Edits.take-paste, specs.List.copy_within, specs.Io.ReadsAtMost, specs.Io.KnownBytes.Consumes, specs.Io.KnownBytes.IsAtEnd, specs.Io.KnownBytes.ReadConsumes}

put_prefix : (xs ys rest : List ℕ) (a n : ℕ) → length xs ≡ a → n ≤ length ys → take (a + n) (xs ++ (ys ++ rest)) ≡ xs ++ take n ys
put_prefix xs ys rest a n l f =
    subst (λ (k : ℕ). take (k + n) (xs ++ (ys ++ rest)) ≡ xs ++ take n ys) l (take-append-add xs (ys ++ rest) n ∙ ap (λ (t : List ℕ). xs ++ t) (take-append-le n ys rest f))

-- a read into a part of a buffer
pub filled : {E : Type 0} (r : Result ℕ E) (old sub rest : List ℕ) (held room most : ℕ) (a b : Option (List ℕ)) → held + room ≤ length old → length sub ≡ room → room ≤ most → 0 < room
    → ReadsAtMost r sub → ReadConsumes a b r sub
    → IfOk r (λ count. (piece : List ℕ) × (take (held + count) (take held old ++ (sub ++ rest)) ≡ take held old ++ piece) × (length piece ≡ count) × (count ≤ most) × (held + count ≤ length old)
    × Consumes a b piece × (count ≡ 0 → IsAtEnd b))
filled (Ok n) old sub rest held room most a b fits l m some bound bytes =
    let few = bound.0 in
    (take n sub, put_prefix (take held old) sub rest held n (omega (arith, length-take held old)) few, sym bound.1, omega arith, omega arith, bytes.0, λ z. bytes.1 z (omega arith))
filled (Err e) old sub rest held room most a b fits l m some bound bytes = tt

drop_prefix : (xs ys : List ℕ) (a : ℕ) → length xs ≡ a → drop a (xs ++ ys) ≡ ys
drop_prefix xs ys a l = subst (λ (k : ℕ). drop k (xs ++ ys) ≡ ys) (omega (arith, l)) (drop-append-add xs ys 0)

-- what stands between two places
pub between_is : (buffer : List ℕ) (at end : ℕ) → at ≤ end → end ≤ length buffer → drop at (take end buffer) ≡ take (end - at) (drop at buffer)
between_is buffer at end le fits =
    let sum : end ≡ at + (end - at) = omega arith in
    ap (λ (k : ℕ). drop at (take k buffer)) sum ∙ ap (drop at) (take-add at (end - at) buffer) ∙ drop_prefix (take at buffer) (take (end - at) (drop at buffer)) at (omega (arith, length-take at buffer))

-- a part was copied to the start
pub kept : (buffer : List ℕ) (at end : ℕ) → at ≤ end → end ≤ length buffer → take (end - at) (copy_within buffer at end 0) ≡ drop at (take end buffer)
kept buffer at end le fits =
    let few : end - at ≤ length (drop at buffer) = omega (arith, length-drop at buffer) in
    let none : 0 + (end - at) ≡ end - at = omega arith in
    subst (λ (k : ℕ). take k (copy_within buffer at end 0) ≡ take (end - at) (drop at buffer)) none (take-paste buffer 0 (drop at buffer) (end - at) (omega arith) few)
    ∙ sym (between_is buffer at end le fits)
