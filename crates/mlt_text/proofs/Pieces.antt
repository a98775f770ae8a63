-- What reads and writes of pieces come to.
use Rattle.std.proofs.Common.{◌≡◌, ◌≤◌, ◌<◌, ◌+◌, ◌-◌, ℕ, List, [], ◌++◌, None, Some, IfSome, sym, subst, arith, length, length-append, append-nil, take, drop, take-append-drop, OnErr, Ok, Err}
use Rattle.std.{proofs.Math.Seq.take-add, proofs.lemmas.List.take_rest, specs.declared.result.Result.Result, specs.declared.option.Option.Option, specs.Io.KnownBytes.Appends, specs.Io.KnownBytes.Consumes, specs.Io.KnownBytes.IsAtEnd, specs.Io.KnownBytes.Keeps, proofs.KnownBytes.Appends-trans, proofs.KnownBytes.Appends-kept, proofs.KnownBytes.Consumes-trans, proofs.KnownBytes.Consumes-whole}
use Rattle.mlt_text.specs.Texts.{AppendsFront}

pub if_some_all : (a : Option (List ℕ)) (P : List ℕ → Type 0) → ((input : List ℕ) → P input) → IfSome a P
if_some_all None P all = tt
if_some_all (Some input) P all = all input

pub nothing_read : (a b : Option (List ℕ)) → Keeps a b → Consumes a b []
nothing_read None b keeps = tt
nothing_read (Some xs) None keeps = absurd keeps
nothing_read (Some xs) (Some ys) keeps = sym keeps

pub on_err_all : {T E : Type 0} → (r : Result T E) (P : Type 0) → P → OnErr r P
on_err_all (Ok x) P p = tt
on_err_all (Err e) P p = p

-- what was read before and in a last piece
pub last_piece_read : (a b c : Option (List ℕ)) (old bs : List ℕ) (most : ℕ) → Consumes a b old → Consumes b c bs → length old + length bs ≤ most
    → (taken : List ℕ) × Consumes a c taken × length taken ≤ most
last_piece_read a b c old bs most p q fits = (old ++ bs, Consumes-trans a b c old bs p q, omega (arith, length-append old bs))

-- the writer has i bytes of the text, and takes n more
pub piece_written : (a b c : Option (List ℕ)) (text : List ℕ) (i n : ℕ) → Appends a b (take i text) → Appends b c (take n (take (length text - i) (drop i text)))
    → Appends a c (take (i + n) text)
piece_written a b c text i n p q =
    let piece = subst (λ rest. Appends b c (take n rest)) (take_rest text i) q in
    subst (Appends a c) (sym (take-add i n text)) (Appends-trans a b c _ _ p piece)

-- the writer has i bytes of the text, and takes no more
pub front_written : (a b c : Option (List ℕ)) (text : List ℕ) (i : ℕ) → Appends a b (take i text) → Keeps b c → AppendsFront a c text
front_written a b c text i p q = (take i text, drop i text, sym (take-append-drop i text), Appends-kept a b c (take i text) p q)
