-- Lines of allowed bytes.
use Rattle.std.proofs.Common.{◌≡◌, ℕ, ◌-◌, List, [], ◌∷◌, length, take, get_or, Bool, true, false, cond, nat_lt, ◌==◌, ◌&&◌, ◌||◌, refl, sym, ◌∙◌, arith, ltb-true}
use Rattle.mlt_text_words.proofs.Names.{list_all, is_printable, is_allowed}
use Rattle.std.proofs.lemmas.List.Folds.{list_all_at}
use Rattle.mlt_text_words.specs.Lines.{without_cr}

kept : (a b : Bool) (x y : List ℕ) → (a ≡ true → b ≡ true → ⊥) → cond (a && b) x y ≡ y
kept true true x y n = absurd (n refl refl)
kept true false x y n = refl
kept false b x y n = refl

cr_at : (b : ℕ) → (b == 13) ≡ true → is_allowed b ≡ false
cr_at b h = grind arith

-- a line of allowed bytes has no CR
pub no_cr : (line : List ℕ) → list_all is_allowed line ≡ true → without_cr line ≡ line
no_cr line h =
    kept (nat_lt 0 (length line)) (get_or line (length line - 1) 0 == 13) (take (length line - 1) line) line (λ some cr.
    let l = ltb-true 0 (length line) some in
    let g = list_all_at is_allowed line (length line - 1) 0 (omega (arith, l)) (cr_at (get_or line (length line - 1) 0) cr) in
    let e : true ≡ false = sym h ∙ g in
    cc (e))

allowed_by : (b : ℕ) → is_printable b ≡ true → is_allowed b ≡ true
allowed_by b h = rw h (or_true (b == 9)) where
  or_true : (a : Bool) → (a || true) ≡ true
  or_true true = refl
  or_true false = refl

pub all_allowed : (t : List ℕ) → list_all is_printable t ≡ true → list_all is_allowed t ≡ true
all_allowed [] h = refl
all_allowed (b ∷ t) h = both_of (is_printable b) b t refl h (λ k. all_allowed t k) where
  both_of : (c : Bool) (b : ℕ) (t : List ℕ) → is_printable b ≡ c → (c && list_all is_printable t) ≡ true → (list_all is_printable t ≡ true → list_all is_allowed t ≡ true) → list_all is_allowed (b ∷ t) ≡ true
  both_of true b t e h k = rw (allowed_by b e) (k h)
  both_of false b t e h k = absurd (cc h)
