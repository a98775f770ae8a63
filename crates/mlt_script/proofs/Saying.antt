-- What a line says, by its form and by its bytes.
use Rattle.std.proofs.Common.{◌≡◌, ℕ, List, [], ◌∷◌, length, is_some, true, false, Some, None, nat_lt, if◌then◌else◌, refl, ◌∙◌, le-ltb}
use Rattle.mlt_script.proofs.Names.{list_all, ScriptCause, LineForm, Bad, Skip, Form, Word, TextIs, is_allowed, is_comment, word_at, words_of, said_by}
use Rattle.mlt_text_words.proofs.Allowed.{all_allowed, no_cr}
use Rattle.mlt_script.specs.{Forms.form_of, Forms.key_at, Readings.reading}

pub said_form : (words : List Word) (form : LineForm) → form_of words ≡ Some form → said_by words ≡ Form form
unfolding form_of key_at
said_form [] form h = cc
said_form (w ∷ ws) form h = rw h refl

pub said_nothing : (words : List Word) → form_of words ≡ None → said_by words ≡ (if is_some (word_at words) then Bad ScriptCause.Words else Skip)
said_nothing [] h = refl
said_nothing (w ∷ ws) h = rw h refl

-- what a line of allowed bytes is
allowed_reading : (line : List ℕ) → list_all is_allowed line ≡ true
    → reading (record { bytes = line; ended = true }) ≡ (if nat_lt 200 (length line) then Bad ScriptCause.Line else if is_comment line then Skip else said_by (words_of line))
unfolding reading
allowed_reading line h = rw (no_cr line h, h) refl

-- the words of a printable line say its form
pub says_so : (t : List ℕ) (w : Word) (ws : List Word) (form : LineForm) → TextIs t (w ∷ ws) 200 → is_comment t ≡ false → form_of (w ∷ ws) ≡ Some form
    → reading record { bytes = t; ended = true } ≡ Form form
says_so t w ws form h c f = allowed_reading t (all_allowed t h.1) ∙ rw (le-ltb 200 (length t) h.2, c, h.0, f) refl
