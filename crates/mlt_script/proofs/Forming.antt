-- What a line can be by itself: its faults are Line and Words, and a client is below 1000.
use Rattle.std.proofs.Common.{◌≡◌, ℕ, ◌<◌, List, [], ◌∷◌, length, inl, inr, Bool, true, false, cond, ltb, Option, Some, None, refl, arith, option_and_then, nat_lt, ltb-true}
use Rattle.mlt_script.proofs.Names.{list_all, ScriptCause, LineForm, Begins, Says, Closes, Keyword, Word, Key, Variable, Number, Other, Bad, Skip, Commit, Ask, Plain, Else, End, Raw, is_comment, is_allowed, said_by, IsReading, words_of}
use Rattle.mlt_text_words.specs.{declared.letter.Letter.Letter, Lines.content}
use Rattle.mlt_script.specs.{declared.statement.Ending.TheVariants.Abort, declared.statement.Statement.TheVariants.Need, declared.statement.Statement.TheVariants.Let, declared.statement.Line.TheVariants.If, Readings.reading, Readings.form_or_fault, Readings.outside_comment}
use Rattle.mlt_script.specs.Forms.{form_of, key_form, begin_form, ask_form, need_form, if_form, let_form, equals_source, number_below, letter_at, key_at, source_at, asking_at, asking_is_at, finish}

abbrev IsForm : LineForm → Type 0
IsForm (Begins client) = client < 1000
IsForm form = Unit {0}

abbrev AnyForm : Option LineForm → Type 0
AnyForm None = Unit {0}
AnyForm (Some form) = IsForm form

finished : (form : LineForm) → IsForm form → (rest : List Word) → AnyForm (finish form rest)
finished form h [] = h
finished form h (w ∷ ws) = tt

after_any : {A : Type 0} (o : Option A) (next : A → Option LineForm) → ((x : A) → AnyForm (next x)) → AnyForm (option_and_then next o)
after_any None next h = tt
after_any (Some x) next h = h x

begins_if : (n : ℕ) (rest : List Word) (b : Bool) → ltb n 1000 ≡ b → AnyForm (option_and_then (λ (c : ℕ × List Word). finish (Begins c.0) c.1) (cond b (Some (n, rest)) None))
begins_if n rest true e = finished (Begins n) (ltb-true n 1000 e) rest
begins_if n rest false e = tt

begins : (words : List Word) → AnyForm (begin_form words)
unfolding begin_form number_below
begins [] = omega arith
begins (Number n ∷ rest) = begins_if n rest (ltb n 1000) refl
begins (Key k ∷ rest) = tt
begins (Variable l ∷ rest) = tt
begins (Other ∷ rest) = tt

asks : (k : Keyword) (rest : List Word) → AnyForm (ask_form k rest)
unfolding ask_form
asks k rest = after_any (asking_at k rest) _ (λ o. finished (Says (Plain (Ask o.0))) tt o.1)

needs : (rest : List Word) → AnyForm (need_form rest)
unfolding need_form
needs rest = after_any (asking_is_at rest) _ (λ a. finished (Says (Plain (Need a.0.0 a.0.1))) tt a.1)

conditions : (rest : List Word) → AnyForm (if_form rest)
unfolding if_form
conditions rest = after_any (asking_is_at rest) _ (λ a. finished (Says (If a.0.0 a.0.1)) tt a.1)

sources : (l : Letter) (k : Keyword) (rest : List Word) → AnyForm (equals_source l k rest)
sources l Keyword.Equals rest =
    after_any (key_at rest) _ (λ k. after_any (source_at k.0 k.1) _ (λ s. finished (Says (Plain (Let l s.0))) tt s.1))
sources l k rest = tt

sets : (rest : List Word) → AnyForm (let_form rest)
unfolding let_form
sets rest = after_any (letter_at rest) _ (λ l. after_any (key_at l.1) _ (λ k. sources l.0 k.0 k.1))

keyed : (k : Keyword) (rest : List Word) → AnyForm (key_form k rest)
unfolding key_form
keyed Keyword.Begin rest = begins rest
keyed Keyword.Commit rest = finished (Closes Commit) tt rest
keyed Keyword.Abort rest = finished (Closes Abort) tt rest
keyed Keyword.Need rest = needs rest
keyed Keyword.Let rest = sets rest
keyed Keyword.If rest = conditions rest
keyed Keyword.Else rest = finished (Says Else) tt rest
keyed Keyword.End rest = finished (Says End) tt rest
keyed k rest = asks _ rest

formed : (words : List Word) → AnyForm (form_of words)
unfolding form_of
formed words = after_any (key_at words) _ (λ k. keyed k.0 k.1)

of_form : (o : Option LineForm) → AnyForm o → IsReading (form_or_fault o)
of_form None h = inr refl
of_form (Some (Begins client)) h = h
of_form (Some (Says s)) h = tt
of_form (Some (Closes e)) h = tt

of_words : (words : List Word) → IsReading (said_by words)
of_words [] = tt
of_words (w ∷ ws) = of_form (form_of (w ∷ ws)) (formed (w ∷ ws))

if_allowed : (b : Bool) (raw : Raw) → IsReading (cond b (said_by (words_of (content raw))) (Bad ScriptCause.Line))
if_allowed true raw = of_words (words_of (content raw))
if_allowed false raw = inl refl

if_comment : (b : Bool) (raw : Raw) → IsReading (cond b Skip (outside_comment raw))
if_comment true raw = tt
if_comment false raw = if_allowed (list_all is_allowed (content raw)) raw

if_long : (b : Bool) (raw : Raw) → IsReading (cond b (Bad ScriptCause.Line) (cond (is_comment (content raw)) Skip (outside_comment raw)))
if_long true raw = inl refl
if_long false raw = if_comment (is_comment (content raw)) raw

-- a fault of a line by itself is Line or Words, and a begin is that of a client below 1000
pub readings : (raw : Raw) → IsReading (reading raw)
unfolding reading
readings raw = if_long (nat_lt 200 (length raw.bytes)) raw
