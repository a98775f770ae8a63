-- What a scan answers is so: its scripts are those of the text, and its fault is the first one.
use Rattle.std.proofs.Common.{◌≡◌, ℕ, ◌+◌, ◌<◌, List, [], ◌∷◌, ◌++◌, length, map, ◌⊎◌, inl, inr, Bool, true, false, cond, ltb, Option, Some, None, Result, Ok, Err, refl, sym, ap, subst, ◌∙◌, append_assoc, length-append, arith, append-nil, ltb-true, ltb-false}
use Rattle.mlt_script.proofs.Names.{map-append, ScriptCause, LineForm, Begins, Says, Closes, ScriptReading, Bad, Skip, Form, Asking, Wanted, Statement, Line, Block, Open, join, grow, path, depth, Nothing, Then, If, Top, InFirst, InSecond, Raw, IsReading, ScriptForm, IsScript, one_more, AreScripts, IsSpelled, IsSpelledOpen, IsSpelledScript, AreSpelled, IsLawful, AreLawful, form_in, forms_of, AreWhole, AreOpen, IsSound, IsFault, IsFirstFaultOf, ScanState, advance, after, at_end, said, ended, line_fault, Outside, Inside}
use Rattle.mlt_script.{specs.declared.statement.Ending.Ending, specs.Blocks.IsWithin, specs.Readings.reading, specs.Grammar.AreSpelledOpen, specs.Scan.scan, proofs.Forming.readings}
use Rattle.mlt_script.proofs.Placing.{widest_grow, deepest_grow, path_widest, depth_deepest, not_long, not_deep}

-- these lines lead to the state
abbrev Reached : List Raw → ScanState → Type 0
Reached before (Outside scripts) = AreWhole before scripts
Reached before (Inside scripts client o) = AreOpen before scripts client o

-- the answer is that of these lines
abbrev pub Answers : List Raw → Result (List ScriptForm) (ℕ × ScriptCause) → Type 0
Answers raws (Ok scripts) = AreWhole raws scripts
Answers raws (Err f) = IsFirstFaultOf raws f.0 f.1

-- the lines of two blocks, one after the other
spelled_join : (b c : Block) (x y : List Line) → IsSpelled b x → IsSpelled c y → IsSpelled (join b c) (x ++ y)
spelled_join Nothing c x y h k = subst (λ (ls : List Line). IsSpelled c (ls ++ y)) (sym h) k
spelled_join (Then s rest) c x y (z, e, h) k = (z ++ y, ap (λ (ls : List Line). ls ++ y) e, spelled_join rest c z y h k)
spelled_join (If a w first second rest) c x y (u, v, z, p, q, r, inl e) k = (
  u,
  v,
  z ++ y,
  p,
  q,
  spelled_join rest c z y r k,
  inl (ap (λ (ls : List Line). ls ++ y) e
      ∙ ap (λ (ls : List Line). Line.If a w ∷ ls) (append_assoc u (Line.Else ∷ (v ++ Line.End ∷ z)) y)
      ∙ ap (λ (ls : List Line). Line.If a w ∷ (u ++ Line.Else ∷ ls)) (append_assoc v (Line.End ∷ z) y)),
)
spelled_join (If a w first second rest) c x y (u, v, z, p, q, r, inr (n, e)) k =
    (u, v, z ++ y, p, q, spelled_join rest c z y r k, inr (n, ap (λ (ls : List Line). ls ++ y) e ∙ ap (λ (ls : List Line). Line.If a w ∷ ls) (append_assoc u (Line.End ∷ z) y)))

spelled_grow : (o : Open) (b : Block) (x y : List Line) → IsSpelledOpen o x → IsSpelled b y → IsSpelledOpen (grow o b) (x ++ y)
spelled_grow (Top b) c x y h k = spelled_join b c x y h k
spelled_grow (InFirst o a w first) c x y (u, v, p, q, e) k =
    (u, v ++ y, p, spelled_join first c v y q k, ap (λ (ls : List Line). ls ++ y) e ∙ append_assoc u (Line.If a w ∷ v) y)
spelled_grow (InSecond o a w first second) c x y (u, v, z, p, q, r, e) k = (
  u,
  v,
  z ++ y,
  p,
  q,
  spelled_join second c z y r k,
  ap (λ (ls : List Line). ls ++ y) e ∙ append_assoc u (Line.If a w ∷ (v ++ Line.Else ∷ z)) y
      ∙ ap (λ (ls : List Line). u ++ Line.If a w ∷ ls) (append_assoc v (Line.Else ∷ z) y),
)

spelled_same : (o : Open) (x y : List Line) → x ≡ y → IsSpelledOpen o x → IsSpelledOpen o y
spelled_same o x y e h = subst (IsSpelledOpen o) e h

spelled_plain : (o : Open) (s : Statement) (x : List Line) → IsSpelledOpen o x → IsSpelledOpen (grow o (Then s Nothing)) (x ++ Line.Plain s ∷ [])
spelled_plain o s x h = spelled_grow o (Then s Nothing) x (Line.Plain s ∷ []) h ([], refl, refl)

no_fault : (c : ScriptCause) → Some c ≡ None → ⊥
no_fault c e = cc e

-- one more line that may stand here
spelled_more : (o : Open) (l : Line) (x : List Line) → line_fault o l ≡ None → IsSpelledOpen o x → IsSpelledOpen (one_more o l) (x ++ l ∷ [])
spelled_more o (Line.Plain s) x f h = spelled_plain o s x h
spelled_more o (Line.If a w) x f h = (x, [], h, refl, refl)
spelled_more (Top b) Line.Else x f h = absurd (no_fault ScriptCause.Place f)
spelled_more (InFirst o a w first) Line.Else x f (u, v, p, q, e) =
    (u, v, [], p, q, refl, ap (λ (ls : List Line). ls ++ Line.Else ∷ []) e ∙ append_assoc u (Line.If a w ∷ v) (Line.Else ∷ []))
spelled_more (InSecond o a w first second) Line.Else x f h = absurd (no_fault ScriptCause.Place f)
spelled_more (Top b) Line.End x f h = absurd (no_fault ScriptCause.Place f)
spelled_more (InFirst o a w first) Line.End x f (u, v, p, q, e) =
    let b : Block = If a w first Nothing Nothing in
    let ls : List Line = Line.If a w ∷ (v ++ Line.End ∷ []) in
    spelled_same (grow o b) (u ++ ls) (x ++ Line.End ∷ []) (sym (ap (λ (ls : List Line). ls ++ Line.End ∷ []) e ∙ append_assoc u (Line.If a w ∷ v) (Line.End ∷ [])))
    (spelled_grow o b u ls p (v, [], [], q, refl, refl, inr (refl, refl)))
spelled_more (InSecond o a w first second) Line.End x f (u, v, z, p, q, r, e) =
    let b : Block = If a w first second Nothing in
    let ls : List Line = Line.If a w ∷ (v ++ Line.Else ∷ (z ++ Line.End ∷ [])) in
    spelled_same (grow o b) (u ++ ls) (x ++ Line.End ∷ [])
    (sym (ap (λ (ls : List Line). ls ++ Line.End ∷ []) e ∙ append_assoc u (Line.If a w ∷ (v ++ Line.Else ∷ z)) (Line.End ∷ [])
    ∙ ap (λ (ls : List Line). u ++ Line.If a w ∷ ls) (append_assoc v (Line.Else ∷ z) (Line.End ∷ []))))
    (spelled_grow o b u ls p (v, z, [], q, r, refl, inl refl))

within_more : (o : Open) (l : Line) → line_fault o l ≡ None → IsWithin o → IsWithin (one_more o l)
within_more o (Line.Plain s) f h = (
  (let p = widest_grow o (Then s Nothing) in let q = not_long o f in let r = h.0 in omega (arith, p, q, r)),
  (let p = deepest_grow o (Then s Nothing) in let q = depth_deepest o in let r = h.1 in omega (arith, p, q, r)),
)
within_more o (Line.If a w) f h = (
  (let q = (not_deep o a w f).1 in let r = h.0 in omega (arith, q, r)),
  (let q = (not_deep o a w f).0 in let r = h.1 in omega (arith, q, r)),
)
within_more (Top b) Line.Else f h = h
within_more (InFirst o a w first) Line.Else f h = (let r = h.0 in omega (arith, r), let r = h.1 in omega (arith, r))
within_more (InSecond o a w first second) Line.Else f h = h
within_more (Top b) Line.End f h = h
within_more (InFirst o a w first) Line.End f h = (
  (let p = widest_grow o (If a w first Nothing Nothing) in let q = path_widest o in let r = h.0 in omega (arith, p, q, r)),
  (let p = deepest_grow o (If a w first Nothing Nothing) in let q = depth_deepest o in let r = h.1 in omega (arith, p, q, r)),
)
within_more (InSecond o a w first second) Line.End f h = (
  (let p = widest_grow o (If a w first second Nothing) in let q = path_widest o in let r = h.0 in omega (arith, p, q, r)),
  (let p = deepest_grow o (If a w first second Nothing) in let q = depth_deepest o in let r = h.1 in omega (arith, p, q, r)),
)

lawful_more : (xs : List Raw) (raw : Raw) → AreLawful xs → IsLawful (reading raw) → AreLawful (xs ++ raw ∷ [])
lawful_more [] raw h l = (l, tt)
lawful_more (x ∷ xs) raw h l = (h.0, lawful_more xs raw h.1 l)

forms_more : (xs : List Raw) (raw : Raw) → forms_of (xs ++ raw ∷ []) ≡ forms_of xs ++ form_in (reading raw)
forms_more [] raw = append-nil (form_in (reading raw))
forms_more (x ∷ xs) raw = ap (λ (fs : List LineForm). form_in (reading x) ++ fs) (forms_more xs raw) ∙ sym (append_assoc (form_in (reading x)) (forms_of xs) (form_in (reading raw)))

-- one more line that says a form
forms_are : (xs : List Raw) (raw : Raw) (forms : List LineForm) (r : ScriptReading) → reading raw ≡ r → forms_of xs ≡ forms → forms_of (xs ++ raw ∷ []) ≡ forms ++ form_in r
forms_are xs raw forms r e h = forms_more xs raw ∙ ap (λ r. forms_of xs ++ form_in r) e ∙ ap (λ (fs : List LineForm). fs ++ form_in r) h

all_more : (scripts : List ScriptForm) (s : ScriptForm) → AreScripts scripts → IsScript s → AreScripts (scripts ++ s ∷ [])
all_more [] s h i = (i, tt)
all_more (x ∷ scripts) s h i = (h.0, all_more scripts s h.1 i)

are_spelled_more : (scripts : List ScriptForm) (s : ScriptForm) (x y : List LineForm) → AreSpelled scripts x → IsSpelledScript s y → AreSpelled (scripts ++ s ∷ []) (x ++ y)
are_spelled_more [] s x y h k = (y, [], k, refl, ap (λ (fs : List LineForm). fs ++ y) h ∙ sym (append-nil y))
are_spelled_more (t ∷ scripts) s x y (u, v, p, q, e) k = (u, v ++ y, p, are_spelled_more scripts s v y q k, ap (λ (fs : List LineForm). fs ++ y) e ∙ append_assoc u v y)

is_lawful : (raw : Raw) (r : ScriptReading) → reading raw ≡ r → IsLawful r → IsLawful (reading raw)
is_lawful raw r e l = subst IsLawful (sym e) l

skipped : (before : List Raw) (raw : Raw) (s : ScanState) → reading raw ≡ Skip → Reached before s → Reached (before ++ raw ∷ []) s
skipped before raw (Outside scripts) e h =
    let same = forms_are before raw (forms_of before) Skip e refl ∙ append-nil (forms_of before) in
    (h.0, lawful_more before raw h.1 (is_lawful raw Skip e tt), subst (AreSpelled scripts) (sym same) h.2)
skipped before raw (Inside scripts client o) e h =
    let same = forms_are before raw (forms_of before) Skip e refl ∙ append-nil (forms_of before) in
    (h.0, h.1, h.2, lawful_more before raw h.3 (is_lawful raw Skip e tt), subst (AreSpelledOpen scripts client o) (sym same) h.4)

begun : (before : List Raw) (raw : Raw) (scripts : List ScriptForm) (client : ℕ) → client < 1000 → reading raw ≡ Form (Begins client)
    → AreWhole before scripts → AreOpen (before ++ raw ∷ []) scripts client (Top Nothing)
begun before raw scripts client l e h = (
  h.0,
  l,
  (omega arith, omega arith),
  lawful_more before raw h.1 (is_lawful raw (Form (Begins client)) e tt),
  (forms_of before, [], h.2, refl, forms_are before raw (forms_of before) (Form (Begins client)) e refl),
)

one_said : (before : List Raw) (raw : Raw) (scripts : List ScriptForm) (client : ℕ) (o : Open) (l : Line) → line_fault o l ≡ None
    → reading raw ≡ Form (Says l) → AreOpen before scripts client o → AreOpen (before ++ raw ∷ []) scripts client (one_more o l)
one_said before raw scripts client o l f e (all, small, within, lawful, (x, ls, p, q, k)) =
    let m : map Says ls ++ Says l ∷ [] ≡ map Says (ls ++ l ∷ []) = sym (map-append Says ls (l ∷ [])) in (
      all,
      small,
      within_more o l f within,
      lawful_more before raw lawful (is_lawful raw (Form (Says l)) e tt),
      (
        x,
        ls ++ l ∷ [],
        p,
        spelled_more o l ls f q,
        forms_are before raw (x ++ Begins client ∷ map Says ls) (Form (Says l)) e k ∙ append_assoc x (Begins client ∷ map Says ls) (Says l ∷ [])
            ∙ ap (λ (fs : List LineForm). x ++ Begins client ∷ fs) m,
      ),
    )

one_ended : (before : List Raw) (raw : Raw) (scripts : List ScriptForm) (client : ℕ) (b : Block) (end : Ending)
    → reading raw ≡ Form (Closes end) → AreOpen before scripts client (Top b) → AreWhole (before ++ raw ∷ []) (scripts ++ record { client = client; block = b; ending = end } ∷ [])
one_ended before raw scripts client b end e (all, small, within, lawful, (x, ls, p, q, k)) =
    let s : ScriptForm = record { client = client; block = b; ending = end } in
    let forms : List LineForm = Begins client ∷ (map Says ls ++ Closes end ∷ []) in (
      all_more scripts s all (small, within.0, within.1),
      lawful_more before raw lawful (is_lawful raw (Form (Closes end)) e tt),
      subst (AreSpelled (scripts ++ s ∷ [])) (sym (forms_are before raw (x ++ Begins client ∷ map Says ls) (Form (Closes end)) e k ∙ append_assoc x (Begins client ∷ map Says ls) (Closes end ∷ [])))
          (are_spelled_more scripts s x forms p (ls, q, refl)),
    )

sound_so_far : (before : List Raw) (s : ScanState) → Reached before s → IsSound before
sound_so_far before (Outside scripts) h = inl (scripts, h)
sound_so_far before (Inside scripts client o) h = inr (o, (scripts, client, h))

bad : (before : List Raw) (raw : Raw) (raws : List Raw) (s : ScanState) (c : ScriptCause) → (c ≡ ScriptCause.Line) ⊎ (c ≡ ScriptCause.Words) → reading raw ≡ Bad c → Reached before s → IsFault before raw raws c
bad before raw raws s c (inl k) e h = subst (IsFault before raw raws) (sym k) (sound_so_far before s h, e ∙ ap Bad k)
bad before raw raws s c (inr k) e h = subst (IsFault before raw raws) (sym k) (sound_so_far before s h, e ∙ ap Bad k)

faulty : (before : List Raw) (raw : Raw) (raws : List Raw) (c : ScriptCause) → IsFault before raw raws c → IsFirstFaultOf (before ++ raw ∷ raws) (length before + 1) c
faulty before raw raws c h = (before, raw, raws, refl, refl, h)

abbrev Goes : List Raw → Raw → List Raw → Type 0
Goes before raw raws = (t : ScanState) → Reached (before ++ raw ∷ []) t → Answers (before ++ raw ∷ raws) (scan t (length before + 1) raws)

abbrev Advanced : List Raw → Raw → List Raw → Result ScanState ScriptCause → Type 0
Advanced before raw raws wanted = Answers (before ++ raw ∷ raws) (after wanted (length before + 1) (λ t. scan t (length before + 1) raws))

-- Why the line may not stand here, as the grammar says it.
abbrev FaultOf : List Raw → Raw → List Raw → Option ScriptCause → Type 0
FaultOf before raw raws None = Unit {0}
FaultOf before raw raws (Some c) = IsFault before raw raws c

full : (o : Open) → IsWithin o → ltb (path o) 256 ≡ false → path o + 1 ≡ 257
full o h e = let p = path_widest o in let q = h.0 in let r = ltb-false _ _ e in omega (arith, p, q, r)

long_plain : (before : List Raw) (raw : Raw) (raws : List Raw) (scripts : List ScriptForm) (client : ℕ) (o : Open) (s : Statement) (b : Bool) → ltb (path o) 256 ≡ b
    → reading raw ≡ Form (Says (Line.Plain s)) → AreOpen before scripts client o → FaultOf before raw raws (cond b None (Some ScriptCause.Long))
long_plain before raw raws scripts client o s true l e h = tt
long_plain before raw raws scripts client o s false l e h = (o, (scripts, client, h), (Line.Plain s, e, tt), full o h.2 l)

long_if : (before : List Raw) (raw : Raw) (raws : List Raw) (scripts : List ScriptForm) (client : ℕ) (o : Open) (a : Asking) (w : Wanted) (d b : Bool) → ltb (depth o) 16 ≡ d → ltb (path o) 256 ≡ b
    → reading raw ≡ Form (Says (Line.If a w)) → AreOpen before scripts client o → FaultOf before raw raws (cond d (cond b None (Some ScriptCause.Long)) (Some ScriptCause.Deep))
long_if before raw raws scripts client o a w true true n l e h = tt
long_if before raw raws scripts client o a w true false n l e h = (o, (scripts, client, h), (Line.If a w, e, ltb-true _ _ n), full o h.2 l)
long_if before raw raws scripts client o a w false b n l e h =
    (o, (scripts, client, h), (a, w, e), let p = depth_deepest o in let q = h.2.1 in let r = ltb-false _ _ n in omega (arith, p, q, r))

fault_here : (before : List Raw) (raw : Raw) (raws : List Raw) (scripts : List ScriptForm) (client : ℕ) (o : Open) (l : Line)
    → reading raw ≡ Form (Says l) → AreOpen before scripts client o → FaultOf before raw raws (line_fault o l)
fault_here before raw raws scripts client o (Line.Plain s) e h = long_plain before raw raws scripts client o s (ltb (path o) 256) refl e h
fault_here before raw raws scripts client o (Line.If a w) e h = long_if before raw raws scripts client o a w (ltb (depth o) 16) (ltb (path o) 256) refl refl e h
fault_here before raw raws scripts client (Top b) Line.Else e h = inr (Top b, (scripts, client, h), (Says Line.Else, e, refl))
fault_here before raw raws scripts client (InFirst o a w first) Line.Else e h = tt
fault_here before raw raws scripts client (InSecond o a w first second) Line.Else e h = inr (InSecond o a w first second, (scripts, client, h), (Says Line.Else, e, refl))
fault_here before raw raws scripts client (Top b) Line.End e h = inr (Top b, (scripts, client, h), (Says Line.End, e, refl))
fault_here before raw raws scripts client (InFirst o a w first) Line.End e h = tt
fault_here before raw raws scripts client (InSecond o a w first second) Line.End e h = tt

line_said : (before : List Raw) (raw : Raw) (raws : List Raw) (scripts : List ScriptForm) (client : ℕ) (o : Open) (l : Line) (f : Option ScriptCause) → line_fault o l ≡ f
    → reading raw ≡ Form (Says l) → AreOpen before scripts client o → FaultOf before raw raws f → Goes before raw raws → Advanced before raw raws (said scripts client (one_more o l) f)
line_said before raw raws scripts client o l None k e h f go = go (Inside scripts client (one_more o l)) (one_said before raw scripts client o l k e h)
line_said before raw raws scripts client o l (Some c) k e h f go = faulty before raw raws c f

line_ended : (before : List Raw) (raw : Raw) (raws : List Raw) (scripts : List ScriptForm) (client : ℕ) (o : Open) (end : Ending)
    → reading raw ≡ Form (Closes end) → AreOpen before scripts client o → Goes before raw raws → Advanced before raw raws (ended scripts client o end)
line_ended before raw raws scripts client (Top b) end e h go = go (Outside (scripts ++ record { client = client; block = b; ending = end } ∷ [])) (one_ended before raw scripts client b end e h)
line_ended before raw raws scripts client (InFirst o a w first) end e h go =
    faulty before raw raws ScriptCause.Place (inr (InFirst o a w first, (scripts, client, h), (Closes end, e, omega arith)))
line_ended before raw raws scripts client (InSecond o a w first second) end e h go =
    faulty before raw raws ScriptCause.Place (inr (InSecond o a w first second, (scripts, client, h), (Closes end, e, omega arith)))

line_goes : (before : List Raw) (raw : Raw) (raws : List Raw) (s : ScanState) (r : ScriptReading) → reading raw ≡ r → IsReading r → Reached before s → Goes before raw raws
    → Advanced before raw raws (advance s r)
line_goes before raw raws s (Bad c) e i h go = faulty before raw raws c (bad before raw raws s c i e h)
line_goes before raw raws s Skip e i h go = go s (skipped before raw s e h)
line_goes before raw raws (Outside scripts) (Form (Begins client)) e i h go = go (Inside scripts client (Top Nothing)) (begun before raw scripts client i e h)
line_goes before raw raws (Outside scripts) (Form (Says x)) e i h go = faulty before raw raws ScriptCause.Place (inl ((scripts, h), (Says x, e, tt)))
line_goes before raw raws (Outside scripts) (Form (Closes end)) e i h go = faulty before raw raws ScriptCause.Place (inl ((scripts, h), (Closes end, e, tt)))
line_goes before raw raws (Inside scripts client o) (Form (Begins other)) e i h go = faulty before raw raws ScriptCause.Place (inr (o, (scripts, client, h), (Begins other, e, tt)))
line_goes before raw raws (Inside scripts client o) (Form (Says x)) e i h go =
    line_said before raw raws scripts client o x (line_fault o x) refl e h (fault_here before raw raws scripts client o x e h) go
line_goes before raw raws (Inside scripts client o) (Form (Closes end)) e i h go = line_ended before raw raws scripts client o end e h go

last_of : (x : Raw) (xs : List Raw) → (init : List Raw) × (last : Raw) × (x ∷ xs ≡ init ++ last ∷ []) × (length (x ∷ xs) ≡ length init + 1)
last_of x [] = ([], x, refl, omega arith)
last_of x (y ∷ ys) = let h = last_of y ys in (x ∷ h.0, h.1, ap (λ (zs : List Raw). x ∷ zs) h.2, let l = h.3 in omega (arith, l))

no_lines : (front : List LineForm) (f : LineForm) (fs : List LineForm) → [] ≡ front ++ f ∷ fs → ⊥
no_lines [] f fs e = cc e
no_lines (g ∷ gs) f fs e = cc e

unfinished : (before : List Raw) (scripts : List ScriptForm) (client : ℕ) (o : Open) → AreOpen before scripts client o
    → IsFirstFaultOf before (length before) ScriptCause.Unfinished
unfinished [] scripts client o (all, small, within, lawful, (x, ls, p, q, k)) = absurd (no_lines x (Begins client) (map Says ls) k)
unfinished (x ∷ xs) scripts client o h =
    let l = last_of x xs in
    (l.0, l.1, [], l.2, l.3, (refl, (o, (scripts, client, subst (λ (raws : List Raw). AreOpen raws scripts client o) l.2 h))))

at_the_end : (before : List Raw) (s : ScanState) → Reached before s → Answers before (at_end s (length before))
at_the_end before (Outside scripts) h = h
at_the_end before (Inside scripts client o) h = unfinished before scripts client o h

moved : (before : List Raw) (raw : Raw) (raws : List Raw) (t : ScanState) → Answers ((before ++ raw ∷ []) ++ raws) (scan t (length (before ++ raw ∷ [])) raws)
    → Answers (before ++ raw ∷ raws) (scan t (length before + 1) raws)
moved before raw raws t h =
    let l : length (before ++ raw ∷ []) ≡ length before + 1 = rw length-append (omega arith) in
    subst (λ n. Answers (before ++ raw ∷ raws) (scan t n raws)) l (subst (λ (all : List Raw). Answers all (scan t (length (before ++ raw ∷ [])) raws)) (append_assoc before (raw ∷ []) raws) h)

goes : (raws before : List Raw) (s : ScanState) → Reached before s → Answers (before ++ raws) (scan s (length before) raws)
unfolding scan
goes [] before s h = subst (λ (all : List Raw). Answers all (at_end s (length before))) (sym (append-nil before)) (at_the_end before s h)
goes (raw ∷ raws) before s h =
    line_goes before raw raws s (reading raw) refl (readings raw) h (λ t k. moved before raw raws t (goes raws (before ++ raw ∷ []) t k))

pub answers : (raws : List Raw) → Answers raws (scan (Outside []) 0 raws)
answers raws = goes raws [] (Outside []) (tt, tt, refl)
