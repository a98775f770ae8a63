-- A scan finds the scripts of a text, and its first fault.
use Rattle.std.proofs.Common.{◌≡◌, ℕ, ◌+◌, ◌<◌, ◌≤◌, List, [], ◌∷◌, ◌++◌, length, map, inl, inr, None, Result, Ok, Err, refl, sym, ap, ◌∙◌, append_assoc, length-append, arith, append-nil, lt-ltb, le-ltb}
use Rattle.mlt_script.proofs.Names.{map-append, ScriptCause, LineForm, Begins, Says, Closes, ScriptReading, Bad, Skip, Form, Asking, Wanted, Statement, Line, Block, Open, join, grow, longest, nesting, path, depth, widest, deepest, Nothing, Then, If, Top, InFirst, InSecond, Raw, ScriptForm, IsScript, one_more, AreScripts, IsSpelled, IsSpelledOpen, IsSpelledScript, AreSpelled, IsLawful, AreLawful, form_in, forms_of, AreWhole, AreOpen, IsSound, IsFault, IsFirstFaultOf, ScanState, advance, said, after, line_fault, Outside, Inside, step}
use Rattle.mlt_script.{specs.Readings.reading, specs.TreeLaws.grow_nothing, specs.TreeLaws.grow_twice, specs.Grammar.IsNoBegin, specs.Grammar.HasNoPlace, specs.Grammar.IsAskingHere, specs.Scan.scan, proofs.Placing.path_grow, proofs.Placing.depth_grow}

abbrev and_then : Result ScanState ScriptCause → (ScanState → Result ScanState ScriptCause) → Result ScanState ScriptCause
and_then (Ok s) next = next s
and_then (Err c) next = Err c

-- form by form
walk : ScanState → List LineForm → Result ScanState ScriptCause
walk s [] = Ok s
walk s (f ∷ fs) = and_then (step s f) (λ t. walk t fs)

-- the state after lines of these forms
abbrev Leads : ScanState → List LineForm → ScanState → Type 0
Leads s forms t = walk s forms ≡ Ok t

walk_one : (s t : ScanState) (f : LineForm) (fs : List LineForm) → step s f ≡ Ok t → walk s (f ∷ fs) ≡ walk t fs
unfolding walk
walk_one s t f fs e = ap (λ r. and_then r (λ t. walk t fs)) e

walk_end : (s : ScanState) → walk s [] ≡ Ok s
unfolding walk
walk_end s = refl

module _ (scripts : List ScriptForm) (client : ℕ) where
  -- up to here in the script
  abbrev here : Open → ScanState
  here o = Inside scripts client o

  says : (o : Open) (l : Line) (fs : List LineForm) → line_fault o l ≡ None → walk (here o) (Says l ∷ fs) ≡ walk (here (one_more o l)) fs
  says o l fs f = walk_one (here o) (here (one_more o l)) (Says l) fs (ap (said scripts client (one_more o l)) f)

  plain_stands : (o : Open) (s : Statement) → path o < 256 → line_fault o (Line.Plain s) ≡ None
  plain_stands o s l = rw (lt-ltb (path o) 256 l) refl

  if_stands : (o : Open) (a : Asking) (w : Wanted) → path o < 256 → depth o < 16 → line_fault o (Line.If a w) ≡ None
  if_stands o a w l d = rw (lt-ltb (depth o) 16 d, lt-ltb (path o) 256 l) refl

  map_two : (x y : List Line) (l : Line) (more : List LineForm) → map Says (x ++ l ∷ y) ++ more ≡ map Says x ++ Says l ∷ (map Says y ++ more)
  map_two x y l more = ap (λ (fs : List LineForm). fs ++ more) (map-append Says x (l ∷ y)) ∙ append_assoc (map Says x) (Says l ∷ map Says y) more

  -- Within the limits the lines of a block may stand where they are.
  stands : (b : Block) (x : List Line) (o : Open) (more : List LineForm) → IsSpelled b x → path o + longest b ≤ 256 → depth o + nesting b ≤ 16
      → walk (here o) (map Says x ++ more) ≡ walk (here (grow o b)) more
  stands Nothing x o more h l d =
      ap (λ (ls : List Line). walk (here o) (map Says ls ++ more)) h ∙ ap (λ (p : Open). walk (here p) more) (sym (grow_nothing o))
  stands (Then s rest) x o more (z, e, h) l d =
      ap (λ (ls : List Line). walk (here o) (map Says ls ++ more)) e
      ∙ says o (Line.Plain s) (map Says z ++ more) (plain_stands o s (omega (arith, l)))
      ∙ stands rest z (grow o (Then s Nothing)) more h
      (let p = path_grow o (Then s Nothing) in omega (arith, p, l)) (let p = depth_grow o (Then s Nothing) in omega (arith, p, d))
      ∙ ap (λ (p : Open). walk (here p) more) (grow_twice o (Then s Nothing) rest)
  stands (If a w first second rest) x o more (u, v, z, p, q, r, inl e) l d =
      let whole : Block = If a w first second Nothing in
      ap (λ (ls : List Line). walk (here o) (map Says ls ++ more)) e
      ∙ says o (Line.If a w) (map Says (u ++ Line.Else ∷ (v ++ Line.End ∷ z)) ++ more) (if_stands o a w (omega (arith, l)) (omega (arith, d)))
      ∙ ap (walk (here (InFirst o a w Nothing))) (map_two u (v ++ Line.End ∷ z) Line.Else more)
      ∙ stands first u (InFirst o a w Nothing) (Says Line.Else ∷ (map Says (v ++ Line.End ∷ z) ++ more)) p (omega (arith, l)) (omega (arith, d))
      ∙ says (InFirst o a w first) Line.Else (map Says (v ++ Line.End ∷ z) ++ more) refl
      ∙ ap (walk (here (InSecond o a w first Nothing))) (map_two v z Line.End more)
      ∙ stands second v (InSecond o a w first Nothing) (Says Line.End ∷ (map Says z ++ more)) q (omega (arith, l)) (omega (arith, d))
      ∙ says (InSecond o a w first second) Line.End (map Says z ++ more) refl
      ∙ stands rest z (grow o whole) more r (let k = path_grow o whole in omega (arith, k, l)) (let k = depth_grow o whole in omega (arith, k, d))
      ∙ ap (λ (p : Open). walk (here p) more) (grow_twice o whole rest)
  stands (If a w first second rest) x o more (u, v, z, p, q, r, inr (n, e)) l d =
      let whole : Block = If a w first Nothing Nothing in
      let same : join whole rest ≡ If a w first second rest = ap (λ (b : Block). If a w first b rest) (sym n) in
      ap (λ (ls : List Line). walk (here o) (map Says ls ++ more)) e
      ∙ says o (Line.If a w) (map Says (u ++ Line.End ∷ z) ++ more) (if_stands o a w (omega (arith, l)) (omega (arith, d)))
      ∙ ap (walk (here (InFirst o a w Nothing))) (map_two u z Line.End more)
      ∙ stands first u (InFirst o a w Nothing) (Says Line.End ∷ (map Says z ++ more)) p (omega (arith, l)) (omega (arith, d))
      ∙ says (InFirst o a w first) Line.End (map Says z ++ more) refl
      ∙ stands rest z (grow o whole) more r (let k = path_grow o whole in omega (arith, k, l)) (let k = depth_grow o whole in omega (arith, k, d))
      ∙ ap (λ (p : Open). walk (here p) more) (grow_twice o whole rest ∙ ap (grow o) same)

  -- the lines of a script that is read up to somewhere, from its begin
  opens : (o : Open) (x : List Line) (more : List LineForm) → IsSpelledOpen o x → widest o ≤ 256 → deepest o ≤ 16
      → walk (here (Top Nothing)) (map Says x ++ more) ≡ walk (here o) more
  opens (Top b) x more h l d = stands b x (Top Nothing) more h (omega (arith, l)) (omega (arith, d))
  opens (InFirst o a w first) x more (u, v, p, q, e) l d =
      ap (λ (ls : List Line). walk (here (Top Nothing)) (map Says ls ++ more)) e
      ∙ ap (walk (here (Top Nothing))) (map_two u v (Line.If a w) more)
      ∙ opens o u (Says (Line.If a w) ∷ (map Says v ++ more)) p (omega (arith, l)) (omega (arith, d))
      ∙ says o (Line.If a w) (map Says v ++ more) (if_stands o a w (omega (arith, l)) (omega (arith, d)))
      ∙ stands first v (InFirst o a w Nothing) more q (omega (arith, l)) (omega (arith, d))
  opens (InSecond o a w first second) x more (u, v, z, p, q, r, e) l d =
      ap (λ (ls : List Line). walk (here (Top Nothing)) (map Says ls ++ more)) e
      ∙ ap (walk (here (Top Nothing))) (map_two u (v ++ Line.Else ∷ z) (Line.If a w) more)
      ∙ opens o u (Says (Line.If a w) ∷ (map Says (v ++ Line.Else ∷ z) ++ more)) p (omega (arith, l)) (omega (arith, d))
      ∙ says o (Line.If a w) (map Says (v ++ Line.Else ∷ z) ++ more) (if_stands o a w (omega (arith, l)) (omega (arith, d)))
      ∙ ap (walk (here (InFirst o a w Nothing))) (map_two v z Line.Else more)
      ∙ stands first v (InFirst o a w Nothing) (Says Line.Else ∷ (map Says z ++ more)) q (omega (arith, l)) (omega (arith, d))
      ∙ says (InFirst o a w first) Line.Else (map Says z ++ more) refl
      ∙ stands second z (InSecond o a w first Nothing) more r (omega (arith, l)) (omega (arith, d))

walk_script : (s : ScriptForm) (scripts : List ScriptForm) (x more : List LineForm) → IsScript s → IsSpelledScript s x → walk (Outside scripts) (x ++ more) ≡ walk (Outside (scripts ++ s ∷ [])) more
walk_script s scripts x more h (ls, p, e) =
    ap (λ (fs : List LineForm). walk (Outside scripts) (fs ++ more)) e
    ∙ walk_one (Outside scripts) (Inside scripts s.client (Top Nothing)) (Begins s.client) ((map Says ls ++ Closes s.ending ∷ []) ++ more) refl
    ∙ ap (walk (Inside scripts s.client (Top Nothing))) (append_assoc (map Says ls) (Closes s.ending ∷ []) more)
    ∙ stands scripts s.client s.block ls (Top Nothing) (Closes s.ending ∷ more) p (let l = h.1 in omega (arith, l)) (let d = h.2 in omega (arith, d))
    ∙ walk_one (Inside scripts s.client (Top s.block)) (Outside (scripts ++ s ∷ [])) (Closes s.ending) more refl

walk_scripts : (found scripts : List ScriptForm) (x more : List LineForm) → AreScripts found → AreSpelled found x → walk (Outside scripts) (x ++ more) ≡ walk (Outside (scripts ++ found)) more
walk_scripts [] scripts x more h e =
    ap (λ (fs : List LineForm). walk (Outside scripts) (fs ++ more)) e ∙ ap (λ (xs : List ScriptForm). walk (Outside xs) more) (sym (append-nil scripts))
walk_scripts (s ∷ found) scripts x more h (u, v, p, q, e) =
    ap (λ (fs : List LineForm). walk (Outside scripts) (fs ++ more)) e
    ∙ ap (walk (Outside scripts)) (append_assoc u v more)
    ∙ walk_script s scripts u (v ++ more) h.0 p
    ∙ walk_scripts found (scripts ++ s ∷ []) v more h.1 q
    ∙ ap (λ (xs : List ScriptForm). walk (Outside xs) more) (append_assoc scripts (s ∷ []) found)

whole_leads : (raws : List Raw) (scripts : List ScriptForm) → AreWhole raws scripts → Leads (Outside []) (forms_of raws) (Outside scripts)
whole_leads raws scripts h =
    ap (walk (Outside [])) (sym (append-nil (forms_of raws))) ∙ walk_scripts scripts [] (forms_of raws) [] h.0 h.2 ∙ walk_end (Outside scripts)

open_leads : (raws : List Raw) (scripts : List ScriptForm) (client : ℕ) (o : Open) → AreOpen raws scripts client o
    → Leads (Outside []) (forms_of raws) (Inside scripts client o)
open_leads raws scripts client o (all, small, within, lawful, (x, ls, p, q, k)) =
    ap (walk (Outside [])) k ∙ walk_scripts scripts [] x (Begins client ∷ map Says ls) all p
    ∙ walk_one (Outside scripts) (Inside scripts client (Top Nothing)) (Begins client) (map Says ls) refl
    ∙ ap (walk (Inside scripts client (Top Nothing))) (sym (append-nil (map Says ls)))
    ∙ opens scripts client o ls [] q within.0 within.1 ∙ walk_end (Inside scripts client o)

abbrev Scans : ScanState → List Raw → List Raw → ScanState → ℕ → Type 0
Scans s raws more t n = scan s n (raws ++ more) ≡ scan t (n + length raws) more

stepped : (wanted : Result ScanState ScriptCause) (fs : List LineForm) (t : ScanState) (n : ℕ) (next : ScanState → Result (List ScriptForm) (ℕ × ScriptCause)) (total : Result (List ScriptForm) (ℕ × ScriptCause))
    → and_then wanted (λ u. walk u fs) ≡ Ok t → ((u : ScanState) → walk u fs ≡ Ok t → next u ≡ total) → after wanted n next ≡ total
stepped (Ok u) fs t n next total e go = go u e
stepped (Err c) fs t n next total e go = absurd (cc e)

read_goes : (r : ScriptReading) (s t : ScanState) (fs : List LineForm) (n : ℕ) (next : ScanState → Result (List ScriptForm) (ℕ × ScriptCause)) (total : Result (List ScriptForm) (ℕ × ScriptCause))
    → IsLawful r → walk s (form_in r ++ fs) ≡ Ok t → ((u : ScanState) → walk u fs ≡ Ok t → next u ≡ total) → after (advance s r) n next ≡ total
unfolding walk
read_goes (Bad c) s t fs n next total l e go = absurd l
read_goes Skip s t fs n next total l e go = go s e
read_goes (Form f) s t fs n next total l e go = stepped (step s f) fs t n next total e go

same_state : (s t : ScanState) → Leads s [] t → s ≡ t
unfolding walk
same_state s t e = cc

-- lines without a fault are gone over
goes : (raws more : List Raw) (s t : ScanState) (n : ℕ) → AreLawful raws → Leads s (forms_of raws) t → Scans s raws more t n
unfolding scan
goes [] more s t n l e = ap (λ u. scan u n more) (same_state s t e) ∙ ap (λ k. scan t k more) (omega arith)
goes (raw ∷ raws) more s t n l e =
    read_goes (reading raw) s t (forms_of raws) (n + 1) (λ u. scan u (n + 1) (raws ++ more)) (scan t (n + length (raw ∷ raws)) more) l.0 e
    (λ u h. goes raws more u t (n + 1) l.1 h ∙ ap (λ k. scan t k more) (omega arith))

pub finds_scripts : (raws : List Raw) (scripts : List ScriptForm) → AreWhole raws scripts → scan (Outside []) 0 raws ≡ Ok scripts
unfolding scan
finds_scripts raws scripts h =
    ap (scan (Outside []) 0) (sym (append-nil raws)) ∙ goes raws [] (Outside []) (Outside scripts) 0 h.1 (whole_leads raws scripts h)

-- the state that lines without a fault lead to
up_to : (before : List Raw) → IsSound before → (s : ScanState) × AreLawful before × Leads (Outside []) (forms_of before) s
up_to before (inl (scripts, h)) = (Outside scripts, h.1, whole_leads before scripts h)
up_to before (inr (o, (scripts, client, h))) = (Inside scripts client o, h.3, open_leads before scripts client o h)

fault_at : (before : List Raw) (raw : Raw) (after_it : List Raw) (s : ScanState) (r : ScriptReading) (c : ScriptCause) → AreLawful before → Leads (Outside []) (forms_of before) s
    → reading raw ≡ r → advance s r ≡ Err c → scan (Outside []) 0 (before ++ raw ∷ after_it) ≡ Err (length before + 1, c)
unfolding scan
fault_at before raw after_it s r c l h e a =
    goes before (raw ∷ after_it) (Outside []) s 0 l h
    ∙ ap (λ r. after (advance s r) (0 + length before + 1) (λ t. scan t (0 + length before + 1) after_it)) e
    ∙ ap (λ w. after w (0 + length before + 1) (λ t. scan t (0 + length before + 1) after_it)) a
    ∙ ap (λ n. Err (n, c)) (omega arith)

no_begin : (scripts : List ScriptForm) (form : LineForm) → IsNoBegin form → advance (Outside scripts) (Form form) ≡ Err ScriptCause.Place
no_begin scripts (Begins client) h = absurd h
no_begin scripts (Says x) h = refl
no_begin scripts (Closes e) h = refl

no_place : (scripts : List ScriptForm) (client : ℕ) (o : Open) (form : LineForm) → HasNoPlace o form → advance (Inside scripts client o) (Form form) ≡ Err ScriptCause.Place
no_place scripts client o (Begins other) h = refl
no_place scripts client (Top b) (Closes e) h = absurd (omega (arith, h))
no_place scripts client (InFirst o a w first) (Closes e) h = refl
no_place scripts client (InSecond o a w first second) (Closes e) h = refl
no_place scripts client (Top b) (Says Line.Else) h = refl
no_place scripts client (InFirst o a w first) (Says Line.Else) h = absurd (cc h)
no_place scripts client (InSecond o a w first second) (Says Line.Else) h = refl
no_place scripts client (Top b) (Says Line.End) h = refl
no_place scripts client (InFirst o a w first) (Says Line.End) h = absurd (omega (arith, h))
no_place scripts client (InSecond o a w first second) (Says Line.End) h = absurd (omega (arith, h))
no_place scripts client o (Says (Line.Plain s)) h = absurd h
no_place scripts client o (Says (Line.If a w)) h = absurd h

too_long : (scripts : List ScriptForm) (client : ℕ) (o : Open) (l : Line) → IsAskingHere o l → path o + 1 ≡ 257 → advance (Inside scripts client o) (Form (Says l)) ≡ Err ScriptCause.Long
too_long scripts client o (Line.Plain s) h k = rw (le-ltb (path o) 256 (omega (arith, k))) refl
too_long scripts client o (Line.If a w) h k = rw (lt-ltb (depth o) 16 h, le-ltb (path o) 256 (omega (arith, k))) refl
too_long scripts client o Line.Else h k = absurd h
too_long scripts client o Line.End h k = absurd h

too_deep : (scripts : List ScriptForm) (client : ℕ) (o : Open) (a : Asking) (w : Wanted) → depth o ≡ 16 → advance (Inside scripts client o) (Form (Says (Line.If a w))) ≡ Err ScriptCause.Deep
too_deep scripts client o a w d = rw (le-ltb (depth o) 16 (omega (arith, d))) refl

ends_open : (raws : List Raw) (scripts : List ScriptForm) (client : ℕ) (o : Open) → AreOpen raws scripts client o → scan (Outside []) 0 raws ≡ Err (length raws, ScriptCause.Unfinished)
unfolding scan
ends_open raws scripts client o h =
    ap (scan (Outside []) 0) (sym (append-nil raws)) ∙ goes raws [] (Outside []) (Inside scripts client o) 0 h.3 (open_leads raws scripts client o h)
    ∙ ap (λ n. Err (n, ScriptCause.Unfinished)) (omega arith)

finds_it : (before : List Raw) (raw : Raw) (after_it : List Raw) (c : ScriptCause) → IsFault before raw after_it c → scan (Outside []) 0 (before ++ raw ∷ after_it) ≡ Err (length before + 1, c)
finds_it before raw after_it ScriptCause.Line h = let u = up_to before h.0 in fault_at before raw after_it u.0 (Bad ScriptCause.Line) ScriptCause.Line u.1 u.2 h.1 refl
finds_it before raw after_it ScriptCause.Words h = let u = up_to before h.0 in fault_at before raw after_it u.0 (Bad ScriptCause.Words) ScriptCause.Words u.1 u.2 h.1 refl
finds_it before raw after_it ScriptCause.Place (inl ((scripts, h), (form, e, n))) =
    fault_at before raw after_it (Outside scripts) (Form form) ScriptCause.Place h.1 (whole_leads before scripts h) e (no_begin scripts form n)
finds_it before raw after_it ScriptCause.Place (inr (o, (scripts, client, h), (form, e, n))) =
    fault_at before raw after_it (Inside scripts client o) (Form form) ScriptCause.Place h.3 (open_leads before scripts client o h) e (no_place scripts client o form n)
finds_it before raw after_it ScriptCause.Deep (o, (scripts, client, h), (a, w, e), d) =
    fault_at before raw after_it (Inside scripts client o) (Form (Says (Line.If a w))) ScriptCause.Deep h.3 (open_leads before scripts client o h) e (too_deep scripts client o a w d)
finds_it before raw after_it ScriptCause.Long (o, (scripts, client, h), (l, e, i), k) =
    fault_at before raw after_it (Inside scripts client o) (Form (Says l)) ScriptCause.Long h.3 (open_leads before scripts client o h) e (too_long scripts client o l i k)
finds_it before raw after_it ScriptCause.Unfinished (none, (o, (scripts, client, h))) =
    ap (λ (xs : List Raw). scan (Outside []) 0 (before ++ raw ∷ xs)) none ∙ ends_open (before ++ raw ∷ []) scripts client o h
    ∙ ap (λ n. Err (n, ScriptCause.Unfinished)) (rw length-append (omega arith))

pub finds_fault : (raws : List Raw) (line : ℕ) (c : ScriptCause) → IsFirstFaultOf raws line c → scan (Outside []) 0 raws ≡ Err (line, c)
finds_fault raws line c (before, raw, after_it, e, n, h) = ap (scan (Outside []) 0) e ∙ finds_it before raw after_it c h ∙ ap (λ k. Err (k, c)) (sym n)
